-- Laws: what is left of levels and nodes that a definition gives, and of one after the other.
use Rattle.std.specs.Prelude.{◌≡◌, List, ◌++◌, ℕ, ◌+◌, ◌-◌, ◌*◌, ◌≤◌, length}
use Rattle.std.proofs.Common.{sym, ap, ◌∙◌, arith, length-append}
use Rattle.std.proofs.lemmas.List.Edits.{sets}
use Rattle.lists.specs.Part.{put}
use Rattle.tree.proofs.OutputLaws.{length-node_log}
use Rattle.tree.specs.Tree.{node_log}
use Rattle.calls.specs.Area.{Long, params_of, levels_of, with_levels}
use Rattle.calls.proofs.AreaLaws.{length-with_levels, params-with_levels, levels_of-with_levels}
use Rattle.calls.specs.Calls.{Made}
use Rattle.calls.proofs.Widths.{Wide}
use Rattle.calls.proofs.WriteLaws.{with_levels_again}
use Rattle.climb.specs.MakeLaws.{log_rest, stored_rest}
use Rattle.climb.specs.ReceiveLaws.{made, log-append}

-- area, log and the place where the log goes on, for levels and nodes that a definition gives
pub record Left (F : Made) (area log : List ℕ) (at : ℕ) (area' log' : List ℕ) (at' : ℕ) : Type 0 where
  pub levels : area' ≡ with_levels area F.levels
  pub logged : log' ≡ sets log at (node_log F.nodes)
  pub next : at' ≡ at + 2 * length F.nodes

-- a step is lent the rest of the log, from the place where it goes on
pub left_rest : {F : Made} {area log : List ℕ} (at : ℕ) {area' rest log' : List ℕ} {n : ℕ} → at + 2 * length F.nodes ≤ length log
    → Left F area (log_rest at log) 0 area' rest n → log' ≡ put at (length log - at) log rest → Left F area log at area' log' (at + n)
left_rest {F} {log = log} at room l el = record {
  levels = l.levels;
  logged = stored_rest (node_log F.nodes) at log (rw (length-node_log F.nodes) room) l.logged el;
  next = omega (arith, l.next);
}

-- ---- as many levels as there were, of 64 words each

module _ {F : Made} {area log : List ℕ} {at : ℕ} {area₁ log₁ : List ℕ} {at₁ : ℕ} (long : Long area) (wide : Wide (params_of area).limit F.levels)
    (l : Left F area log at area₁ log₁ at₁) where
  pub left-length : length area₁ ≡ length area
  left-length = ap length l.levels ∙ length-with_levels area F.levels long wide.widths wide.size

  pub left-params : params_of area₁ ≡ params_of area
  left-params = ap params_of l.levels ∙ params-with_levels area F.levels long wide.widths wide.size

  pub left-long : Long area₁
  left-long = rw (left-length, left-params) long

  pub left-levels : levels_of area₁ ≡ F.levels
  left-levels = ap levels_of l.levels ∙ levels_of-with_levels area F.levels long wide.widths wide.size

  -- other levels put over them
  pub left_again : (L : List (List ℕ)) → with_levels area₁ L ≡ with_levels area L
  left_again L = ap (λ (x : List ℕ). with_levels x L) l.levels ∙ with_levels_again area F.levels L long wide.widths wide.size

  -- one after the other
  pub left_then : {G : Made} {area₂ log₂ : List ℕ} {at₂ : ℕ} → Left G area₁ log₁ at₁ area₂ log₂ at₂
      → Left (made G.levels (F.nodes ++ G.nodes)) area log at area₂ log₂ at₂
  left_then {G} m = record {
    levels = m.levels ∙ left_again G.levels;
    logged = m.logged ∙ ap (λ (x : List ℕ). sets x at₁ (node_log G.nodes)) l.logged
        ∙ ap (λ (k : ℕ). sets (sets log at (node_log F.nodes)) k (node_log G.nodes)) l.next
        ∙ sym (log-append log at F.nodes G.nodes);
    next = omega (arith, m.next, l.next, length-append F.nodes G.nodes);
  }
