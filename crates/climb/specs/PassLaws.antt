-- Laws: the output of a node of level 1 goes up. What the code leaves then.
use Rattle.std.specs.Prelude.{◌≡◌, refl, List, [], ◌∷◌, ℕ, ◌+◌, ◌-◌, ◌*◌, ◌^◌, ◌≤◌, ◌<◌, length}
use Rattle.std.proofs.Common.{sym, ◌∙◌, arith}
use Rattle.std.proofs.lemmas.List.Edits.{sets}
use Rattle.std.proofs.Math.Seq.{length-sets}
use Rattle.tree.specs.Tree.{Params, Node, node, output_words, out_words, node_log}
use Rattle.calls.specs.Area.{Long, params_of, levels_up, empty_level}
use Rattle.calls.specs.Calls.{Made, receive}
use Rattle.node.specs.declared.Keyed.{Keyed}
use Rattle.node.specs.Words.{node_words, tree_params}
use Rattle.climb.specs.Levels.{with_level, HasLevel, up_step, other-up, length_with, params_with, length-empty, first-level, with_up}
use Rattle.climb.specs.ReceiveLaws.{made, received, Climbed, Coming, log-more}
use Rattle.climb.specs.Left.{Left}

-- a node of a parallel level 1 is made: level 1 is empty, and the node's output goes to level 2; from there on n levels may be parallel
abbrev pub passed : Params → ℕ → ℕ → Node → List ℕ → List (List ℕ) → Made
passed P n index m out up =
    let above : Made = receive P n 2 index out up in
    made (empty_level ∷ above.levels) (m ∷ above.nodes)

-- the same from the words of its output, as the code does it, which no longer has the block. The node here has no block: the log has U
-- and V of a node and no word of its block, and `passed-node` gives it the block with that output.
abbrev pub passed_words : Keyed → ℕ → List ℕ → List ℕ → Made
passed_words keyed index out area =
    let P : Params = tree_params keyed in
    passed P (keyed.params.limit - 1) index (node P 1 index 0 0 []) out (levels_up area 2)

-- what the code needs where level 1 is parallel
pub record Parallel (keyed : Keyed) (area : List ℕ) : Type 0 where
  pub long : Long area
  pub own : (params_of area).limit ≡ keyed.params.limit
  pub some : 1 ≤ keyed.params.limit

-- and to pass an output on
pub record Passing (keyed : Keyed) (index : ℕ) (out area log : List ℕ) (at : ℕ) : Type 0 where
  pub parallel : Parallel keyed area
  pub small : index < 2 ^ 56
  pub words : length out ≡ output_words
  pub room : at + 2 * length (passed_words keyed index out area).nodes ≤ length log

-- as much of a log as is left from a place on has room, too
pub passing_rest : {keyed : Keyed} {index : ℕ} {out area log rest : List ℕ} {at : ℕ} → Passing keyed index out area log at → length log ≤ at + length rest
    → Passing keyed index out area rest 0
passing_rest p h = record { parallel = p.parallel; small = p.small; words = p.words; room = omega (arith, p.room, h) }

-- the node has any block with that output
pub passed-node : (keyed : Keyed) (index : ℕ) {out area log : List ℕ} {at : ℕ} {area' log' : List ℕ} {at' : ℕ} (block : List ℕ)
    → out ≡ node_words (tree_params keyed) 1 index 0 0 block → Left (passed_words keyed index out area) area log at area' log' at'
    → (let m : Node = node (tree_params keyed) 1 index 0 0 block in
    Left (passed (tree_params keyed) (keyed.params.limit - 1) index m (out_words (tree_params keyed) m) (levels_up area 2)) area log at area' log' at')
passed-node keyed index block e l = rw (← e) record { levels = l.levels; logged = l.logged; next = l.next }

module _ {keyed : Keyed} {index : ℕ} {out area log : List ℕ} {at : ℕ}
    (p : Passing keyed index out area log at) where
  abbrev P : Params
  P = tree_params keyed

  abbrev limit : ℕ
  limit = keyed.params.limit

  abbrev no_block : Node
  no_block = node P 1 index 0 0 []

  first : HasLevel area 1
  first = first-level p.parallel.long

  same : params_of (with_level area 1 empty_level) ≡ params_of area
  same = params_with first empty_level length-empty

  module _ {log₁ area₁ : List ℕ} (l : log₁ ≡ sets log at (node_log (no_block ∷ []))) (e₁ : area₁ ≡ with_level area 1 empty_level) where
    abbrev above : Made
    above = receive P (limit - 1) 2 index out (levels_up area 2)

    above_is : received keyed 2 index out area₁ ≡ above
    above_is =
        let e : limit + 1 - 2 ≡ limit - 1 = omega arith in
        rw (e₁, other-up first empty_level length-empty, e) refl

    pub pass_coming : Coming keyed 2 index out area₁ log₁ (at + 2)
    pass_coming = record {
      level = record { long = rw (e₁, length_with first empty_level length-empty, same) p.parallel.long; low = omega arith; high = rw (e₁, same) (omega (arith, p.parallel.own, p.parallel.some)) };
      own = rw (e₁, same) p.parallel.own;
      small = p.small;
      words = p.words;
      room = rw (above_is, l, length-sets log at (node_log (no_block ∷ []))) (omega (arith, p.room));
    }

    pub pass_up : {area' log' : List ℕ} {at' : ℕ} → Climbed 2 (received keyed 2 index out area₁) area₁ log₁ (at + 2) area' log' at'
        → Left (passed_words keyed index out area) area log at area' log' at'
    pass_up c₁ =
        let c : Climbed 2 above area₁ log₁ (at + 2) _ _ _ = rw above_is at c₁ in
        record {
          levels = c.levels ∙ rw e₁ (sym (up_step first empty_level length-empty above.levels)) ∙ sym (with_up area (empty_level ∷ above.levels));
          logged = c.logged ∙ rw l (sym (log-more log at no_block above.nodes));
          next = omega (arith, c.next);
        }
