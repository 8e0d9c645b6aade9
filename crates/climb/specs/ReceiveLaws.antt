-- Laws: of `receive` in Calls: one for each way that it takes at a level, and the loop over the levels.
use Rattle.std.specs.Prelude.{◌≡◌, refl, Bool, true, false, List, [], ◌∷◌, ◌++◌, ℕ, suc, ◌+◌, ◌-◌, ◌*◌, ◌/◌, ◌%◌, ◌^◌, ◌≤◌, ◌<◌, length, drop, replicate, set}
use Rattle.std.proofs.Common.{sym, ap, ◌∙◌, arith, eq-eqb, ne_eqb}
use Rattle.std.proofs.lemmas.List.Edits.{sets}
use Rattle.std.proofs.Math.Seq.{length-sets}
use Rattle.lists.specs.Part.{put}
use Rattle.lists.specs.PartLaws.{first_stores}
use Rattle.tree.proofs.OutputLaws.{length-node_log, node_log-append}
use Rattle.tree.specs.Tree.{Params, Node, node, most_levels, output_words, out_words, node_log, logged}
use Rattle.calls.specs.Area.{block_words, own_levels, Long, params_of, level_words, levels_up, empty_level}
use Rattle.calls.proofs.AreaLaws.{length-level_words, levels_up-cons, levels_up_none}
use Rattle.calls.specs.Calls.{Made, chained, join_parallel, join_sequential, receive}
use Rattle.calls.proofs.Receive
use Rattle.calls.proofs.Widths.{length-chained}
pub use Rattle.tree.proofs.OutputLaws.{length-out_words}
use Rattle.climb.specs.Levels.{output_place, place-fits, length-empty, with_level, up_area, HasLevel, Joins, up_step, up-level, up_same, other-up, level_with, with_with, length_with, params_with, level-still, length-joined}
use Rattle.node.specs.declared.Keyed.{Keyed}
use Rattle.node.specs.Words.{tree_params}
use Rattle.climb.specs.MakeLaws.{Logged, log_rest, length-log_rest, stored_rest}

abbrev pub made : List (List ℕ) → List Node → Made
made levels nodes = record { levels = levels; nodes = nodes }

-- what comes of an output at a level of an area and above it, where the levels up to L are parallel
abbrev pub received : Keyed → ℕ → ℕ → List ℕ → List ℕ → Made
received keyed k i out area = receive (tree_params keyed) (keyed.params.limit + 1 - k) k i out (levels_up area k)

module _ (keyed : Keyed) (k i : ℕ) (out area : List ℕ) (high : k ≤ own_levels area) where
  -- the node of a parallel level whose block is full, and of a sequential one
  abbrev pub full_node : Node
  full_node = node (tree_params keyed) k (i / 4) 0 0 (join_parallel i out (level_words area k))

  abbrev pub last_node : Node
  last_node = node (tree_params keyed) k (i / 3) 0 0 (join_sequential i out (level_words area k))

  -- n levels from this one up may be parallel
  abbrev n : ℕ
  n = keyed.params.limit + 1 - k

  module _ (h : k ≤ keyed.params.limit) where
    more : n ≡ suc (keyed.params.limit + 1 - suc k)
    more = omega arith

    received-full : i % 4 ≡ 3
        → (let above : Made = received keyed (k + 1) (i / 4) (out_words (tree_params keyed) full_node) area in
        received keyed k i out area ≡ made (empty_level ∷ above.levels) (full_node ∷ above.nodes))
    received-full e =
        let q : k + 1 ≡ suc k = omega arith in
        rw (levels_up-cons area k high, more, q)
        (Receive.par-yes (tree_params keyed) (keyed.params.limit + 1 - suc k) k i out (level_words area k) (levels_up area (suc k)) (eq-eqb (i % 4) 3 e))

    received-part : (i % 4 ≡ 3 → ⊥) → received keyed k i out area ≡ made (join_parallel i out (level_words area k) ∷ levels_up area (k + 1)) []
    received-part e =
        rw (levels_up-cons area k high, more)
        (Receive.par-no (tree_params keyed) (keyed.params.limit + 1 - suc k) k i out (level_words area k) (levels_up area (k + 1)) (ne_eqb (i % 4) 3 e))

  module _ (h : keyed.params.limit < k) where
    none : n ≡ 0
    none = omega arith

    received-chained : i % 3 ≡ 2
        → received keyed k i out area ≡ made (chained (tree_params keyed) last_node ∷ levels_up area (k + 1)) (last_node ∷ [])
    received-chained e =
        rw (levels_up-cons area k high, none)
        (Receive.seq-yes (tree_params keyed) k i out (level_words area k) (levels_up area (k + 1)) (eq-eqb (i % 3) 2 e))

    received-held : (i % 3 ≡ 2 → ⊥)
        → received keyed k i out area ≡ made (join_sequential i out (level_words area k) ∷ levels_up area (k + 1)) []
    received-held e =
        rw (levels_up-cons area k high, none)
        (Receive.seq-no (tree_params keyed) k i out (level_words area k) (levels_up area (k + 1)) (ne_eqb (i % 3) 2 e))

-- ---- the log

-- one node more is logged
pub log-more : (log : List ℕ) (at : ℕ) (m : Node) (ms : List Node) → sets log at (node_log (m ∷ ms)) ≡ sets (sets log at (node_log (m ∷ []))) (at + 2) (node_log ms)
log-more log at m ms = let e : at + 2 ≡ suc (suc at) = omega arith in rw e

-- nodes after others
sets_append : (l : List ℕ) (at : ℕ) (xs ys : List ℕ) → sets l at (xs ++ ys) ≡ sets (sets l at xs) (at + length xs) ys
sets_append l at [] ys = let e : at + 0 ≡ at = omega arith in rw e
sets_append l at (x ∷ xs) ys = let e : at + suc (length xs) ≡ suc at + length xs = omega arith in rw e (sets_append (set l at x) (suc at) xs ys)

pub log-append : (log : List ℕ) (at : ℕ) (ms ns : List Node) → sets log at (node_log (ms ++ ns)) ≡ sets (sets log at (node_log ms)) (at + 2 * length ms) (node_log ns)
log-append log at ms ns = rw (node_log-append ms ns, sets_append log at (node_log ms) (node_log ns), length-node_log ms)

-- the words stored from the first on are those that the log has then
pub log-written : (nodes : List Node) (log : List ℕ) → 2 * length nodes ≤ length log → sets log 0 (node_log nodes) ≡ logged nodes log
log-written nodes log h =
    first_stores (node_log nodes) log (rw (length-node_log nodes) h) ∙ ap (λ (k : ℕ). node_log nodes ++ drop k log) (length-node_log nodes)

-- ---- an output comes to a level

-- what is left of levels and nodes that a definition gives: the levels from a level on, U and V of the nodes in the log from a
-- place on, and the place where the log goes on
pub record Climbed (k : ℕ) (F : Made) (area log : List ℕ) (at : ℕ) (area' log' : List ℕ) (at' : ℕ) : Type 0 where
  pub levels : area' ≡ up_area area k F.levels
  pub logged : log' ≡ sets log at (node_log F.nodes)
  pub next : at' ≡ at + 2 * length F.nodes

-- output i comes to a level: what the code needs then
pub record Coming (keyed : Keyed) (k i : ℕ) (out area log : List ℕ) (at : ℕ) : Type 0 where
  pub level : HasLevel area k
  pub own : (params_of area).limit ≡ keyed.params.limit
  pub small : i < 2 ^ 56
  pub words : length out ≡ output_words
  pub room : at + 2 * length (received keyed k i out area).nodes ≤ length log

-- a step is lent the rest of the log, from the place where it goes on
pub climbed_rest : {k : ℕ} {F : Made} {area log : List ℕ} (at : ℕ) {area' rest log' : List ℕ} {n : ℕ} → at + 2 * length F.nodes ≤ length log
    → Climbed k F area (log_rest at log) 0 area' rest n → log' ≡ put at (length log - at) log rest → Climbed k F area log at area' log' (at + n)
climbed_rest {F = F} {log = log} at room c el = record {
  levels = c.levels;
  logged = stored_rest (node_log F.nodes) at log (rw (length-node_log F.nodes) room) c.logged el;
  next = omega (arith, c.next);
}

pub coming_rest : {keyed : Keyed} {k i : ℕ} {out area log : List ℕ} {at : ℕ} → Coming keyed k i out area log at → Coming keyed k i out area (log_rest at log) 0
coming_rest {log = log} {at} c = record { level = c.level; own = c.own; small = c.small; words = c.words; room = omega (arith, c.room, length-log_rest at log) }

-- it can be given to the level
pub coming-joins : {keyed : Keyed} {k i : ℕ} {out area log : List ℕ} {at place : ℕ}
    → Coming keyed k i out area log at
    → (sequential : Bool) → place ≡ output_place sequential i → Joins area k place out
coming-joins {i = i} c sequential e = record { level = c.level; inside = omega (arith, e, place-fits sequential i); words = c.words }

-- an output joined to a level's block: the block's node is made, and other words are put into the level
module _ {area : List ℕ} {k place : ℕ} {out : List ℕ} (j : Joins area k place out) where
  abbrev block : List ℕ
  block = put place output_words (level_words area k) out

  joined-size : length block ≡ block_words
  joined-size = length-joined place (level_words area k) out (length-level_words area k j.level.long j.level.high) j.words j.inside

  module _ {area₁ : List ℕ} (e : area₁ ≡ with_level area k block) where
    pub joined-level : HasLevel area₁ k
    joined-level = level-still j.level block joined-size e

    joined-up : area₁ ≡ up_area area k (block ∷ levels_up area (k + 1))
    joined-up = e ∙ up-level j.level block joined-size

    joined_made : {P : Params} (index : ℕ) {log : List ℕ} {at : ℕ} {out' log' : List ℕ}
        → Logged P (node P k index 0 0 (level_words area₁ k) ∷ []) log at out' log'
        → Logged P (node P k index 0 0 block ∷ []) log at out' log'
    joined_made index m = rw (e, level_with j.level block joined-size) at m

    joined-other : {area' : List ℕ} (ws : List ℕ) → area' ≡ with_level area₁ k ws → area' ≡ with_level area k ws
    joined-other ws ea = ea ∙ rw e (with_with j.level block joined-size ws)

-- ---- the sequential level

module _ {keyed : Keyed} {k i : ℕ} {out area log : List ℕ} {at : ℕ} (c : Coming keyed k i out area log at)
    (last : keyed.params.limit < k) where
  module _ {place : ℕ} {area₁ : List ℕ} (ep : place ≡ output_place true i)
      (ea : area₁ ≡ with_level area k (put place output_words (level_words area k) out)) where
    pub last-held : (i % 3 ≡ 2 → ⊥) → Climbed k (received keyed k i out area) area log at area₁ log at
    last-held e = rw (received-held keyed k i out area c.level.high last e, ← ep) record {
      levels = joined-up (coming-joins c true ep) ea;
      logged = refl;
      next = omega arith;
    }

    pub last-chained : {out' log' area' : List ℕ} → i % 3 ≡ 2
        → Logged (tree_params keyed) (node (tree_params keyed) k (i / 3) 0 0 (level_words area₁ k) ∷ []) log at out' log'
        → area' ≡ with_level area₁ k (out' ++ replicate (block_words - output_words) 0)
        → Climbed k (received keyed k i out area) area log at area' log' (at + 2)
    last-chained {out'} {log'} {area'} e m₁ ez =
        let j : Joins area k place out = coming-joins c true ep in
        let full : Node = last_node keyed k i out area c.level.high in
        let m : Logged (tree_params keyed) (full ∷ []) log at out' log' = rw ep at (joined_made j ea (i / 3) m₁) in
        rw (received-chained keyed k i out area c.level.high last e) record {
          levels = joined-other j ea (out' ++ replicate (block_words - output_words) 0) ez
              ∙ rw m.words (up-level c.level (chained (tree_params keyed) full) (length-chained (tree_params keyed) full));
          logged = m.logged;
          next = refl;
        }

  pub last-room : i % 3 ≡ 2 → at + 2 ≤ length log
  last-room e = omega (arith, ap (λ (x : Made). at + 2 * length x.nodes) (received-chained keyed k i out area c.level.high last e), c.room)

-- ---- the loop over the levels

-- what is left to do, from the level that the loop has reached, is what there was to do at level 2
pub record Climb (keyed : Keyed) (all : Made) (area₀ log₀ : List ℕ) (at₀ k i : ℕ) (out area log : List ℕ) (at : ℕ) : Type 0 where
  pub low : 2 ≤ k
  pub high : k ≤ most_levels + 1
  pub most : k ≤ keyed.params.limit + 1
  pub own : (params_of area).limit ≡ keyed.params.limit
  pub small : i < 2 ^ 56
  pub words : length out ≡ output_words
  pub long : Long area
  pub area-length : length area ≡ length area₀
  pub log-length : length log ≡ length log₀
  area_same : up_area area k (received keyed k i out area).levels ≡ up_area area₀ 2 all.levels
  pub log-same : sets log at (node_log (received keyed k i out area).nodes) ≡ sets log₀ at₀ (node_log all.nodes)
  count_same : at + 2 * length (received keyed k i out area).nodes ≡ at₀ + 2 * length all.nodes
  pub room : at + 2 * length (received keyed k i out area).nodes ≤ length log

pub climb-start : {keyed : Keyed} {i : ℕ} {out area log : List ℕ} {at : ℕ} → Coming keyed 2 i out area log at
    → Climb keyed (received keyed 2 i out area) area log at 2 i out area log at
climb-start c = record {
  low = omega arith;
  high = omega arith;
  most = omega (arith, c.level.high, c.own);
  own = c.own;
  small = c.small;
  words = c.words;
  long = c.level.long;
  area-length = refl;
  log-length = refl;
  area_same = refl;
  log-same = refl;
  count_same = refl;
  room = c.room;
}

module _ {keyed : Keyed} {all : Made} {area₀ log₀ : List ℕ} {at₀ k i : ℕ} {out area log : List ℕ} {at : ℕ}
    (c : Climb keyed all area₀ log₀ at₀ k i out area log at) where
  climb-level : k ≤ most_levels → HasLevel area k
  climb-level h = record { long = c.long; low = omega (arith, c.low); high = omega (arith, h, c.most, c.own) }

  -- the output can come to this level
  pub climb-coming : k ≤ most_levels → Coming keyed k i out area log at
  climb-coming h = record { level = climb-level h; own = c.own; small = c.small; words = c.words; room = c.room }

  -- what is left of the output where the loop is, is what is left of all
  pub climb-end : {area' log' : List ℕ} {at' : ℕ} → Climbed k (received keyed k i out area) area log at area' log' at'
      → Climbed 2 all area₀ log₀ at₀ area' log' at'
  climb-end d = record { levels = d.levels ∙ c.area_same; logged = d.logged ∙ c.log-same; next = d.next ∙ c.count_same }

  -- no level is left
  pub climb_none : most_levels < k → Climbed 2 all area₀ log₀ at₀ area log at
  climb_none h =
      let nil = levels_up_none area k (omega arith) in
      climb-end (rw (nil, Receive.receive_none (tree_params keyed) (keyed.params.limit + 1 - k) k i out) record {
        levels = sym (up_same area k (omega (arith, c.low)) (omega (arith, c.high, c.most, c.own))) ∙ ap (up_area area k) nil;
        logged = refl;
        next = omega arith;
      })

  -- an output that a parallel level takes
  module _ (some : k ≤ keyed.params.limit) (high : k ≤ most_levels) where
    l : HasLevel area k
    l = climb-level high

    -- the log has room for the node of a full level
    pub climb-room : i % 4 ≡ 3 → at + 2 ≤ length log
    climb-room e = omega (arith, ap (λ (x : Made). at + 2 * length x.nodes) (received-full keyed k i out area l.high some e), c.room)

    module _ {place : ℕ} {area₁ : List ℕ} (ep : place ≡ output_place false i)
        (ea : area₁ ≡ with_level area k (put place output_words (level_words area k) out)) where
      joins : Joins area k place out
      joins = record { level = l; inside = omega (arith, ep); words = c.words }

      -- it is kept if the level's block is not full then
      pub climb-part : (i % 4 ≡ 3 → ⊥) → Climbed 2 all area₀ log₀ at₀ area₁ log at
      climb-part e =
          climb-end (rw (received-part keyed k i out area l.high some e, ← ep) record {
            levels = joined-up joins ea;
            logged = refl;
            next = omega arith;
          })

      -- and goes on as the output of the level's node otherwise
      pub climb-more : {out' log' area' : List ℕ} → i % 4 ≡ 3
          → Logged (tree_params keyed) (node (tree_params keyed) k (i / 4) 0 0 (level_words area₁ k) ∷ []) log at out' log'
          → area' ≡ with_level area₁ k empty_level
          → Climb keyed all area₀ log₀ at₀ (k + 1) (i / 4) out' area' log' (at + 2)
      climb-more {out'} {log'} {area'} e m₁ ez =
          let f : Node = full_node keyed k i out area l.high in
          let m : Logged (tree_params keyed) (f ∷ []) log at out' log' = rw ep at (joined_made joins ea (i / 4) m₁) in
          let a = joined-other joins ea empty_level ez in
          let above : Made = received keyed (k + 1) (i / 4) (out_words (tree_params keyed) f) area in
          let full = received-full keyed k i out area l.high some e in
          let la = length_with l empty_level length-empty in
          let ll = length-sets log at (node_log (f ∷ [])) in
          let next : received keyed (k + 1) (i / 4) out' area' ≡ above =
          rw (m.words, a, other-up l empty_level length-empty) refl in
          let count = ap (λ (x : Made). at + 2 * length x.nodes) full in
          record {
            low = omega (arith, c.low);
            high = omega arith;
            most = omega (arith, some);
            own = rw (a, params_with l empty_level length-empty) c.own;
            small = omega (arith, c.small);
            words = rw m.words (length-out_words (tree_params keyed) f);
            long = rw (a, la, params_with l empty_level length-empty) c.long;
            area-length = rw (a, la) c.area-length;
            log-length = rw (m.logged, ll) c.log-length;
            area_same = rw (next, a) (sym (up_step l empty_level length-empty above.levels)) ∙ sym (ap (λ (x : Made). up_area area k x.levels) full) ∙ c.area_same;
            log-same = rw (next, m.logged) (sym (log-more log at f above.nodes)) ∙ sym (ap (λ (x : Made). sets log at (node_log x.nodes)) full) ∙ c.log-same;
            count_same = rw next (omega (arith, count, c.count_same));
            room = rw (next, m.logged, ll) (omega (arith, count, c.room));
          }
