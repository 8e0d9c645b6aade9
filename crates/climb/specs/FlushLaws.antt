-- Laws: level 1 is full, and a later bit has come: its node is made, and its output goes up; or two such nodes, one after the other.
-- What the code leaves then.
use Rattle.std.specs.Prelude.{◌≡◌, refl, List, [], ◌∷◌, ◌++◌, ℕ, zero, suc, ◌+◌, ◌-◌, ◌*◌, ◌^◌, ◌≤◌, ◌<◌, length, replicate}
use Rattle.std.proofs.Common.{sym, ap, ◌∙◌, arith, length-append}
use Rattle.std.proofs.Math.Seq.{length-sets}
use Rattle.tree.specs.Tree.{Params, Node, node, block_bits, sequential_bits, output_words, out_words, node_log}
use Rattle.tree.proofs.OutputLaws.{length-out_words}
use Rattle.calls.specs.Area.{block_words, Long, params_of, level_words, levels_up, levels_of, done_blocks, held_bits}
use Rattle.calls.specs.Calls.{Made, chained}
use Rattle.calls.proofs.Machine
use Rattle.calls.proofs.Widths.{Wide, wide-levels, length-chained, receive-widths}
use Rattle.climb.specs.Levels.{with_level, HasLevel, up-level, length-empty, first-level, levels_split, with_up}
use Rattle.node.specs.declared.Keyed.{Keyed}
use Rattle.node.specs.declared.Place.{Place}
use Rattle.node.specs.Words.{node_words, placed, tree_params}
use Rattle.area.specs.CountLaws.{done-fits}
use Rattle.node.specs.WordLaws.{length-node_words}
use Rattle.climb.specs.MakeLaws.{Logged}
use Rattle.climb.specs.ReceiveLaws.{made}
use Rattle.climb.specs.Left.{Left, left-params, left-long, left-levels, left_then}
use Rattle.climb.specs.PassLaws.{passed, passed_words, Parallel, Passing, passed-node}

-- level 1 is full, and a later bit has come: its node is made and its output goes up
abbrev pub flushed : Params → ℕ → ℕ → List (List ℕ) → Made
flushed P limit T [] = made [] []
flushed P zero T (ws ∷ up) =
    let m : Node = node P 1 (done_blocks sequential_bits T) 0 0 ws in
    made (chained P m ∷ up) (m ∷ [])
flushed P (suc n) T (ws ∷ up) =
    let m : Node = node P 1 (done_blocks block_bits T) 0 0 ws in
    passed P n (done_blocks block_bits T) m (out_words P m) up

-- the words of level 1, and the levels above it
abbrev pub first_of : List (List ℕ) → List ℕ
first_of [] = []
first_of (ws ∷ up) = ws

abbrev pub rest_of : List (List ℕ) → List (List ℕ)
rest_of [] = []
rest_of (ws ∷ up) = up

-- a parallel level 1 that held a full block is flushed; then it holds the next block, which is full, too, a later bit comes, and it is
-- flushed again
abbrev pub flushed_two : Params → ℕ → ℕ → List ℕ → List (List ℕ) → Made
flushed_two P limit T held [] = made [] []
flushed_two P limit T held (ws ∷ up) =
    let one : Made = flushed P limit T (held ∷ up) in
    let two : Made = flushed P limit (T + block_bits) (ws ∷ rest_of one.levels) in
    made two.levels (one.nodes ++ two.nodes)

-- the levels stay as many, of 64 words each
pub wide-next : {own : ℕ} (next : List ℕ) (L : List (List ℕ)) → length next ≡ block_words → Wide own L → Wide own (next ∷ rest_of L)
wide-next next [] h w = absurd (omega (arith, w.size))
wide-next next (ws ∷ up) h w = record { widths = (h, w.widths.1); size = w.size }

module _ (P : Params) where
  pub wide-flushed : {own : ℕ} (limit T : ℕ) (L : List (List ℕ)) → Wide own L → Wide own (flushed P limit T L).levels
  wide-flushed limit T [] w = w
  wide-flushed zero T (ws ∷ up) w = record { widths = (length-chained P (node P 1 (done_blocks sequential_bits T) 0 0 ws), w.widths.1); size = w.size }
  wide-flushed (suc n) T (ws ∷ up) w =
      let m : Node = node P 1 (done_blocks block_bits T) 0 0 ws in
      record {
        widths = (length-empty, receive-widths P n 2 (done_blocks block_bits T) (out_words P m) up (length-out_words P m) w.widths.1);
        size = ap suc (Machine.receive-size P n 2 (done_blocks block_bits T) (out_words P m) up) ∙ w.size;
      }

  pub wide-two : {own : ℕ} (limit T : ℕ) (held : List ℕ) (L : List (List ℕ)) → length held ≡ block_words → Wide own L
      → Wide own (flushed_two P limit T held L).levels
  wide-two limit T held [] h w = w
  wide-two limit T held (ws ∷ up) h w =
      let one : List (List ℕ) = (flushed P limit T (held ∷ up)).levels in
      wide-flushed limit (T + block_bits) (ws ∷ rest_of one) (wide-next ws one w.widths.0 (wide-flushed limit T (held ∷ up) (wide-next held (ws ∷ up) h w)))

-- ---- a bound on a number that the code has worked out

pub lt_at : {a b a' b' : ℕ} → a ≡ a' → b ≡ b' → a < b → a' < b'
lt_at e f h = omega arith

pub le_at : {a b a' b' : ℕ} → a ≡ a' → b ≡ b' → a ≤ b → a' ≤ b'
le_at e f h = omega arith

-- ---- level 1 is flushed

-- what the code needs to flush level 1
pub record Flushing (keyed : Keyed) (T : ℕ) (area log : List ℕ) (at : ℕ) : Type 0 where
  pub long : Long area
  pub own : (params_of area).limit ≡ keyed.params.limit
  pub room : at + 2 * length (flushed (tree_params keyed) keyed.params.limit T (levels_of area)).nodes ≤ length log

-- level 1 is sequential, or its output goes up
module _ (P : Params) (T : ℕ) (area : List ℕ) where
  abbrev first_node : ℕ → Node
  first_node size = node P 1 (done_blocks size T) 0 0 (level_words area 1)

  flushed_none : (limit : ℕ) → limit < 1 → flushed P limit T (levels_of area) ≡ made (chained P (first_node sequential_bits) ∷ levels_up area 2) (first_node sequential_bits ∷ [])
  flushed_none zero h = rw (levels_split area)
  flushed_none (suc n) h = absurd (omega arith)

-- a parallel level 1 whose block has the words ws: its node is made, and its output passed on
module _ {keyed : Keyed} {area : List ℕ} (p : Parallel keyed area) (T : ℕ) (ws : List ℕ)
    {index : ℕ} {out : List ℕ} (d : index ≡ done_blocks block_bits T) (o : out ≡ node_words (tree_params keyed) 1 index 0 0 ws) where
  abbrev R : Params
  R = tree_params keyed

  abbrev here : Made
  here = flushed R keyed.params.limit T (ws ∷ levels_up area 2)

  is_passed : here ≡ (let m : Node = node R 1 index 0 0 ws in passed R (keyed.params.limit - 1) index m (out_words R m) (levels_up area 2))
  is_passed = by keyed.params.limit p.some
    where
      by : (limit : ℕ) → 1 ≤ limit
          → flushed R limit T (ws ∷ levels_up area 2) ≡ (let m : Node = node R 1 index 0 0 ws in passed R (limit - 1) index m (out_words R m) (levels_up area 2))
      by zero h = absurd (omega arith)
      by (suc n) h = let e : suc n - 1 ≡ n = omega arith in rw (d, e)

  module _ {log : List ℕ} {at : ℕ} where
    passing : index < 2 ^ 56 → at + 2 * length here.nodes ≤ length log → Passing keyed index out area log at
    passing small room = record {
      parallel = p;
      small = small;
      words = ap length o ∙ length-node_words R 1 index 0 0 ws;
      room = rw o (omega (arith, ap (λ (x : Made). length x.nodes) is_passed, room));
    }

    was_passed : {area' log' : List ℕ} {at' : ℕ} → Left (passed_words keyed index out area) area log at area' log' at'
        → Left here area log at area' log' at'
    was_passed l = rw is_passed (passed-node keyed index ws o l)

module _ {keyed : Keyed} {T : ℕ} {area log : List ℕ} {at : ℕ} (f : Flushing keyed T area log at) where
  abbrev P : Params
  P = tree_params keyed

  abbrev limit : ℕ
  limit = keyed.params.limit

  first : HasLevel area 1
  first = first-level f.long

  -- a sequential level 1: the log has room for the node, and the level keeps its output
  pub flush_room : limit < 1 → at + 2 ≤ length log
  flush_room h = omega (arith, ap (λ (x : Made). at + 2 * length x.nodes) (flushed_none P T area limit h), f.room)

  pub flush_chained : {done : ℕ} {out log' area' : List ℕ} → limit < 1 → done ≡ done_blocks sequential_bits T
      → Logged P (node P 1 done 0 0 (level_words area 1) ∷ []) log at out log'
      → area' ≡ with_level area 1 (out ++ replicate (block_words - output_words) 0)
      → Left (flushed P limit T (levels_of area)) area log at area' log' (at + 2)
  flush_chained h d m₁ ea =
      let n = first_node P T area sequential_bits in
      let m : Logged P (n ∷ []) log at _ _ = rw d at m₁ in
      rw (flushed_none P T area limit h) record {
        levels = ea ∙ rw m.words (up-level first (chained P n) (length-chained P n)) ∙ sym (with_up area (chained P n ∷ levels_up area 2));
        logged = m.logged;
        next = refl;
      }

  -- a parallel one passes it on
  module _ {done : ℕ} {place : Place} {level out : List ℕ} (some : 1 ≤ limit) (d : done ≡ done_blocks block_bits T)
      (ep : place ≡ record { level = 1; index = done; z = 0; p = 0 }) (el : level ≡ level_words area 1) (o : out ≡ out_words P (placed P place level)) where
    parallel : Parallel keyed area
    parallel = record { long = f.long; own = f.own; some = some }

    pub flush_passing : T < 2 ^ 64 → Passing keyed done out area log at
    flush_passing h = passing parallel T (level_words area 1) d (rw (ep, el) at o) (omega (arith, d, (done-fits T h).0)) (rw (levels_split area) at f.room)

    pub flush_passed : {area' log' : List ℕ} {at' : ℕ} → Left (passed_words keyed done out area) area log at area' log' at'
        → Left (flushed P limit T (levels_of area)) area log at area' log' at'
    flush_passed l = rw (levels_split area) (was_passed parallel T (level_words area 1) d (rw (ep, el) at o) l)

-- ---- two nodes of level 1

-- what the code needs to flush the full block that level 1 held, and then the one that it holds
pub record FlushingTwo (keyed : Keyed) (T : ℕ) (held area log : List ℕ) (at : ℕ) : Type 0 where
  pub parallel : Parallel keyed area
  pub full : held_bits block_bits T ≡ block_bits
  pub words : length held ≡ block_words
  pub room : at + 2 * length (flushed_two (tree_params keyed) keyed.params.limit T held (levels_of area)).nodes ≤ length log

module _ {keyed : Keyed} {T : ℕ} {held area log : List ℕ} {at : ℕ} (f : FlushingTwo keyed T held area log at) where
  abbrev Q : Params
  Q = tree_params keyed

  abbrev one : Made
  one = flushed Q keyed.params.limit T (held ∷ levels_up area 2)

  abbrev two : Made
  two = flushed Q keyed.params.limit (T + block_bits) (level_words area 1 ∷ rest_of one.levels)

  both : flushed_two Q keyed.params.limit T held (levels_of area) ≡ made two.levels (one.nodes ++ two.nodes)
  both = ap (flushed_two Q keyed.params.limit T held) (levels_split area)

  counted : length (flushed_two Q keyed.params.limit T held (levels_of area)).nodes ≡ length one.nodes + length two.nodes
  counted = ap (λ (x : Made). length x.nodes) both ∙ length-append one.nodes two.nodes

  wide : Wide (params_of area).limit one.levels
  wide =
      wide-flushed Q keyed.params.limit T (held ∷ levels_up area 2)
      (rw (levels_split area) at (wide-next held (levels_of area) f.words (wide-levels area f.parallel.long)))

  -- the two as the code makes them: one after the other by index, of the block that was held and of level 1
  module _ {index : ℕ} {place next : Place} {level out out₂ : List ℕ} (d : index ≡ done_blocks block_bits T)
      (ep : place ≡ record { level = 1; index = index; z = 0; p = 0 }) (en : next ≡ record { level = 1; index = index + 1; z = 0; p = 0 })
      (el : level ≡ level_words area 1) (o : (out ≡ out_words Q (placed Q place held)) × (out₂ ≡ out_words Q (placed Q next level))) where
    o₁ : out ≡ node_words Q 1 index 0 0 held
    o₁ = rw ep at o.0

    pub first-passing : T < 2 ^ 64 → Passing keyed index out area log at
    first-passing h = passing f.parallel T held d o₁ (omega (arith, d, (done-fits T h).0)) (omega (arith, f.room, counted))

    -- the second, where the first has been passed on
    module _ {area₁ log₁ : List ℕ} {at₁ : ℕ} (p : Left (passed_words keyed index out area) area log at area₁ log₁ at₁) where
      l : Left one area log at area₁ log₁ at₁
      l = was_passed f.parallel T held d o₁ p

      second : index + 1 ≡ done_blocks block_bits (T + block_bits)
      second = omega (arith, d, f.full)

      parallel₁ : Parallel keyed area₁
      parallel₁ = record {
        long = left-long f.parallel.long wide l;
        own = rw (left-params f.parallel.long wide l) f.parallel.own;
        some = f.parallel.some;
      }

      above : levels_up area₁ 2 ≡ rest_of one.levels
      above = ap rest_of (sym (levels_split area₁) ∙ left-levels f.parallel.long wide l)

      pub second-passing : T < 2 ^ 64 → Passing keyed (index + 1) out₂ area₁ log₁ at₁
      second-passing h =
          passing parallel₁ (T + block_bits) (level_words area 1) second (rw (en, el) at o.1) (omega (arith, d, (done-fits T h).0))
          (rw above (omega (arith, f.room, counted, l.next, ap length l.logged ∙ length-sets log at (node_log one.nodes))))

      pub second-passed : {area₂ log₂ : List ℕ} {at₂ : ℕ} → Left (passed_words keyed (index + 1) out₂ area₁) area₁ log₁ at₁ area₂ log₂ at₂
          → Left (flushed_two Q keyed.params.limit T held (levels_of area)) area log at area₂ log₂ at₂
      second-passed m =
          rw both (left_then f.parallel.long wide l (rw above at (was_passed parallel₁ (T + block_bits) (level_words area 1) second (rw (en, el) at o.1) m)))
