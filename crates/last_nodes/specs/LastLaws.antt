-- Laws: the nodes that the end makes, in Calls: one law for each way that `last_above` and `last_nodes` take at a level, and the loop
-- over the levels.
use Rattle.std.specs.Prelude.{◌≡◌, refl, Bool, true, false, List, [], ◌∷◌, ℕ, zero, suc, ◌+◌, ◌-◌, ◌*◌, ◌/◌, ◌%◌, ◌^◌, ◌≤◌, ◌<◌, eqb, ltb, length, get_or}
use Rattle.std.proofs.Common.{sym, ap, ◌∙◌, arith, eq-eqb, ne_eqb, eqb-true, lt-ltb, le-ltb, ltb-true, ltb-false}
use Rattle.std.proofs.Math.Nat.{pow-succ'}
use Rattle.std.proofs.lemmas.List.Edits.{sets}
use Rattle.std.proofs.Math.Seq.{length-sets}
use Rattle.std.proofs.lemmas.Bool.{eqb-false}
use Rattle.lists.specs.Part.{put}
use Rattle.tree.specs.Tree.{most_levels, Params, Node, block_bits, sequential_bits, output_bits, node, last_or, no_node, output_words, out_words, node_log}
use Rattle.calls.specs.Area.{block_words, own_levels, Long, total_of, params_of, level_words, levels_up, levels_of, done_blocks, held_bits}
use Rattle.calls.proofs.AreaLaws.{levels_up-cons}
use Rattle.calls.specs.Calls.{last_above, last_nodes, last_nodes_of}
use Rattle.calls.proofs.Machine
use Rattle.calls.proofs.LastNodes
use Rattle.node.specs.declared.Keyed.{Keyed}
use Rattle.node.specs.declared.Place.{Place}
use Rattle.node.specs.Words.{placed, FieldsFit, tree_params}
use Rattle.climb.specs.Levels.{output_place, place-fits, HasLevel, Joins, levels_split}
use Rattle.climb.specs.MakeLaws.{Logged}
use Rattle.climb.specs.ReceiveLaws.{length-out_words, log-more}
use Rattle.climb.specs.OpenArea.{keyed_of}

-- ---- one level

-- the nodes that the last output makes at a level of an area and above it, where the levels up to L are parallel
abbrev pub last_up : Keyed → ℕ → ℕ → List ℕ → List ℕ → List Node
last_up keyed k i out area = last_above (tree_params keyed) (keyed.params.limit + 1 - k) k i out (levels_up area k)

-- z of a parallel level's last node, by its index: it is the root if no other node is at its level
abbrev pub root_flag : ℕ → ℕ
root_flag index = elim (ltb index 1) [ true ↦ 1 | false ↦ 0 ]

pub flag-root : (index : ℕ) → index < 1 → 1 ≡ root_flag index
flag-root index h = rw (root_flag, lt-ltb index 1 h)

pub flag-other : (index : ℕ) → 1 ≤ index → 0 ≡ root_flag index
flag-other index h = rw (root_flag, le-ltb index 1 h)

pub flag-most : (index : ℕ) {z : ℕ} → z ≡ root_flag index → z ≤ 1
flag-most index {z} e = by (ltb index 1) refl
  where
    by : (b : Bool) → ltb index 1 ≡ b → z ≤ 1
    by true h = omega (arith, rw (root_flag, h) at e)
    by false h = omega (arith, rw (root_flag, h) at e)

flag_one : (index : ℕ) → root_flag index ≡ 1 → index < 1
flag_one index e = by (ltb index 1) refl
  where
    by : (b : Bool) → ltb index 1 ≡ b → index < 1
    by true h = ltb-true index 1 h
    by false h = absurd (omega (arith, flag-other index (ltb-false index 1 h), e))

flag_many : (index : ℕ) → (root_flag index ≡ 1 → ⊥) → 1 ≤ index
flag_many index e = by (ltb index 1) refl
  where
    by : (b : Bool) → ltb index 1 ≡ b → 1 ≤ index
    by true h = absurd (e (sym (flag-root index (ltb-true index 1 h))))
    by false h = ltb-false index 1 h

-- the place of a level's last node, by how many outputs came to the level before the last
abbrev pub last_place : Bool → ℕ → ℕ → Place
last_place true level i = record { level = level; index = i / 3; z = 1; p = output_bits * (2 - i % 3) }
last_place false level i = record { level = level; index = i / 4; z = root_flag (i / 4); p = output_bits * (3 - i % 4) }

-- its numbers fit the fields of U and V
pub last_fits : (sequential : Bool) (level i : ℕ) (block : List ℕ) → level ≤ most_levels → i < 2 ^ 52 → length block ≡ block_words
    → FieldsFit (last_place sequential level i) block
last_fits true level i block h g l = omega arith
last_fits false level i block h g l = omega (arith, flag-most (i / 4) refl)

module _ (keyed : Keyed) (k i : ℕ) (out area : List ℕ) where
  abbrev L : ℕ
  L = keyed.params.limit

  -- the last node of a level
  abbrev last_node : Bool → Node
  last_node sequential = placed (tree_params keyed) (last_place sequential k i) (put (output_place sequential i) output_words (level_words area k) out)

  module _ (high : k ≤ own_levels area) where
    -- it is the root
    last-root : (b : Bool) → ltb L k ≡ b → (last_place b k i).z ≡ 1 → last_up keyed k i out area ≡ last_node b ∷ []
    last-root true e z =
        let n : L + 1 - k ≡ 0 = omega (arith, ltb-true L k e) in
        rw (levels_up-cons area k high, n) (LastNodes.above-seq (tree_params keyed) k i out (level_words area k) (levels_up area (k + 1)))
    last-root false e z =
        let n : L + 1 - k ≡ suc (L + 1 - suc k) = omega (arith, ltb-false L k e) in
        let q : i / 4 ≡ 0 = omega (arith, flag_one (i / 4) z) in
        rw (levels_up-cons area k high, n, ← flag-root (i / 4) (flag_one (i / 4) z), q)
        (LastNodes.above-one (tree_params keyed) (L + 1 - suc k) k i out (level_words area k) (levels_up area (k + 1)) (eq-eqb (i / 4) 0 q))

    -- or its output goes up
    last_more : (b : Bool) → ltb L k ≡ b → ((last_place b k i).z ≡ 1 → ⊥)
        → last_up keyed k i out area ≡ last_node b ∷ last_up keyed (k + 1) (last_place b k i).index (out_words (tree_params keyed) (last_node b)) area
    last_more true e z = absurd (z refl)
    last_more false e z =
        let n : L + 1 - k ≡ suc (L + 1 - suc k) = omega (arith, ltb-false L k e) in
        let q : k + 1 ≡ suc k = omega arith in
        rw (levels_up-cons area k high, n, ← flag-other (i / 4) (flag_many (i / 4) z), q)
        (LastNodes.above_many (tree_params keyed) (L + 1 - suc k) k i out (level_words area k) (levels_up area (suc k)) (ne_eqb (i / 4) 0 (λ e. omega (arith, flag_many (i / 4) z))))

  -- outputs that came before the last of the next level
  last_some : (b : Bool) → ((last_place b k i).z ≡ 1 → ⊥) → (1 ≤ (last_place b k i).index) × (4 * (last_place b k i).index ≤ i)
  last_some true z = absurd (z refl)
  last_some false z = (flag_many (i / 4) z, omega arith)

-- ---- the loop over the levels

-- the last output of level 1 goes up: what the code needs then
pub record Rising (keyed : Keyed) (i : ℕ) (out area log : List ℕ) : Type 0 where
  pub long : Long area
  pub own : (params_of area).limit ≡ keyed.params.limit
  pub parallel : 1 ≤ keyed.params.limit
  pub some : 1 ≤ i
  pub small : i < 2 ^ 52
  pub words : length out ≡ output_words
  pub room : 2 + 2 * length (last_up keyed 2 i out area) ≤ length log

-- what is left to make, from the level that the loop has reached, is what there was to make at level 2; the node made last is
-- known, so that the root is
pub record LastLoop (keyed : Keyed) (all : List Node) (area log₀ : List ℕ) (at₀ k i : ℕ) (out log : List ℕ) (at : ℕ) : Type 0 where
  pub last : Node
  pub low : 2 ≤ k
  pub high : k ≤ most_levels + 1
  pub most : k ≤ keyed.params.limit + 1
  pub own : (params_of area).limit ≡ keyed.params.limit
  pub long : Long area
  pub some : 1 ≤ i
  pub small : i < 4 ^ (most_levels + 1 - k)
  pub fits : i < 2 ^ 52
  pub words : length out ≡ output_words
  pub log-length : length log ≡ length log₀
  pub log-same : sets log at (node_log (last_up keyed k i out area)) ≡ sets log₀ at₀ (node_log all)
  last-same : last_or last (last_up keyed k i out area) ≡ last_or no_node all
  pub room : at + 2 * length (last_up keyed k i out area) ≤ length log

pub loop_start : {keyed : Keyed} {i : ℕ} {out area log : List ℕ} → Rising keyed i out area log
    → LastLoop keyed (last_up keyed 2 i out area) area log 2 2 i out log 2
loop_start r = record {
  last = no_node;
  low = omega arith;
  high = omega arith;
  most = omega (arith, r.parallel);
  own = r.own;
  long = r.long;
  some = r.some;
  small = r.small;
  fits = r.small;
  words = r.words;
  log-length = refl;
  log-same = refl;
  last-same = refl;
  room = r.room;
}

module _ {keyed : Keyed} {all : List Node} {area log₀ : List ℕ} {at₀ k i : ℕ} {out log : List ℕ} {at : ℕ}
    (c : LastLoop keyed all area log₀ at₀ k i out log at) where
  abbrev Q : Params
  Q = tree_params keyed

  abbrev sequential : Bool
  sequential = ltb keyed.params.limit k

  -- the root is made at the last level at the latest
  pub loop_never : most_levels < k → ⊥
  loop_never h =
      let e : most_levels + 1 - k ≡ 0 = omega arith in
      let p : 4 ^ (most_levels + 1 - k) ≡ 1 = ap (λ (x : ℕ). 4 ^ x) e in
      omega (arith, c.small, c.some, p)

  module _ (most : k ≤ most_levels) where
    loop_level : HasLevel area k
    loop_level = record { long = c.long; low = omega (arith, c.low); high = omega (arith, most, c.most, c.own) }

    -- the output that came last fits its place
    pub loop_joins : {place : ℕ} → place ≡ output_place sequential i → Joins area k place out
    loop_joins e = record { level = loop_level; inside = omega (arith, e, place-fits sequential i); words = c.words }

    -- the log has room for the node of this level
    pub loop_room : at + 2 ≤ length log
    loop_room = by (eqb (last_place sequential k i).z 1) refl
      where
        one : {m : Node} {ms : List Node} → last_up keyed k i out area ≡ m ∷ ms → at + 2 ≤ length log
        one e = omega (arith, ap (λ (x : List Node). at + 2 * length x) e, c.room)

        by : (b : Bool) → eqb (last_place sequential k i).z 1 ≡ b → at + 2 ≤ length log
        by true e = one (last-root keyed k i out area loop_level.high sequential refl (eqb-true (last_place sequential k i).z 1 e))
        by false e = one (last_more keyed k i out area loop_level.high sequential refl (eqb-false (last_place sequential k i).z 1 e))

    -- the last node of this level, as the code makes it
    module _ {place : ℕ} {block : List ℕ} {at_level : Place} {out' log' : List ℕ} (ep : place ≡ output_place sequential i)
        (eb : block ≡ put place output_words (level_words area k) out) (el : at_level ≡ last_place sequential k i)
        (d₁ : Logged Q (placed Q at_level block ∷ []) log at out' log') where
      abbrev m : Node
      m = last_node keyed k i out area sequential

      d : Logged Q (m ∷ []) log at out' log'
      d = rw (eb, ep, el) at d₁

      -- it is the root
      pub loop_root : at_level.z ≡ 1 → Logged Q all log₀ at₀ out' log'
      loop_root z =
          let e = last-root keyed k i out area loop_level.high sequential refl (rw el at z) in
          record {
            words = d.words ∙ ap (out_words Q) (sym (ap (last_or c.last) e) ∙ c.last-same);
            logged = d.logged ∙ sym (ap (λ (x : List Node). sets log at (node_log x)) e) ∙ c.log-same;
          }

      -- or its output goes up
      pub loop_more : (at_level.z ≡ 1 → ⊥) → LastLoop keyed all area log₀ at₀ (k + 1) at_level.index out' log' (at + 2)
      loop_more z₁ =
          let z : (last_place sequential k i).z ≡ 1 → ⊥ = rw el at z₁ in
          let j : ℕ = (last_place sequential k i).index in
          let ms : List Node = last_up keyed (k + 1) j out' area in
          let rest : last_up keyed (k + 1) j (out_words Q m) area ≡ ms = rw d.words refl in
          let all' = last_more keyed k i out area loop_level.high sequential refl z ∙ ap (λ (x : List Node). m ∷ x) rest in
          let s : most_levels + 1 - k ≡ suc (most_levels + 1 - (k + 1)) = omega arith in
          let b : 4 ^ (most_levels + 1 - k) ≡ 4 * 4 ^ (most_levels + 1 - (k + 1)) = ap (λ (x : ℕ). 4 ^ x) s ∙ pow-succ' 4 (most_levels + 1 - (k + 1)) in
          let l : length log' ≡ length log = ap length d.logged ∙ length-sets log at (node_log (m ∷ [])) in
          let few = last_some keyed k i out area sequential z in
          rw el record {
            last = m;
            low = omega (arith, c.low);
            high = omega arith;
            most = below sequential refl z;
            own = c.own;
            long = c.long;
            some = few.0;
            small = omega (arith, c.small, b, few.1);
            fits = omega (arith, c.fits, few.1);
            words = rw d.words (length-out_words Q m);
            log-length = l ∙ c.log-length;
            log-same = rw d.logged (sym (log-more log at m ms)) ∙ sym (ap (λ (x : List Node). sets log at (node_log x)) all') ∙ c.log-same;
            last-same = sym (ap (last_or c.last) all') ∙ c.last-same;
            room = omega (arith, ap (λ (x : List Node). at + 2 * length x) all', c.room, l);
          }
        where
          below : (b : Bool) → ltb keyed.params.limit k ≡ b → ((last_place b k i).z ≡ 1 → ⊥) → k + 1 ≤ keyed.params.limit + 1
          below true e z = absurd (z refl)
          below false e z = omega (arith, ltb-false keyed.params.limit k e)

-- ---- level 1

-- the node of level 1, which takes blocks of a size
abbrev pub first_node : Params → ℕ → ℕ → ℕ → List ℕ → Node
first_node P size T z area = node P 1 (done_blocks size T) z (size - held_bits size T) (level_words area 1)

last_nodes-sequential : (P : Params) (limit T : ℕ) (area : List ℕ) → limit < 1 → last_nodes P limit T (levels_of area) ≡ first_node P sequential_bits T 1 area ∷ []
last_nodes-sequential P zero T area h = rw (levels_split area) (Machine.last_nodes-seq P T (level_words area 1) (levels_up area 2))
last_nodes-sequential P (suc n) T area h = absurd (omega arith)

last_nodes-root : (P : Params) (limit T : ℕ) (area : List ℕ) → 1 ≤ limit → done_blocks block_bits T < 1
    → last_nodes P limit T (levels_of area) ≡ first_node P block_bits T 1 area ∷ []
last_nodes-root P zero T area h g = absurd (omega arith)
last_nodes-root P (suc n) T area h g =
    let z : done_blocks block_bits T ≡ 0 = omega arith in
    ap (last_nodes P (suc n) T) (levels_split area) ∙ Machine.last_nodes-one P n T (level_words area 1) (levels_up area 2) (eq-eqb (done_blocks block_bits T) 0 z)
    ∙ ap (λ (x : ℕ). node P 1 x 1 (block_bits - held_bits block_bits T) (level_words area 1) ∷ []) (sym z)

last_nodes-more : (P : Params) (limit T : ℕ) (area : List ℕ) → 1 ≤ limit → 1 ≤ done_blocks block_bits T
    → (let m : Node = first_node P block_bits T 0 area in
    last_nodes P limit T (levels_of area) ≡ m ∷ last_above P (limit + 1 - 2) 2 (done_blocks block_bits T) (out_words P m) (levels_up area 2))
last_nodes-more P zero T area h g = absurd (omega arith)
last_nodes-more P (suc n) T area h g =
    let f : suc n + 1 - 2 ≡ n = omega arith in
    rw (levels_split area, f) (Machine.last_nodes_many P n T (level_words area 1) (levels_up area 2) (ne_eqb (done_blocks block_bits T) 0 (λ e. omega arith)))

-- something is made above level 1, so the last of it does not go by what came before
last-above : (P : Params) (n i : ℕ) (out ws : List ℕ) (up : List (List ℕ)) (x y : Node)
    → last_or x (last_above P n 2 i out (ws ∷ up)) ≡ last_or y (last_above P n 2 i out (ws ∷ up))
last-above P zero i out ws up x y = rw (LastNodes.above-seq P 2 i out ws up)
last-above P (suc n) i out ws up x y = go (eqb (i / 4) 0) refl
  where
    go : (b : Bool) → eqb (i / 4) 0 ≡ b → last_or x (last_above P (suc n) 2 i out (ws ∷ up)) ≡ last_or y (last_above P (suc n) 2 i out (ws ∷ up))
    go true e = rw (LastNodes.above-one P n 2 i out ws up e)
    go false e = rw (LastNodes.above_many P n 2 i out ws up e)

-- what the code needs to make the last nodes of all levels
pub record Ending (keyed : Keyed) (T : ℕ) (area log : List ℕ) : Type 0 where
  pub long : Long area
  pub own : (params_of area).limit ≡ keyed.params.limit
  pub room : 2 * length (last_nodes (tree_params keyed) keyed.params.limit T (levels_of area)) ≤ length log

module _ {keyed : Keyed} {T : ℕ} {area log : List ℕ} (c : Ending keyed T area log) where
  abbrev P : Params
  P = tree_params keyed

  abbrev limit : ℕ
  limit = keyed.params.limit

  abbrev all : List Node
  all = last_nodes P limit T (levels_of area)

  -- the log has room for the node of level 1
  pub first-room : 2 ≤ length log
  first-room = by (ltb limit 1) (ltb (done_blocks block_bits T) 1) refl refl
    where
      one : {m : Node} {ms : List Node} → all ≡ m ∷ ms → 2 ≤ length log
      one e = omega (arith, ap (λ (x : List Node). 2 * length x) e, c.room)

      by : (a b : Bool) → ltb limit 1 ≡ a → ltb (done_blocks block_bits T) 1 ≡ b → 2 ≤ length log
      by true b e f = one (last_nodes-sequential P limit T area (ltb-true limit 1 e))
      by false true e f = one (last_nodes-root P limit T area (ltb-false limit 1 e) (ltb-true (done_blocks block_bits T) 1 f))
      by false false e f = one (last_nodes-more P limit T area (ltb-false limit 1 e) (ltb-false (done_blocks block_bits T) 1 f))

  -- a sequential level 1 has the root
  pub first-sequential : {root log' : List ℕ} → limit < 1 → Logged P (first_node P sequential_bits T 1 area ∷ []) log 0 root log' → Logged P all log 0 root log'
  first-sequential h d = rw (last_nodes-sequential P limit T area h) d

  module _ {done z : ℕ} {first log₁ : List ℕ} (some : 1 ≤ limit) (e : done ≡ done_blocks block_bits T) (f : z ≡ root_flag done)
      (d : Logged P (first_node P block_bits T z area ∷ []) log 0 first log₁) where
    -- a lone block is the root
    pub first-root : done < 1 → Logged P all log 0 first log₁
    first-root h = rw (last_nodes-root P limit T area some (rw e at h)) (rw (f ∙ sym (flag-root done h)) at d)

    module _ (h : 1 ≤ done) where
      abbrev leaf : Node
      leaf = first_node P block_bits T 0 area

      d₀ : Logged P (leaf ∷ []) log 0 first log₁
      d₀ = rw (f ∙ sym (flag-other done h)) at d

      abbrev rest : List Node
      rest = last_up keyed 2 done first area

      all_is : all ≡ leaf ∷ rest
      all_is = rw (d₀.words, e) (last_nodes-more P limit T area some (rw e at h))

      -- its output goes up otherwise
      pub first-rising : done < 2 ^ 52 → Rising keyed done first area log₁
      first-rising small = record {
        long = c.long;
        own = c.own;
        parallel = some;
        some = h;
        small = small;
        words = rw d₀.words (length-out_words P leaf);
        room = rw (d₀.logged, length-sets log 0 (node_log (leaf ∷ []))) (omega (arith, ap (λ (x : List Node). 2 * length x) all_is, c.room));
      }

      pub first_above : {root log' : List ℕ} → Logged P rest log₁ 2 root log' → Logged P all log 0 root log'
      first_above a = rw all_is record {
        words = a.words ∙ ap (out_words P) (rw (levels_up-cons area 2 (omega (arith, c.own, some))) (last-above P (limit + 1 - 2) done first (level_words area 2) (levels_up area 3) no_node leaf));
        logged = a.logged ∙ rw d₀.logged (sym (log-more log 0 leaf rest));
      }

-- the nodes that the code makes, from the words that it reads, are those of the end
pub last-read : (area : List ℕ) → last_nodes (tree_params (keyed_of area)) (get_or area 4 0) (total_of area) (levels_of area) ≡ last_nodes_of area
unfolding last_nodes_of tree_params params_of
last-read area = refl
