-- Laws: of the end in Calls: the root's words and the digest, the wipe, and a log that is copied.
use Rattle.std.specs.Prelude.{◌≡◌, refl, Bool, true, false, List, ◌∷◌, ◌++◌, ℕ, zero, suc, ◌+◌, ◌-◌, ◌*◌, ◌/◌, ◌%◌, ◌^◌, ◌≤◌, ◌<◌, eqb, length, take, drop, get_or, set, replicate}
use Rattle.std.proofs.Common.{sym, ap, ◌∙◌, arith, drop-drop, length-take, length-drop, length-set}
use Rattle.lists.specs.Part.{put}
use Rattle.bits.specs.Bits.{bits_of, numbers}
use Rattle.tree.specs.Tree.{Params, Node, most_levels, node, output, last_or, no_node, digest_bytes, block_bits, sequential_bits, output_bits, out_words, logged}
use Rattle.tree.proofs.TreeLaws.{length-output-node}
use Rattle.tree.proofs.Count.{tree_nodes_bound}
use Rattle.tree.proofs.OutputLaws.{length-logged, words-bits}
use Rattle.calls.proofs.LogWords.{last_bound}
use Rattle.calls.specs.Area.{total_of, compressions_of, params_of, area_words, own_levels, level_words, levels_from, levels_of, with_levels, empty_levels, done_blocks, held_bits, head_words, block_words, levels_up, Long}
use Rattle.calls.specs.Calls.{join_parallel, join_sequential, last_above, last_nodes, last_nodes_of, digest_out}
use Rattle.calls.proofs.CallLaws.{EndPassed}
use Rattle.calls.proofs.Machine
use Rattle.calls.proofs.LastNodes
use Rattle.calls.proofs.AreaLaws.{length-level_words, levels_split, flatten-empty, limit-word, params-set}
use Rattle.calls.proofs.Widths.{length-joined}
use Rattle.climb.specs.ReceiveLaws.{length-out_words}
use Rattle.climb.specs.OpenArea.{OpenArea, size-read}
use Rattle.numbers.specs.NumberLaws.{count_left}

-- ---- the root's output has 1,024 bits, so that its words are these bits

sized-above : (P : Params) (area : List ℕ) → Long area → (m n level k i : ℕ) (out : List ℕ) (x : Node) → k + m ≤ own_levels area + 1
    → length out ≡ 16 → length (output P.rounds x) ≡ output_bits
    → length (output P.rounds (last_or x (last_above P n level i out (levels_from area m k)))) ≡ output_bits
sized-above P area long zero n level k i out x high w h = rw (LastNodes.above_none P n level i out) h
sized-above P area long (suc m) zero level k i out x high w h =
    rw (LastNodes.above-seq P level i out (level_words area k) (levels_from area m (suc k)))
    (length-output-node P P.rounds level (i / 3) 1 (output_bits * (2 - i % 3)) (join_sequential i out (level_words area k))
    (length-joined (16 + 16 * (i % 3)) (level_words area k) out (length-level_words area k long (omega arith)) w (omega arith)))
sized-above P area long (suc m) (suc n) level k i out x high w h =
    go (eqb (i / 4) 0) refl (λ y g. sized-above P area long m n (suc level) (suc k) (i / 4) (out_words P y) y (omega arith) (length-out_words P y) g)
  where
    block : List ℕ
    block = join_parallel i out (level_words area k)

    size : length block ≡ 64
    size = length-joined (16 * (i % 4)) (level_words area k) out (length-level_words area k long (omega arith)) w (omega arith)

    go : (b : Bool) → eqb (i / 4) 0 ≡ b
        → ((y : Node) → length (output P.rounds y) ≡ output_bits
        → length (output P.rounds (last_or y (last_above P n (suc level) (i / 4) (out_words P y) (levels_from area m (suc k))))) ≡ output_bits)
        → length (output P.rounds (last_or x (last_above P (suc n) level i out (level_words area k ∷ levels_from area m (suc k))))) ≡ output_bits
    go true e up = rw (LastNodes.above-one P n level i out (level_words area k) (levels_from area m (suc k)) e) (length-output-node P P.rounds level 0 1 (output_bits * (3 - i % 4)) block size)
    go false e up =
        rw (LastNodes.above_many P n level i out (level_words area k) (levels_from area m (suc k)) e)
        (up (node P level (i / 4) 0 (output_bits * (3 - i % 4)) block) (length-output-node P P.rounds level (i / 4) 0 (output_bits * (3 - i % 4)) block size))

sized-root : (P : Params) (limit T : ℕ) (area : List ℕ) → Long area
    → length (output P.rounds (last_or no_node (last_nodes P limit T (levels_of area)))) ≡ output_bits
sized-root P zero T area long =
    rw (levels_split area, Machine.last_nodes-seq P T (level_words area 1) (levels_up area 2))
    (length-output-node P P.rounds 1 (done_blocks sequential_bits T) 1 (sequential_bits - held_bits sequential_bits T) (level_words area 1) (length-level_words area 1 long (omega arith)))
sized-root P (suc n) T area long = rw (levels_split area) (go (eqb (done_blocks block_bits T) 0) refl)
  where
    ws : List ℕ
    ws = level_words area 1

    size : length ws ≡ 64
    size = length-level_words area 1 long (omega arith)

    go : (b : Bool) → eqb (done_blocks block_bits T) 0 ≡ b → length (output P.rounds (last_or no_node (last_nodes P (suc n) T (ws ∷ levels_up area 2)))) ≡ output_bits
    go true e = rw (Machine.last_nodes-one P n T ws (levels_up area 2) e) (length-output-node P P.rounds 1 0 1 (block_bits - held_bits block_bits T) ws size)
    go false e =
        let y : Node = node P 1 (done_blocks block_bits T) 0 (block_bits - held_bits block_bits T) ws in
        rw (Machine.last_nodes_many P n T ws (levels_up area 2) e)
        (sized-above P area long (own_levels area + 1 - 2) n 2 2 (done_blocks block_bits T) (out_words P y) y (omega arith) (length-out_words P y)
        (length-output-node P P.rounds 1 (done_blocks block_bits T) 0 (block_bits - held_bits block_bits T) ws size))

-- ---- the digest

pub digest-written : (area out root : List ℕ) (d : ℕ) → Long area → d ≡ get_or area 3 0 → root ≡ out_words (params_of area) (last_or no_node (last_nodes_of area))
    → numbers 8 (digest_bytes d) (drop (output_bits - d) (bits_of 64 root) ++ replicate 7 false) ++ drop (digest_bytes d) out ≡ digest_out area (last_nodes_of area) out
unfolding digest_out last_nodes_of
digest-written area out root d long ed e =
    let P : Params = params_of area in
    let m : Node = last_or no_node (last_nodes P P.limit (total_of area) (levels_of area)) in
    let b : bits_of 64 root ≡ output P.rounds m = ap (bits_of 64) e ∙ words-bits P m (sized-root P P.limit (total_of area) area long) in
    let s : d ≡ P.d = ed ∙ sym (size-read area) in
    ap (λ (x : List Bool). numbers 8 (digest_bytes d) (drop (output_bits - d) x ++ replicate 7 false) ++ drop (digest_bytes d) out) b
    ∙ ap (λ (k : ℕ). numbers 8 (digest_bytes k) (drop (output_bits - k) (output P.rounds m) ++ replicate 7 false) ++ drop (digest_bytes k) out) s

-- ---- the wipe

all-zero : (area : List ℕ) (k : ℕ) → k ≡ block_words * own_levels area
    → put head_words k area (replicate k 0) ≡ with_levels area (empty_levels (own_levels area))
unfolding with_levels
all-zero area k h = rw (h, drop-drop (block_words * own_levels area) head_words area, flatten-empty (own_levels area)) refl

-- word 0 is then 2 and word 14 counts all nodes, and the levels, k words, are zero
pub wiped : (area : List ℕ) (phase n k : ℕ) → phase ≡ 2 → Long area → k ≡ area_words (get_or area 4 0) - head_words
    → (let marked : List ℕ = set (set area 0 phase) 14 n in
    put head_words k marked (replicate (length (take k (drop head_words marked))) 0) ≡ with_levels (set (set area 0 2) 14 n) (empty_levels (own_levels area)))
wiped area phase n k p long h =
    let ended : List ℕ = set (set area 0 2) 14 n in
    let same : params_of ended ≡ params_of area = params-set (set area 0 2) 14 n (λ h. omega arith) ∙ params-set area 0 2 (λ h. omega arith) in
    let m : k ≡ block_words * own_levels area = omega (arith, limit-word area) in
    let size : length (take k (drop head_words (set (set area 0 phase) 14 n))) ≡ k = simp (length-take, length-drop, length-set) (omega (arith, limit-word area)) in
    rw (size, p) (rw same at (all-zero ended k (rw same m)))

-- room for the digest
pub digest-room : {area out log : List ℕ} → EndPassed area out log → digest_bytes (get_or area 3 0) ≤ length out
digest-room {area} p = rw (size-read area) at p.output

-- all nodes of the tree are as many as a word counts
pub count_fits : {area : List ℕ} → OpenArea area → total_of area < 2 ^ 64 → compressions_of area + length (last_nodes_of area) < 2 ^ 64
count_fits {area} o h = omega (arith, count_left o h, tree_nodes_bound (get_or area 4 0) (total_of area) h)

-- ---- a close: the log that the nodes were written to before

-- its words are room for them
pub made_room : {made : List ℕ} (area before : List ℕ) → made ≡ logged (last_nodes_of area) before → 2 * most_levels ≤ length before
    → 2 * length (last_nodes_of area) ≤ length made
made_room area before e h =
    omega (arith, last_bound area, ap length e ∙ length-logged (last_nodes_of area) before (omega (arith, last_bound area)))
