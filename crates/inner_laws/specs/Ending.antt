-- Laws: of the end: the wipe of an area's levels, and what it leaves; a log that is copied.
use Rattle.std.specs.Prelude.{◌≡◌, refl, List, ℕ, ◌+◌, ◌-◌, ◌*◌, length, take, set, replicate}
use Rattle.std.proofs.Common.{ap, ◌∙◌, zero-add, arith, take_all, drop-drop}
use Rattle.std.proofs.Math.Seq.{paste}
use Rattle.lists.specs.Part.{put}
use Rattle.tree.specs.Tree.{Node, node_log, logged}
use Rattle.tree.proofs.OutputLaws.{length-node_log, logged-front}
use Rattle.calls.specs.Area.{compressions_of, own_levels, own_words, with_levels, empty_levels, head_words, block_words}
use Rattle.calls.specs.Calls.{last_nodes_of, ended_area}
use Rattle.calls.proofs.AreaLaws.{flatten-empty}

pub wiped : (area : List ℕ) (e : ℕ) → e ≡ own_words area
    → put head_words (e - head_words) area (replicate (e - head_words) 0) ≡ with_levels area (empty_levels (own_levels area))
unfolding with_levels
wiped area e h =
    let n : e - head_words ≡ block_words * own_levels area = omega arith in
    rw (n, drop-drop (block_words * own_levels area) head_words area, flatten-empty (own_levels area)) refl

-- what the wipe leaves
pub wiped-area : (area : List ℕ) (nodes : ℕ) → nodes ≡ length (last_nodes_of area)
    → with_levels (set (set area 0 2) 14 (compressions_of area + nodes)) (empty_levels (own_levels area)) ≡ ended_area area (last_nodes_of area)
unfolding ended_area
wiped-area area nodes e = ap (λ (x : ℕ). with_levels (set (set area 0 2) 14 (compressions_of area + x)) (empty_levels (own_levels area))) e

-- U and V of the nodes, copied to the lent log
pub log_copied : {n : ℕ} {made now : List ℕ} (nodes : List Node) (before log : List ℕ) → now ≡ (let us : List ℕ = take n made in paste log 0 us (length us))
    → made ≡ logged nodes before → n ≡ 2 * length nodes → now ≡ logged nodes log
log_copied nodes before log c m e =
    let f : take (2 * length nodes) (logged nodes before) ≡ node_log nodes = logged-front nodes before in
    c ∙ rw (m, e, f, length-node_log nodes, zero-add (2 * length nodes), take_all (2 * length nodes) (node_log nodes) (omega (arith, length-node_log nodes))) refl
