-- Laws: the outputs of a level as words, joined.
use Rattle.std.specs.Prelude.{◌≡◌, ℕ, ◌*◌, length}
use Rattle.std.proofs.Math.Path.{refl}
use Rattle.std.proofs.Common.{ap, ◌∙◌, arith}
use mathlib.Core.List.{List, [], ◌∷◌, ◌++◌, map, flatten}
use Rattle.std.proofs.Math.ListN.{length-append}
use Rattle.lists.specs.Flatten.{flatten-append, map-append}
use Rattle.tree.specs.Tree.{Params, Node, out_words}
use Rattle.tree.proofs.OutputLaws.{length-out_words}

-- the outputs of a level, joined, as words
abbrev pub level_outputs : Params → List Node → List ℕ
level_outputs P ns = flatten (map (out_words P) ns)

module _ (P : Params) where
  pub length-level_outputs : (ns : List Node) → length (level_outputs P ns) ≡ 16 * length ns
  unfolding flatten
  length-level_outputs [] = refl
  length-level_outputs (n ∷ ns) =
      length-append (out_words P n) (level_outputs P ns) ∙ omega (arith, length-out_words P n, length-level_outputs ns)

  pub outputs-append : (ns ms : List Node) → level_outputs P (ns ++ ms) ≡ level_outputs P ns ++ level_outputs P ms
  outputs-append ns ms = ap flatten (map-append (out_words P) ns ms) ∙ flatten-append (map (out_words P) ns) (map (out_words P) ms)
