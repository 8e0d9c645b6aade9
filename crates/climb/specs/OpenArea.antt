-- Laws: what the words of an area give: parameters and K; in a sound open one parameters are in range, and the compressions done.
use Rattle.std.specs.Prelude.{◌≡◌, refl, List, ℕ, ◌^◌, length, get_or}
use Rattle.std.proofs.Common.{sym, ◌∙◌, arith, length-take, length-drop}
use borrow.Author.Tests.{eqb-true}
use Rattle.lists.specs.Below.{Below}
use Rattle.constants.specs.Constants.{RoundTable, part_entries}
use Rattle.refusals.specs.declared.Params as declared
use Rattle.refusals.specs.Refusals.{first_refusal, param_tests}
use Rattle.refusals.specs.RefusalLaws.{InRange, in_range}
use Rattle.calls.specs.Area.{Long, phase_of, total_of, k_of, compressions_of, params_of, open_count, count_for}
pub use Rattle.calls.proofs.CallLaws.{OpenArea}
use Rattle.calls.proofs.Moved.{sound-tests, sound-key}
use Rattle.area.specs.SoundLaws.{refused-words, count_open}
use Rattle.node.specs.declared.Keyed.{Keyed}
use Rattle.node.specs.Words.{tree_params, Ready}

-- the parameters as the code reads them
abbrev pub numbered : List ℕ → declared.Params
numbered area = record { keylen = get_or area 2 0; d = get_or area 3 0; limit = get_or area 4 0; rounds = get_or area 5 0 }

-- and K beside them
abbrev pub keyed_of : List ℕ → Keyed
keyed_of area = record { k = k_of area; params = numbered area }

pub params-read : (area : List ℕ) → tree_params (keyed_of area) ≡ params_of area
unfolding tree_params params_of
params-read area = refl

pub size-read : (area : List ℕ) → (params_of area).d ≡ get_or area 3 0
unfolding params_of
size-read area = refl

pub length-key_of : (area : List ℕ) → Long area → length (k_of area) ≡ 8
length-key_of area long = simp (length-take, length-drop) (omega arith)

module _ {area : List ℕ} (o : OpenArea area) where
  pub open_range : InRange (get_or area 2 0) (get_or area 3 0) (get_or area 4 0) (get_or area 5 0)
  open_range =
      let e = eqb-true (first_refusal (param_tests (params_of area))) 0 (sound-tests area o.sound).params in
      in_range (get_or area 2 0) (get_or area 3 0) (get_or area 4 0) (get_or area 5 0) (sym (refused-words area) ∙ e)

  pub open_done : compressions_of area ≡ open_count (get_or area 4 0) (total_of area)
  unfolding params_of
  open_done =
      eqb-true (compressions_of area) (count_for (phase_of area) (params_of area).limit (total_of area)) (sound-tests area o.sound).count
      ∙ count_open (phase_of area) (get_or area 4 0) (total_of area) o.phase

  -- a node can be made
  pub open_ready : (constants : List ℕ) → Below (2 ^ 64) area → RoundTable 0 constants → length constants ≡ part_entries
      → Ready (keyed_of area) constants
  unfolding tree_params params_of
  open_ready constants b r h = record {
    range = open_range;
    words = length-key_of area o.long;
    key = sound-key area o.long b o.sound;
    rule = r;
    size = h;
  }
