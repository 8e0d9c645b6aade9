-- Laws: the words past the length that L gives do not matter to any call: two areas that are alike in the words before them answer
-- alike. L is the argument's for open, and the area's own for the others. Of every area, short and unsound ones too. What write and
-- read do: AlikeTexts of `text`.
use Rattle.std.specs.Prelude.{◌≡◌, Bool, true, false, ◌&&◌, List, [], ◌∷◌, ◌++◌, ℕ, ◌+◌, ◌≤◌, ◌<◌, ltb, leb, take, set, replicate}
use Rattle.std.proofs.Math.Path.{refl}
use Rattle.std.proofs.Common.{sym, ap, ◌∙◌, subst, arith, length-take, length-set, take-take, take_all}
use borrow.Author.Tests.{ltb-true, ltb-false, lt-ltb, le-ltb, le-leb, leb-true}
use Rattle.std.proofs.Math.ListN.{length}
use Rattle.std.proofs.lemmas.List.{length-replicate}
use Rattle.std.proofs.Math.Seq.{take-set-lt}
use Rattle.lists.specs.And.{and_parts}
use Rattle.lists.specs.Take.{take-drop-take}
use Rattle.bits.specs.Piece.{Piece, piece_bits}
use Rattle.tree.specs.Tree.{Params, Node}
use Rattle.refusals.specs.Refusals.{first_refusal, param_tests}
use Rattle.refusals.specs.RefusalLaws.{alike-by}
use Rattle.calls.specs.Area.{head_words, block_words, area_words, own_levels, own_words, Long, total_of, compressions_of, params_of, level_start, level_words, levels_of, with_levels, empty_level, empty_levels, sound}
use Rattle.calls.specs.Calls.{Made, open_tests, feed_tests, end_tests, total_test, open_number, open_of, fed_bits, feed_number, fed_area, feed_of, last_nodes_of, end_number, ended_area, digest_out, end_of, nodes_digest, preview_of, close_tests, close_number, close_of, shown, level_of, log_words_number, log_words_of}
use Rattle.calls.proofs.Rows.{AllLen}
use Rattle.calls.proofs.AreaLaws.{params-set, front-with_levels}
use Rattle.calls.proofs.Sound.{empty-widths}
use Rattle.calls.proofs.Widths.{Wide, wide-levels, wide-bits}
use Rattle.calls.proofs.Stands.{opened-alike}
use Rattle.calls.proofs.LogWords.{end-enough}
use Rattle.calls.proofs.Previews.{preview_as_end}
use Rattle.calls.proofs.Moved.{SameParts, same-front, same-sound, alike-long, front_long, front-params}
use Rattle.calls.specs.Vocabulary.{SameFront, OpenedAlike, AreaLogAlike, FinishedAlike}

-- ---- short areas

-- two areas that are alike in n words are both shorter than that, or neither is
pub shorter-alike : (n : ℕ) (x y : List ℕ) → take n x ≡ take n y → ltb (length x) n ≡ ltb (length y) n
shorter-alike n x y e = by (ltb (length x) n) refl
  where
    sizes : length (take n x) ≡ length (take n y)
    sizes = ap length e

    by : (b : Bool) → ltb (length x) n ≡ b → ltb (length x) n ≡ ltb (length y) n
    by true h = h ∙ sym (lt-ltb (length y) n (omega (arith, ltb-true (length x) n h, sizes, length-take n x, length-take n y)))
    by false h = h ∙ sym (le-ltb (length y) n (omega (arith, ltb-false (length x) n h, sizes, length-take n x, length-take n y)))

-- so an area that is short is like no other
short-same : (x y : List ℕ) → length x < own_words x → SameFront (params_of x).limit x y → x ≡ y
short-same x y h e =
    let s = ltb-true (length y) (own_words x) (sym (shorter-alike (own_words x) x y e) ∙ lt-ltb (length x) (own_words x) h) in
    sym (take_all (own_words x) x (omega arith)) ∙ e ∙ take_all (own_words x) y (omega arith)

-- what holds of an area and itself, and of long ones that are alike, holds of all that are alike
pub by_length : (Q : List ℕ → List ℕ → Type 0) → ((x : List ℕ) → Q x x) → ((x y : List ℕ) → Long x → SameFront (params_of x).limit x y → Q x y) →
    (x y : List ℕ) → SameFront (params_of x).limit x y → Q x y
by_length Q same long x y e = by (ltb (length x) (own_words x)) refl
  where
    by : (b : Bool) → ltb (length x) (own_words x) ≡ b → Q x y
    by true h = subst (Q x) (short-same x y (ltb-true (length x) (own_words x) h) e) (same x)
    by false h = long x y (ltb-false (length x) (own_words x) h) e

-- ---- open

pub open_alike : (x y : List ℕ) (P : Params) → SameFront P.limit x y → OpenedAlike P.limit (open_of x P) (open_of y P)
unfolding open_number open_of
open_alike x y P e = alike-by (OpenedAlike P.limit) number (refl, refl, opened-alike x y P) (λ k. (refl, refl, e))
  where
    number : open_number x P ≡ open_number y P
    number = ap (λ (b : Bool). first_refusal (param_tests P ++ ((b, 7) ∷ []))) (shorter-alike (area_words P.limit) x y e)

-- ---- the tests, and the nodes

module _ (x y : List ℕ) (h : Long x) (e : SameFront (params_of x).limit x y) where
  same : SameParts x y
  same = same-front x y h e

  tests-alike : (later : List (Bool × ℕ)) → first_refusal (open_tests x ++ later) ≡ first_refusal (open_tests y ++ later)
  tests-alike later =
      rw (le-ltb (length x) (own_words x) h, le-ltb (length y) (own_words y) (alike-long x y h e), same-sound x y same, same.word 0 (omega arith)) refl

  fed-alike : (Y : List Bool) → fed_bits x Y ≡ fed_bits y Y
  unfolding fed_bits
  fed-alike Y = rw (same.params, same.word 1 (omega arith), same.levels) refl

  last-alike : last_nodes_of x ≡ last_nodes_of y
  unfolding last_nodes_of
  last-alike = rw (same.params, same.word 1 (omega arith), same.levels) refl

  -- the words that a call leaves before the tail
  heads_alike : take head_words x ≡ take head_words y
  heads_alike = sym (take-take head_words (own_words x) x (omega arith)) ∙ ap (take head_words) e ∙ take-take head_words (own_words x) y (omega arith)

  set-head : (i v w : ℕ) → i < 2 → take head_words (set (set x i v) 14 w) ≡ take head_words (set (set y i v) 14 w)
  set-head i v w l =
      rw (take-set-lt 16 (set x i v) 14 w (omega arith), take-set-lt 16 x i v (omega arith), heads_alike, ← take-set-lt 16 y i v (omega arith), ← take-set-lt 16 (set y i v) 14 w (omega arith)) refl

  left-alike : (i v w : ℕ) (st : List (List ℕ)) → i < 2 → AllLen 64 st → length st ≡ own_levels x →
      SameFront (params_of x).limit (with_levels (set (set x i v) 14 w) st) (with_levels (set (set y i v) 14 w) st)
  left-alike i v w st l a n =
      ap (λ (P : Params). take (area_words P.limit) (with_levels X st)) (sym px)
      ∙ front-with_levels X st (rw (len x, px) h) a (rw px n) ∙ rw (set-head i v w l)
      (sym (front-with_levels Y st (rw (len y, py, ← p) (front_long x y h e)) a (rw (py, ← p) n)) ∙ ap (λ (P : Params). take (area_words P.limit) (with_levels Y st)) (py ∙ sym p))
    where
      X : List ℕ
      X = set (set x i v) 14 w

      Y : List ℕ
      Y = set (set y i v) 14 w

      p : params_of x ≡ params_of y
      p = front-params x y h e

      len : (z : List ℕ) → length (set (set z i v) 14 w) ≡ length z
      len z = length-set (set z i v) 14 w ∙ length-set z i v

      same_params : (z : List ℕ) → params_of (set (set z i v) 14 w) ≡ params_of z
      same_params z = params-set (set z i v) 14 w (λ k. omega arith) ∙ params-set z i v (λ k. omega arith)

      px : params_of X ≡ params_of x
      px = same_params x

      py : params_of Y ≡ params_of y
      py = same_params y

  fed-left : (n : ℕ) (m : Made) → AllLen 64 m.levels → length m.levels ≡ own_levels x → SameFront (params_of x).limit (fed_area x n m) (fed_area y n m)
  unfolding fed_area
  fed-left n m a l =
      left-alike 1 (total_of x + n) (compressions_of x + length m.nodes) m.levels (omega arith) a l
      ∙ rw (same.word 1 (omega arith), same.word 14 (omega arith)) refl

  ended-left : (nodes : List Node) → SameFront (params_of x).limit (ended_area x nodes) (ended_area y nodes)
  unfolding ended_area empty_levels
  ended-left nodes =
      left-alike 0 2 (compressions_of x + length nodes) (replicate (own_levels x) empty_level) (omega arith) (empty-widths (own_levels x)) (length-replicate (own_levels x) empty_level)
      ∙ rw (same.word 14 (omega arith), same.params) refl

  digest-alike : (nodes : List Node) (out : List ℕ) → digest_out x nodes out ≡ digest_out y nodes out
  unfolding digest_out
  digest-alike nodes out = rw same.params refl

  shown-alike : (level : ℕ) → shown x level ≡ shown y level
  unfolding shown
  shown-alike level =
      rw (le-leb (own_words x) (length x) h, le-leb (own_words y) (length y) (alike-long x y h e), same-sound x y same, same.params) refl

  words-alike : (level : ℕ) → level ≤ own_levels x → level_words x level ≡ level_words y level
  words-alike level l =
      let f : (z : List ℕ) → level_words (take (own_words x) z) level ≡ level_words z level =
      λ z. take-drop-take (own_words x) (level_start level) block_words z (omega arith) in
      sym (f x) ∙ ap (λ (z : List ℕ). level_words z level) e ∙ f y

-- ---- feed

feed-long : (piece : Piece) (log x y : List ℕ) → Long x → SameFront (params_of x).limit x y → AreaLogAlike (params_of x).limit (feed_of x piece log) (feed_of y piece log)
unfolding feed_number feed_of fed_bits
feed-long piece log x y h e =
    alike-by (AreaLogAlike (params_of x).limit) number
    (rw (← made) (refl, refl, refl, fed-left x y h e piece.count (fed_bits x (piece_bits piece)) wide.widths wide.size)) (λ k. (refl, refl, refl, e))
  where
    made : fed_bits x (piece_bits piece) ≡ fed_bits y (piece_bits piece)
    made = fed-alike x y h e (piece_bits piece)

    number : feed_number x piece log ≡ feed_number y piece log
    number =
        tests-alike x y h e (feed_tests (total_of x) (length (fed_bits x (piece_bits piece)).nodes) piece log)
        ∙ rw (made, (same x y h e).word 1 (omega arith)) refl

    wide : Wide (params_of x).limit (fed_bits x (piece_bits piece)).levels
    wide = wide-bits (params_of x) (params_of x).limit (total_of x) (piece_bits piece) (levels_of x) (wide-levels x h)

pub feed-alike : (x y : List ℕ) (piece : Piece) (log : List ℕ) → SameFront (params_of x).limit x y →
    AreaLogAlike (params_of x).limit (feed_of x piece log) (feed_of y piece log)
feed-alike x y piece log =
    by_length (λ (x y : List ℕ). AreaLogAlike (params_of x).limit (feed_of x piece log) (feed_of y piece log)) (λ z. (refl, refl, refl, refl)) (feed-long piece log) x y

-- ---- end

end-long : (out log x y : List ℕ) → Long x → SameFront (params_of x).limit x y → FinishedAlike (params_of x).limit (end_of x out log) (end_of y out log)
unfolding end_number end_of
end-long out log x y h e =
    alike-by (FinishedAlike (params_of x).limit) number
    (rw (← made) (refl, refl, digest-alike x y h e (last_nodes_of x) out, refl, ended-left x y h e (last_nodes_of x))) (λ k. (refl, refl, refl, refl, e))
  where
    made : last_nodes_of x ≡ last_nodes_of y
    made = last-alike x y h e

    number : end_number x out log ≡ end_number y out log
    number =
        tests-alike x y h e (end_tests (params_of x).d (length (last_nodes_of x)) out log) ∙ rw (made, (same x y h e).params) refl

pub end-alike : (x y out log : List ℕ) → SameFront (params_of x).limit x y → FinishedAlike (params_of x).limit (end_of x out log) (end_of y out log)
end-alike x y out log =
    by_length (λ (x y : List ℕ). FinishedAlike (params_of x).limit (end_of x out log) (end_of y out log)) (λ z. (refl, refl, refl, refl, refl)) (end-long out log) x y

-- ---- preview and close

-- a preview answers as an end whose log has words enough
pub preview-alike : (x y out : List ℕ) → SameFront (params_of x).limit x y → preview_of x out ≡ preview_of y out
preview-alike x y out e =
    let log : List ℕ = replicate 54 0 in
    let a = end-alike x y out log e in
    let p : (z : List ℕ) → preview_of z out ≡ record { number = (end_of z out log).number; count = 0; digest = (end_of z out log).digest } =
    λ z. preview_as_end z out log (end-enough z out log (omega arith)) in
    p x ∙ rw (a.0, a.2) (sym (p y))

close-long : (figure log x y : List ℕ) → Long x → SameFront (params_of x).limit x y → AreaLogAlike (params_of x).limit (close_of x figure log) (close_of y figure log)
unfolding close_number close_of
close-long figure log x y h e =
    alike-by (AreaLogAlike (params_of x).limit) number
    (rw (← made) (refl, refl, refl, ended-left x y h e (last_nodes_of x))) (λ k. (refl, refl, refl, e))
  where
    made : last_nodes_of x ≡ last_nodes_of y
    made = last-alike x y h e

    number : close_number x figure log ≡ close_number y figure log
    number =
        tests-alike x y h e (close_tests (length (last_nodes_of x)) (nodes_digest x (last_nodes_of x)) figure log) ∙ rw (made, (same x y h e).params) refl

pub close-alike : (x y figure log : List ℕ) → SameFront (params_of x).limit x y → AreaLogAlike (params_of x).limit (close_of x figure log) (close_of y figure log)
close-alike x y figure log =
    by_length (λ (x y : List ℕ). AreaLogAlike (params_of x).limit (close_of x figure log) (close_of y figure log)) (λ z. (refl, refl, refl, refl)) (close-long figure log) x y

-- ---- show a level, and log words

level-long : (level : ℕ) (x y : List ℕ) → Long x → SameFront (params_of x).limit x y → level_of x level ≡ level_of y level
unfolding level_of shown
level-long level x y h e = by (shown x level) refl
  where
    by : (b : Bool) → shown x level ≡ b → level_of x level ≡ level_of y level
    by true s =
        let a = and_parts (leb (own_words x) (length x)) (sound x && (leb 1 level && leb level (own_levels x))) s in
        let b = and_parts (sound x) (leb 1 level && leb level (own_levels x)) a.1 in
        let c = and_parts (leb 1 level) (leb level (own_levels x)) b.1 in
        rw (level_of, s, sym (shown-alike x y h e level) ∙ s) (words-alike x y h e level (leb-true level (own_levels x) c.1))
    by false s = rw (level_of, s, sym (shown-alike x y h e level) ∙ s) refl

pub level-alike : (x y : List ℕ) (level : ℕ) → SameFront (params_of x).limit x y → level_of x level ≡ level_of y level
level-alike x y level = by_length (λ (x y : List ℕ). level_of x level ≡ level_of y level) (λ z. refl) (level-long level) x y

log_words-long : (n : ℕ) (x y : List ℕ) → Long x → SameFront (params_of x).limit x y → log_words_of x n ≡ log_words_of y n
unfolding log_words_of log_words_number
log_words-long n x y h e =
    let number : first_refusal (open_tests x ++ (total_test (total_of x) n ∷ [])) ≡ first_refusal (open_tests y ++ (total_test (total_of y) n ∷ [])) =
    tests-alike x y h e (total_test (total_of x) n ∷ []) ∙ rw ((same x y h e).word 1 (omega arith)) refl in
    rw (number, fed-alike x y h e (replicate n false)) refl

pub log_words-alike : (x y : List ℕ) (n : ℕ) → SameFront (params_of x).limit x y → log_words_of x n ≡ log_words_of y n
log_words-alike x y n = by_length (λ (x y : List ℕ). log_words_of x n ≡ log_words_of y n) (λ z. refl) (log_words-long n) x y
