-- Laws: of a piece fed by byte and bit: chunks of bits copied into level 1, one after the other; and of the numbers of bits that a level
-- takes at once.
use Rattle.std.specs.Prelude.{◌≡◌, refl, Bool, List, [], ◌∷◌, ◌++◌, ℕ, zero, suc, ◌+◌, ◌-◌, ◌*◌, ◌/◌, ◌%◌, ◌^◌, ◌≤◌, ◌<◌, min, length, take, drop}
use Rattle.std.proofs.Common.{sym, ap, ◌∙◌, arith, length-append, take-append-drop, take-add, drop-drop, take_all, length-take-le}
use Rattle.std.proofs.lemmas.List.Edits.{sets}
use Rattle.std.proofs.Math.Seq.{length-sets}
use Rattle.lists.specs.Below.{Below}
use Rattle.lists.specs.BelowLaws.{below-take, below-drop}
use Rattle.lists.specs.Take.{take-drop-take}
use Rattle.bits.specs.Bits.{bits_of, filled}
use Rattle.bits.specs.FilledLaws.{length-filled}
use Rattle.bits.specs.Piece.{Piece, piece_bits}
use Rattle.bits.specs.PieceLaws.{length-piece_bits}
use Rattle.tree.specs.Tree.{Params, block_bits, sequential_bits, node_log}
use Rattle.calls.specs.Area.{head_words, block_words, Long, total_of, params_of, level_words, levels_up, levels_of, with_levels, held_bits}
use Rattle.calls.specs.Calls.{Made, feed_bits, fed_bits}
use Rattle.calls.proofs.CallLaws.{FeedPassed}
use Rattle.calls.proofs.Machine
use Rattle.calls.proofs.AreaLaws.{length-level_words}
use Rattle.calls.proofs.FeedLaws.{feed_bits-append, with_levels-same}
use Rattle.calls.proofs.Widths.{Wide, wide-levels, wide-bits}
use Rattle.node.specs.declared.Keyed.{Keyed}
use Rattle.node.specs.Words.{tree_params}
use Rattle.node.specs.WordLaws.{limit_of}
use Rattle.climb.specs.Levels.{with_level, levels_split, with_first}
use Rattle.climb.specs.ReceiveLaws.{made}
use Rattle.climb.specs.Left.{Left, left-length, left-params, left-long, left-levels, left_again, left_then}
use Rattle.climb.specs.FlushLaws.{flushed, first_of, rest_of, flushed_two, wide-next, wide-flushed, wide-two, FlushingTwo}
use Rattle.climb.specs.OpenArea.{keyed_of}
use Rattle.piece.specs.FeedSteps.{size_of, base_of, next_of, part_bits, free_of, room_of, free_place, room-full, next_one, next-two, next_some, held_le, chunk, full-chunk, full-two}
use Rattle.piece.specs.ChunkLaws.{fed_whole, Whole}
use Rattle.piece.specs.PieceLaws.{fed-read}

-- bits of a piece, from a bit of a byte on
pub record Source : Type 0 where
  pub byte : ℕ
  pub bit : ℕ
  pub count : ℕ

-- the first bit of a piece that comes next
abbrev pub first_bit : Source → ℕ
first_bit source = 8 * source.byte + source.bit

-- bits of a piece for an area
pub record Part (area bytes : List ℕ) (source : Source) : Type 0 where
  pub long : Long area
  pub low : source.bit < 8
  pub inside : first_bit source + source.count ≤ 8 * length bytes

-- what they make of its levels after T bits
abbrev pub fed_part : Keyed → ℕ → List ℕ → Source → List ℕ → Made
fed_part keyed T bytes source area = feed_bits (tree_params keyed) T (part_bits bytes (first_bit source) source.count) (levels_of area)

-- a chunk: those that level 1 takes at once
pub record Chunk (keyed : Keyed) (T : ℕ) (area bytes : List ℕ) (source : Source) (log : List ℕ) (at : ℕ) : Type 0 where
  pub part : Part area bytes source
  pub own : (params_of area).limit ≡ keyed.params.limit
  pub some : 1 ≤ source.count
  pub most : source.count ≤ room_of keyed.params.limit T
  pub room : at + 2 * length (fed_part keyed T bytes source area).nodes ≤ length log

-- ---- a chunk

-- other words in level 1, and no node
abbrev first_now : List ℕ → List ℕ → Made
first_now ws area = made (ws ∷ levels_up area 2) []

first-left : {area area' ws : List ℕ} (log : List ℕ) (at : ℕ) → Long area → length ws ≡ block_words → area' ≡ with_level area 1 ws
    → Left (first_now ws area) area log at area' log at
first-left {area} {ws = ws} log at long size e = record { levels = e ∙ sym (with_first area ws long size); logged = refl; next = omega arith }

module _ {area bytes : List ℕ} {source : Source} (part : Part area bytes source) (below : Below (2 ^ 64) area) (keyed : Keyed) (T : ℕ) where
  pub chunk_free : {area' : List ℕ} {free : ℕ} (log : List ℕ) (at : ℕ) → free ≡ free_of keyed.params.limit T → source.count ≤ free
      → area' ≡ with_level area 1 (filled (level_words area 1) (block_bits - free) bytes (first_bit source) source.count)
      → Left (fed_part keyed T bytes source area) area log at area' log at
  chunk_free log at f g ea =
      let P : Params = tree_params keyed in
      let limit : ℕ = keyed.params.limit in
      let same : P.limit ≡ limit = limit_of keyed in
      let from : ℕ = first_bit source in
      let count : ℕ = source.count in
      let ws : List ℕ = level_words area 1 in
      let place : ℕ = base_of limit + held_bits (size_of limit) T in
      let size : length ws ≡ block_words = length-level_words area 1 part.long (omega arith) in
      let fits : held_bits (size_of P.limit) T + count ≤ size_of P.limit = rw same (omega (arith, held_le limit T)) in
      let e = ap (λ (x : ℕ). with_level area 1 (filled ws (block_bits - x) bytes from count)) f
      ∙ ap (λ (x : ℕ). with_level area 1 (filled ws x bytes from count)) (free_place limit T) in
      let c : fed_part keyed T bytes source area ≡ first_now (filled ws place bytes from count) area =
      ap (feed_bits P T (part_bits bytes from count)) (levels_split area)
      ∙ chunk P count T from ws bytes (levels_up area 2) (below-take block_words (below-drop head_words below)) size fits part.inside
      ∙ rw same in
      rw c (first-left log at part.long (length-filled ws place bytes from count ∙ size) (ea ∙ e))

-- ---- a chunk that comes to a full level 1

abbrev flushed_now : Keyed → ℕ → List ℕ → Made
flushed_now keyed T area = flushed (tree_params keyed) keyed.params.limit T (levels_of area)

-- bits put into level 1 after what was made of it
after_filled : {F X : Made} {area log : List ℕ} {at : ℕ} {area₁ log₁ area' : List ℕ} {at₁ : ℕ} (bytes : List ℕ) (place from count : ℕ) → Long area → Wide (params_of area).limit F.levels
    → Left F area log at area₁ log₁ at₁ → X ≡ made (filled (first_of F.levels) place bytes from count ∷ rest_of F.levels) F.nodes
    → area' ≡ with_level area₁ 1 (filled (level_words area₁ 1) place bytes from count) → Left X area log at area' log₁ at₁
after_filled {F} {area = area} {log} {at} {area₁} bytes place from count long wide l is ea =
    let up : List (List ℕ) = F.levels in
    let both : level_words area₁ 1 ∷ levels_up area₁ 2 ≡ up = sym (levels_split area₁) ∙ left-levels long wide l in
    let long₁ : Long area₁ = left-long long wide l in
    let new : List ℕ = filled (level_words area₁ 1) place bytes from count in
    let size : length new ≡ block_words = length-filled (level_words area₁ 1) place bytes from count ∙ length-level_words area₁ 1 long₁ (omega arith) in
    let L : List (List ℕ) = filled (first_of up) place bytes from count ∷ rest_of up in
    record {
      levels = ea ∙ sym (with_first area₁ new long₁ size) ∙ ap (λ (x : List (List ℕ)). with_levels area₁ (filled (first_of x) place bytes from count ∷ rest_of x)) both
          ∙ left_again long wide l L ∙ sym (ap (λ (x : Made). with_levels area x.levels) is);
      logged = l.logged ∙ sym (ap (λ (x : Made). sets log at (node_log x.nodes)) is);
      next = omega (arith, l.next, ap (λ (x : Made). at + 2 * length x.nodes) is);
    }

module _ {keyed : Keyed} {T : ℕ} {area bytes : List ℕ} {source : Source} {log : List ℕ} {at : ℕ}
    (c : Chunk keyed T area bytes source log at) (full : free_of keyed.params.limit T ≤ 0) where
  abbrev Q : Params
  Q = tree_params keyed

  abbrev from : ℕ
  from = first_bit source

  abbrev count : ℕ
  count = source.count

  same : Q.limit ≡ keyed.params.limit
  same = limit_of keyed

  held : held_bits (size_of keyed.params.limit) T ≡ size_of keyed.params.limit
  held = omega (arith, held_le keyed.params.limit T)

  fits : count ≤ next_of keyed.params.limit
  fits = omega (arith, room-full keyed.params.limit T full, c.most)

  own-levels : Wide (params_of area).limit (levels_of area)
  own-levels = wide-levels area c.part.long

  -- one node is made
  module _ (less : count ≤ block_bits) where
    full_is : fed_part keyed T bytes source area
        ≡ (let F : Made = flushed_now keyed T area in made (filled (first_of F.levels) (base_of keyed.params.limit) bytes from count ∷ rest_of F.levels) F.nodes)
    full_is =
        ap (feed_bits Q T (part_bits bytes from count)) (levels_split area)
        ∙ full-chunk Q count T from (level_words area 1) bytes (levels_up area 2) (rw same held) c.some
        (rw same (next_one keyed.params.limit fits less)) c.part.inside
        ∙ rw (same, levels_split area)

    pub chunk-room : at + 2 * length (flushed_now keyed T area).nodes ≤ length log
    chunk-room = omega (arith, c.room, ap (λ (x : Made). at + 2 * length x.nodes) full_is)

    module _ {area₁ log₁ : List ℕ} {at₁ : ℕ} (l : Left (flushed_now keyed T area) area log at area₁ log₁ at₁) where
      wide-one : Wide (params_of area).limit (flushed_now keyed T area).levels
      wide-one = wide-flushed Q keyed.params.limit T (levels_of area) own-levels

      pub flushed-long : Long area₁
      flushed-long = left-long c.part.long wide-one l

      pub chunk-full : {area' : List ℕ} {place : ℕ} → place ≡ base_of keyed.params.limit
          → area' ≡ with_level area₁ 1 (filled (level_words area₁ 1) place bytes from count)
          → Left (fed_part keyed T bytes source area) area log at area' log₁ at₁
      chunk-full ep ef =
          after_filled bytes (base_of keyed.params.limit) from count c.part.long wide-one l full_is
          (ef ∙ ap (λ (x : ℕ). with_level area₁ 1 (filled (level_words area₁ 1) x bytes from count)) ep)

  -- two nodes are made
  module _ (more : block_bits < count) where
    parallel : (1 ≤ keyed.params.limit) × (size_of keyed.params.limit ≡ block_bits)
    parallel = next-two keyed.params.limit fits more

    held_two : held_bits block_bits T ≡ block_bits
    held_two = rw parallel.1 at held

    pub two-most : count - block_bits ≤ block_bits
    two-most = omega (arith, fits, next_some keyed.params.limit parallel.0)

    -- the block that level 1 holds, and the one that comes next
    abbrev first : List ℕ
    first = level_words area 1

    abbrev second : List ℕ
    second = filled first 0 bytes from block_bits

    first-size : length first ≡ block_words
    first-size = length-level_words area 1 c.part.long (omega arith)

    second-size : length second ≡ block_words
    second-size = length-filled first 0 bytes from block_bits ∙ first-size

    -- what comes of them
    abbrev both : Made
    both = flushed_two Q keyed.params.limit T first (second ∷ levels_up area 2)

    two_is : fed_part keyed T bytes source area
        ≡ made (filled (first_of both.levels) 0 bytes (from + block_bits) (count - block_bits) ∷ rest_of both.levels) both.nodes
    two_is =
        let e : count ≡ block_bits + (count - block_bits) = omega arith in
        ap (λ (n : ℕ). feed_bits Q T (part_bits bytes from n) (levels_of area)) e
        ∙ ap (feed_bits Q T (part_bits bytes from (block_bits + (count - block_bits)))) (levels_split area)
        ∙ full-two Q (count - block_bits) T from first bytes (levels_up area 2) first-size (rw same parallel.0) held_two (omega arith) two-most (omega (arith, c.part.inside))
        ∙ rw same refl

    -- the first is copied, and the second fills level 1
    module _ {copy area₁ : List ℕ} (h : copy ≡ first) (e : area₁ ≡ with_level area 1 second) where
      stood : Left (first_now second area) area log at area₁ log at
      stood = first-left log at c.part.long second-size e

      wide-stood : Wide (params_of area).limit (second ∷ levels_up area 2)
      wide-stood = rw (levels_split area) at (wide-next second (levels_of area) second-size own-levels)

      stood-long : Long area₁
      stood-long = left-long c.part.long wide-stood stood

      both_now : flushed_two Q keyed.params.limit T copy (levels_of area₁) ≡ both
      both_now = rw (h, left-levels c.part.long wide-stood stood) refl

      pub two_flushing : FlushingTwo keyed T copy area₁ log at
      two_flushing = record {
        parallel = record { long = stood-long; own = rw (left-params c.part.long wide-stood stood) c.own; some = parallel.0 };
        full = held_two;
        words = ap length h ∙ first-size;
        room = rw both_now (omega (arith, c.room, ap (λ (x : Made). at + 2 * length x.nodes) two_is));
      }

      module _ {area₂ log₂ : List ℕ} {at₂ : ℕ} (l : Left (flushed_two Q keyed.params.limit T copy (levels_of area₁)) area₁ log at area₂ log₂ at₂) where
        wide_both : Wide (params_of area).limit both.levels
        wide_both = wide-two Q keyed.params.limit T first (second ∷ levels_up area 2) first-size wide-stood

        -- all of it, on the area as it was
        left_both : Left both area log at area₂ log₂ at₂
        left_both = left_then c.part.long wide-stood stood (rw both_now at l)

        pub both_long : Long area₂
        both_long = left-long c.part.long wide_both left_both

        pub chunk-two : {area' : List ℕ} {next : ℕ} → next ≡ from + block_bits
            → area' ≡ with_level area₂ 1 (filled (level_words area₂ 1) 0 bytes next (count - block_bits))
            → Left (fed_part keyed T bytes source area) area log at area' log₂ at₂
        chunk-two ep ef =
            after_filled bytes 0 (from + block_bits) (count - block_bits) c.part.long wide_both left_both two_is
            (ef ∙ ap (λ (x : ℕ). with_level area₂ 1 (filled (level_words area₂ 1) 0 bytes x (count - block_bits))) ep)

-- ---- one chunk after the other

-- c bits of a piece after so many of its bits, without the sum of start and count, which may pass 2^64
abbrev pub source_after : Piece → ℕ → ℕ → Source
source_after piece done c = record { byte = done / 8 + (piece.start + done % 8) / 8; bit = (piece.start + done % 8) % 8; count = c }

place_after : (piece : Piece) (done c : ℕ) → first_bit (source_after piece done c) ≡ piece.start + done
place_after piece done c = omega arith

-- the next bits of a piece, by byte and bit
next-bits : (piece : Piece) (done c : ℕ) → done + c ≤ piece.count
    → part_bits piece.bytes (first_bit (source_after piece done c)) c ≡ take c (drop done (piece_bits piece))
next-bits piece done c h =
    let B : List Bool = bits_of 8 piece.bytes in
    ap (λ (x : ℕ). take c (drop x B)) (place_after piece done c)
    ∙ ap (take c) (sym (drop-drop done piece.start B))
    ∙ sym (take-drop-take piece.count done c (drop piece.start B) h)

-- after so many of the bits Y, area and log are those of the definition
pub record Feeding (P : Params) (T : ℕ) (Y : List Bool) (area₀ log₀ area log : List ℕ) (at done : ℕ) : Type 0 where
  pub within : done ≤ length Y
  pub area-length : length area ≡ length area₀
  pub log-length : length log ≡ length log₀
  pub left : Left (feed_bits P T (take done Y) (levels_of area₀)) area₀ log₀ 0 area log at

pub feeding_none : (P : Params) (T : ℕ) (Y : List Bool) (area log : List ℕ) → Feeding P T Y area log area log 0 0
feeding_none P T Y area log =
    let e = Machine.feed_bits_none P T (levels_of area) in
    record {
      within = omega arith;
      area-length = refl;
      log-length = refl;
      left = record {
        levels = sym (ap (λ (x : Made). with_levels area x.levels) e ∙ with_levels-same area);
        logged = sym (ap (λ (x : Made). sets log 0 (node_log x.nodes)) e);
        next = omega (arith, ap (λ (x : Made). length x.nodes) e);
      };
    }

module _ {keyed : Keyed} {T : ℕ} {piece : Piece} {area₀ log₀ area log : List ℕ} {at done : ℕ}
    (w : Whole keyed T area₀ piece log₀) (f : Feeding (tree_params keyed) T (piece_bits piece) area₀ log₀ area log at done) where
  abbrev P : Params
  P = tree_params keyed

  abbrev Y : List Bool
  Y = piece_bits piece

  abbrev before : Made
  before = feed_bits P T (take done Y) (levels_of area₀)

  size : length Y ≡ piece.count
  size = length-piece_bits piece w.bits

  wide : Wide (params_of area₀).limit before.levels
  wide = wide-bits P (params_of area₀).limit T (take done Y) (levels_of area₀) (wide-levels area₀ w.long)

  kept : params_of area ≡ params_of area₀
  kept = left-params w.long wide f.left

  longer : Long area
  longer = rw (f.area-length, kept) w.long

  -- the next c bits
  abbrev coming : ℕ → Made
  coming c = fed_part keyed (T + done) piece.bytes (source_after piece done c) area

  next_is : (c : ℕ) → done + c ≤ piece.count → feed_bits P T (take (done + c) Y) (levels_of area₀) ≡ made (coming c).levels (before.nodes ++ (coming c).nodes)
  next_is c h =
      let back : before.levels ≡ levels_of area = sym (left-levels w.long wide f.left) in
      ap (λ (x : List Bool). feed_bits P T x (levels_of area₀)) (take-add done c Y)
      ∙ feed_bits-append P T (take done Y) (take c (drop done Y)) (levels_of area₀)
      ∙ rw (length-take-le done Y f.within, back, next-bits piece done c h)

  pub next-chunk : {c : ℕ} → done + c ≤ piece.count → 1 ≤ c → c ≤ room_of keyed.params.limit (T + done)
      → Chunk keyed (T + done) area piece.bytes (source_after piece done c) log at
  next-chunk {c} h some most =
      let A : Made = feed_bits P T (take (done + c) Y) (levels_of area₀) in
      let whole = ap (λ (x : List Bool). length (feed_bits P T x (levels_of area₀)).nodes) (sym (take-append-drop (done + c) Y))
      ∙ ap (λ (x : Made). length x.nodes) (feed_bits-append P T (take (done + c) Y) (drop (done + c) Y) (levels_of area₀))
      ∙ length-append A.nodes (feed_bits P (T + length (take (done + c) Y)) (drop (done + c) Y) A.levels).nodes in
      let some-nodes = ap (λ (x : Made). length x.nodes) (next_is c h) ∙ length-append before.nodes (coming c).nodes in
      record {
        part = record { long = longer; low = omega arith; inside = omega (arith, w.bits.inside, place_after piece done c) };
        own = rw kept w.own;
        some = some;
        most = most;
        room = omega (arith, w.room, whole, some-nodes, f.left.next, f.log-length);
      }

  pub feeding_more : (c : ℕ) {area' log' : List ℕ} {at' : ℕ} → done + c ≤ piece.count → Left (coming c) area log at area' log' at'
      → Feeding P T Y area₀ log₀ area' log' at' (done + c)
  feeding_more c h F =
      let C : Made = coming c in
      let s = wide-bits P (params_of area).limit (T + done) (part_bits piece.bytes (first_bit (source_after piece done c)) c) (levels_of area) (wide-levels area longer) in
      let ll = ap length F.logged ∙ length-sets log at (node_log C.nodes) in
      record {
        within = omega (arith, size);
        area-length = left-length longer s F ∙ f.area-length;
        log-length = ll ∙ f.log-length;
        left = rw (next_is c h) (left_then w.long wide f.left F);
      }

  pub feeding_all : piece.count ≤ done → Left (fed_whole keyed T piece area₀) area₀ log₀ 0 area log at
  feeding_all h = rw (take_all done Y (omega (arith, size))) at f.left

-- ---- a whole piece

-- the bits of a piece from byte 0 and its start bit on
abbrev pub whole_source : Piece → Source
whole_source piece = record { byte = 0; bit = piece.start; count = piece.count }

pub fed-start : (area : List ℕ) (piece : Piece)
    → fed_part (keyed_of area) (total_of area) piece.bytes (whole_source piece) area ≡ fed_bits area (piece_bits piece)
fed-start area piece =
    let e : 8 * 0 + piece.start ≡ piece.start = omega arith in
    ap (λ (x : ℕ). feed_bits (tree_params (keyed_of area)) (total_of area) (part_bits piece.bytes x piece.count) (levels_of area)) e
    ∙ fed-read area piece

-- the whole piece, from its start bit on
pub whole_part : {area log : List ℕ} {piece : Piece} → FeedPassed area piece log → Part area piece.bytes (whole_source piece)
whole_part p = record { long = p.opened.long; low = omega (arith, p.bits.low); inside = omega (arith, p.bits.inside) }

-- ---- numbers of bits

pub size_none : (limit : ℕ) → limit < 1 → size_of limit ≡ sequential_bits
size_none zero h = refl
size_none (suc n) h = absurd (omega arith)

pub next_none : (limit : ℕ) → limit < 1 → next_of limit ≡ sequential_bits
next_none zero h = refl
next_none (suc n) h = absurd (omega arith)

-- bits of a piece: done of them are fed, count come next, all in all
pub below_left : {done all count : ℕ} → done < all → count ≤ all - done → done + count ≤ all
below_left h g = omega arith

pub some_lesser : {room all done count : ℕ} → min room (all - done) ≤ count → 1 ≤ room → done < all → 1 ≤ count
some_lesser h g f = omega arith
