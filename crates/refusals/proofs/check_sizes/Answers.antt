-- `refusals::check_sizes` meets its contract.
use borrow.Author.Tests.{lt-ltb, le-ltb}
use Rattle.refusals.proofs.check_sizes.Goals as goal

pub returns-then-d-lt1 : goal.returns-then-d-lt1
returns-then-d-lt1 c = simp (lt-ltb _ _ c.if-d-lt1.true)

pub returns-then-d-gt-MOST_DIGEST_BITS : goal.returns-then-d-gt-MOST_DIGEST_BITS
returns-then-d-gt-MOST_DIGEST_BITS c = simp (le-ltb _ _ c.if-d-lt1.false, lt-ltb _ _ c.if-d-gt-MOST_DIGEST_BITS.true)

pub returns-then-keylen-gt-MOST_KEY_BYTES : goal.returns-then-keylen-gt-MOST_KEY_BYTES
returns-then-keylen-gt-MOST_KEY_BYTES c = simp (le-ltb _ _ c.if-d-lt1.false, le-ltb _ _ c.if-d-gt-MOST_DIGEST_BITS.false, lt-ltb _ _ c.if-keylen-gt-MOST_KEY_BYTES.true)

pub returns : goal.returns
returns c = simp (le-ltb _ _ c.if-d-lt1.false, le-ltb _ _ c.if-d-gt-MOST_DIGEST_BITS.false, le-ltb _ _ c.if-keylen-gt-MOST_KEY_BYTES.false)
