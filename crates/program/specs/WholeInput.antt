-- Definitions: the reads and the area for which the theorem of `Whole` holds.
use mathlib.Core.List.{List, [], map, flatten}
use Rattle.std.specs.Prelude.{Option, Some, None, ℕ, suc, ◌*◌, ◌^◌, ◌≤◌, ◌<◌, length}
use Rattle.lists.specs.Below.{Below}
use Rattle.tree.specs.Tree.{most_limit}
use Rattle.calls.specs.Area.{area_words}
use Rattle.program.specs.Printed.{Cut, first_line}
use Rattle.program.specs.Steps.{buffer_bytes}

-- the message of an input: the bytes behind its first line, and none if it has no such line
abbrev pub message_in : Option Cut → List ℕ
message_in None = []
message_in (Some c) = c.rest

-- Nothing is asked of the bytes: what they are is decided by `printed`. A read may be empty, and an area may hold anything.
pub record Input (area : List ℕ) (reads : List (List ℕ)) : Type 0 where
  -- the area has the words that any L asks, 1,744
  pub long : area_words most_limit ≤ length area
  -- each read has at most the bytes of the program's buffer, for which the log of a call has room
  pub short : Below (suc buffer_bytes) (map length reads)
  -- the message's bits can be counted: "6, 0: total would pass 2^64 - 1" refuses a longer one, after its first lines are printed
  pub few : 8 * length (message_in (first_line (flatten reads))) < 2 ^ 64
