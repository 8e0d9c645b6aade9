-- Definitions: what a call of the program leaves in what it was lent: the text of its step at the front of the bytes to write.
use Rattle.std.specs.Prelude.{List, ◌++◌, ℕ, ◌+◌, ◌*◌, length, drop}
use Rattle.print.specs.Print.{line_bytes}
use Rattle.program.specs.Steps.{Step, Last}
use Rattle.program.specs.declared.Program.{Program}

-- room for every text: the lines of as many nodes as a log of 566 words has, and the line of a digest of 64 bytes
abbrev pub text_bytes : ℕ
text_bytes = line_bytes * 283 + 129

-- a text put at the front of bytes that were lent, and its length
pub record Put : Type 0 where
  pub count : ℕ
  pub out : List ℕ

unfoldable pub put_of : List ℕ → List ℕ → Put
put_of text out = record { count = length text; out = text ++ drop (length text) out }

-- what `take` leaves: the state that the next call gets, how many bytes are to be written, and all that was lent, on exit
pub record Took : Type 0 where
  pub program : Program
  pub count : ℕ
  pub area : List ℕ
  pub out : List ℕ

abbrev pub took_by : Program → List ℕ → Put → Took
took_by p area t = record { program = p; count = t.count; area = area; out = t.out }

unfoldable pub took_of : Step → List ℕ → Took
took_of s out = took_by s.program s.area (put_of s.text out)

-- what `finish` leaves
pub record TookLast : Type 0 where
  pub count : ℕ
  pub area : List ℕ
  pub out : List ℕ

abbrev pub took_last_by : List ℕ → Put → TookLast
took_last_by area t = record { count = t.count; area = area; out = t.out }

unfoldable pub took_last_of : Last → List ℕ → TookLast
took_last_of l out = took_last_by l.area (put_of l.text out)
