-- One step of `weights`: which lines it answers, and what it keeps for the next.
use Rattle.std.specs.Prelude.{ℕ, ◌+◌, ◌/◌, List, [], ◌∷◌, ◌++◌, length, take, drop}
use Rattle.text.specs.Pieces.{finished, last_line}
use Rattle.text.specs.Put.{Page, page, put_at, kept_of}
use Rattle.weights_line.specs.Rules.{most_bytes}
use Rattle.weights_run.specs.Output.{answers_to}
use Rattle.weights_run.specs.declared.lines.Answered as lines
use Rattle.weights_run.specs.declared.lines.Step as steps

-- the room in the output for each line's answer
abbrev pub room_each : ℕ
room_each = 16

-- a line that is not finished is kept up to one byte more than a line may have
abbrev pub most_kept : ℕ
most_kept = most_bytes + 1

-- the bytes of some lines, each with its newline
unfoldable pub bytes_of : List (List ℕ) → ℕ
bytes_of [] = 0
bytes_of (line ∷ more) = length line + 1 + bytes_of more

-- what is left of a part of the input and of the output: bytes used up, and the output
pub record Done : Type 0 where
  pub used : ℕ
  pub output : Page

-- the finished lines of a part are answered from the first on, as many as the output has room for
unfoldable pub answered_of : List ℕ → List ℕ → Done
answered_of part out =
    let lines = take (length out / room_each) (finished part) in
    record { used = bytes_of lines; output = put_at out 0 (answers_to lines) }

abbrev pub answered : lines.Answered → List ℕ → Done
answered r out = record { used = r.used; output = page out r.written }

-- what is left of input and output
pub record Stepped : Type 0 where
  pub input : Page
  pub output : Page

-- the finished lines of the first `filled` bytes are answered, and what is begun after them is kept
unfoldable pub step_of : List ℕ → ℕ → List ℕ → Stepped
step_of input filled out =
    let done = answered_of (take filled input) out in
    record { input = kept_of input done.used filled most_kept; output = done.output }

abbrev pub stepped : steps.Step → List ℕ → List ℕ → Stepped
stepped r input out = record { input = page input r.kept; output = page out r.written }

-- ── All steps, one after the other ──

-- what stands after the finished lines of a text
abbrev pub begun : List ℕ → List ℕ
begun s = drop (bytes_of (finished s)) s

-- the parts that the reads bring, one after the other
unfoldable pub together : List (List ℕ) → List ℕ
together [] = []
together (part ∷ more) = part ++ together more

-- what the steps write for these parts: each answers the lines that are finished, and keeps what is begun, up to 81 bytes of it
unfoldable pub written : List ℕ → List (List ℕ) → List ℕ
written kept [] = answers_to (last_line kept)
written kept (part ∷ more) = answers_to (finished (kept ++ part)) ++ written (take most_kept (begun (kept ++ part))) more

-- the bytes of a buffer that are in use
abbrev pub filled_part : Page → List ℕ
filled_part p = take p.next p.bytes
