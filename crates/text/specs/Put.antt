-- A text put into a buffer. Assumes nothing.
use Rattle.std.specs.Prelude.{ℕ, ◌+◌, ◌≡◌, cond, List, ◌++◌, length, take, drop, leb}
use Rattle.std.proofs.Math.Seq.{slice}
use Rattle.text.specs.declared.put.Page as put

-- a buffer's bytes, and the next free place in it
pub record Page : Type 0 where
  pub bytes : List ℕ
  pub next : ℕ

abbrev pub page : List ℕ → ℕ → Page
page out at = record { bytes = out; next = at }

-- a buffer with a text over its bytes from a place on
abbrev pub over : List ℕ → ℕ → List ℕ → List ℕ
over out at s = take at out ++ s ++ drop (at + length s) out

-- a text put at a place of a buffer: the whole of it, or nothing where it does not fit
unfoldable pub put_at : List ℕ → ℕ → List ℕ → Page
put_at out at s = cond (leb (at + length s) (length out)) (page (over out at s) (at + length s)) (page out at)

-- new is old with a text put at its next free place
abbrev pub IsPut : put.Page → put.Page → List ℕ → Type 0
IsPut old new s = page new.bytes.now new.next ≡ put_at old.bytes.now old.next s

-- the bytes from one place up to another, at most `most` of them
unfoldable pub part_of : List ℕ → ℕ → ℕ → ℕ → List ℕ
part_of buf from to most = take most (slice from to buf)

-- such a part moved to the front of its buffer
unfoldable pub kept_of : List ℕ → ℕ → ℕ → ℕ → Page
kept_of buf from to most = put_at buf 0 (part_of buf from to most)
