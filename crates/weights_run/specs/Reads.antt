-- What is written while a reader's bytes are taken, where it is known what the reader has left and what the writer holds. Assumes nothing.
use Rattle.std.specs.Prelude.{ℕ, ◌+◌, ◌-◌, ◌*◌, ◌≤◌, ◌<◌, ◌≡◌, refl, Option, Some, None, IfSome, List, [], ◌∷◌, ◌++◌, length, take}
use Rattle.std.specs.Io.KnownBytes.{Appends, Consumes, IsAtEnd}
use Rattle.std.proofs.Common.{not-suc-le-zero, sym, ap, ◌∙◌, append_assoc, append-nil, le_refl, arith}
use Rattle.std.proofs.Common.{take_at, length-append, length-take, length-take-le}
use Rattle.std.proofs.Math.Seq.{take-append-add, drop-length}
use Rattle.std.proofs.lemmas.List.{take-append-le}
use borrow.Rule.Slice.PartMut.{put_mid, post_of, Post-is}
use Rattle.text.specs.Ascii.{ascii}
use Rattle.text.specs.Pieces.{newline, lines_of, finished, last_line}
use Rattle.text.specs.LineLaws.{Without, without_front, lines_last}
use Rattle.weights_run.specs.Output.{answer_line, answers_to, output_of}
use Rattle.text.specs.Put.{page}
use Rattle.weights_run.specs.Stream.{room_each, most_kept, begun, filled_part, Stepped, step_of}
use Rattle.weights_run.specs.StreamLaws.{kept_within}
use Rattle.weights_run.specs.Whole.{begun_without, parted_is, kept_same, step_writes, step_keeps}

-- one text after another
pub appends_two : (old mid new : Option (List ℕ)) (a b : List ℕ) → Appends old mid a → Appends mid new b → Appends old new (a ++ b)
appends_two None mid new a b f g = tt
appends_two (Some xs) None new a b f g = absurd f
appends_two (Some xs) (Some ys) None a b f g = absurd g
appends_two (Some xs) (Some ys) (Some zs) a b f g = g ∙ rw (f, append_assoc xs a b)

pub appends_none : (held : Option (List ℕ)) → Appends held held []
appends_none None = tt
appends_none (Some xs) = sym (append-nil xs)

-- what holds from read to read, where the reader had xs and the writer held `held` when the first began: a text is written, and the answers
-- to the lines of what is kept and of what is left come after it
pub record Pending (xs : List ℕ) (held left now : Option (List ℕ)) (kept : List ℕ) : Type 0 where
  pub rest : List ℕ
  pub text : List ℕ
  pub unread : left ≡ Some rest
  pub done : Appends held now text
  pub all : answers_to (lines_of xs) ≡ text ++ answers_to (lines_of (kept ++ rest))

pub pending_start : (xs : List ℕ) (held left : Option (List ℕ)) → left ≡ Some xs → Pending xs held left held []
pending_start xs held left e = record { rest = xs; text = []; unread = e; done = appends_none held; all = refl }

module _ (xs : List ℕ) (held left now : Option (List ℕ)) (kept : List ℕ) (p : Pending xs held left now kept) where
  -- what a read brings was at the front of what was left
  taken : (left' : Option (List ℕ)) (bytes : List ℕ) → Consumes (Some p.rest) left' bytes → (rest : List ℕ) × (left' ≡ Some rest) × (p.rest ≡ bytes ++ rest)
  taken None bytes h = absurd h
  taken (Some rest) bytes h = (rest, refl, h)

  pub pending_step : (left' now' : Option (List ℕ)) (bytes : List ℕ) → Consumes left left' bytes → Appends now now' (answers_to (finished (kept ++ bytes)))
      → Pending xs held left' now' (take most_kept (begun (kept ++ bytes)))
  pending_step left' now' bytes h wrote =
      let s = kept ++ bytes in
      let answers = answers_to (finished s) in
      let t = taken left' bytes (rw p.unread at h) in
      let without = begun_without (length s) s (le_refl (length s)) in
      record {
        rest = t.0;
        text = p.text ++ answers;
        unread = t.1;
        done = appends_two held now now' p.text answers p.done wrote;
        all =
            p.all
            ∙ ap (λ (l : List ℕ). p.text ++ answers_to (lines_of (kept ++ l))) t.2
            ∙ ap (λ (l : List ℕ). p.text ++ answers_to (lines_of l)) (sym (append_assoc kept bytes t.0))
            ∙ ap (λ (l : List ℕ). p.text ++ l) (parted_is s t.0 ∙ ap (λ (l : List ℕ). answers ++ l) (sym (kept_same (begun s) without t.0)))
            ∙ sym (append_assoc p.text answers (answers_to (lines_of (take most_kept (begun s) ++ t.0))));
      }

  -- at the end of the input what is kept is a last line
  pub pending_end : Without newline kept → (left' now' : Option (List ℕ)) → Consumes left left' [] → IsAtEnd left' → Appends now now' (answers_to (last_line kept))
      → Appends held now' (answers_to (lines_of xs))
  pending_end without left' now' h ended wrote =
      let t = taken left' [] (rw p.unread at h) in
      let none : t.0 ≡ [] = rw t.1 at ended in
      let whole : answers_to (lines_of xs) ≡ p.text ++ answers_to (last_line kept) =
      p.all ∙ ap (λ (l : List ℕ). p.text ++ answers_to (lines_of (kept ++ l))) (t.2 ∙ none) ∙ rw (append-nil kept, lines_last kept without) in
      rw whole (appends_two held now now' p.text (answers_to (last_line kept)) p.done wrote)

-- the same, where it may not be known what the reader had
pub reads_start : (all held : Option (List ℕ)) → IfSome all (λ xs. Pending xs held all held [])
reads_start None held = tt
reads_start (Some xs) held = pending_start xs held (Some xs) refl

pub reads_step : (all held left left' now now' : Option (List ℕ)) (kept bytes : List ℕ) → IfSome all (λ xs. Pending xs held left now kept)
    → Consumes left left' bytes → Appends now now' (answers_to (finished (kept ++ bytes)))
    → IfSome all (λ xs. Pending xs held left' now' (take most_kept (begun (kept ++ bytes))))
reads_step None held left left' now now' kept bytes p h wrote = tt
reads_step (Some xs) held left left' now now' kept bytes p h wrote = pending_step xs held left now kept p left' now' bytes h wrote

pub reads_end : (all held left left' now now' : Option (List ℕ)) (kept : List ℕ) → IfSome all (λ xs. Pending xs held left now kept)
    → Without newline kept → Consumes left left' [] → IsAtEnd left' → Appends now now' (answers_to (last_line kept))
    → IfSome all (λ xs. Appends held now' (answers_to (lines_of xs)))
reads_end None held left left' now now' kept p without h ended wrote = tt
reads_end (Some xs) held left left' now now' kept p without h ended wrote = pending_end xs held left now kept p without left' now' h ended wrote

-- the header before all answers
pub header_first : (all held mid new : Option (List ℕ)) → Appends held mid (ascii "curvature alpha weight\n")
    → IfSome all (λ xs. Appends mid new (answers_to (lines_of xs))) → IfSome all (λ xs. Appends held new (output_of xs))
unfolding output_of
header_first None held mid new e f = tt
header_first (Some xs) held mid new e f = appends_two held mid new (ascii "curvature alpha weight\n") (answers_to (lines_of xs)) e f

-- where nothing is left there is no last line, and else there is one
pub no_last : (held : Option (List ℕ)) (line : List ℕ) → length line ≡ 0 → Appends held held (answers_to (last_line line))
unfolding last_line answers_to
no_last held [] e = appends_none held
no_last held (b ∷ line) e = absurd (let h : 0 < 0 = omega arith in not-suc-le-zero h)

pub one_last : (line : List ℕ) → 0 < length line → answers_to (last_line line) ≡ answer_line line
unfolding last_line answers_to
one_last [] h = absurd (not-suc-le-zero h)
one_last (b ∷ line) h = append-nil (answer_line (b ∷ line))

-- the bytes of a read stand after what is kept
module _ (input bytes : List ℕ) (kept : ℕ) (within : kept ≤ length input) where
  abbrev pub after_read : List ℕ
  after_read = put_mid kept (length input - kept) input bytes

  front : length (take kept input) ≡ kept
  front = length-take-le kept input within

  pub kept_part : take kept after_read ≡ take kept input
  kept_part = take_at (take kept input) (bytes ++ post_of kept (length input - kept) input) kept front

  pub read_part : (fresh : ℕ) → fresh ≤ length bytes → take (kept + fresh) after_read ≡ take kept input ++ take fresh bytes
  read_part fresh h =
      let rest = bytes ++ post_of kept (length input - kept) input in
      let there : kept + fresh ≡ length (take kept input) + fresh = ap (λ (n : ℕ). n + fresh) (sym front) in
      rw there (take-append-add (take kept input) rest fresh) ∙ ap (λ (l : List ℕ). take kept input ++ l) (take-append-le fresh bytes (post_of kept (length input - kept) input) h)

  pub read_length : length bytes ≡ length input - kept → length after_read ≡ length input
  read_length h =
      let none : post_of kept (length input - kept) input ≡ [] = Post-is kept (length input) input within ∙ drop-length input in
      rw (none, append-nil bytes, length-append (take kept input) bytes) (omega (arith, front, h))

-- what a step writes and keeps of a part
module _ (input : List ℕ) (filled : ℕ) (out : List ℕ) {in' out' : List ℕ} {kept written : ℕ}
    (e : record { input = page in' kept; output = page out' written } ≡ step_of input filled out) (fits : filled ≤ length input) (room : room_each * filled ≤ length out)
    (part : List ℕ) (same : take filled input ≡ part) where
  pub writes_part : take written out' ≡ answers_to (finished part)
  writes_part = ap (λ (s : Stepped). filled_part s.output) e ∙ step_writes input filled out fits room ∙ ap (λ (l : List ℕ). answers_to (finished l)) same

  pub keeps_part : take kept in' ≡ take most_kept (begun part)
  keeps_part = ap (λ (s : Stepped). filled_part s.input) e ∙ step_keeps input filled out fits room ∙ ap (λ (l : List ℕ). take most_kept (begun l)) same

  pub keeps_few : kept ≤ most_kept
  keeps_few =
      let size : length (take kept in') ≡ kept = length-take-le kept in' (kept_within input filled out e) in
      omega (arith, size, ap length keeps_part, length-take most_kept (begun part))

pub begun_one_line : (s : List ℕ) → Without newline (take most_kept (begun s))
begun_one_line s = without_front newline most_kept (begun s) (begun_without (length s) s (le_refl (length s)))
