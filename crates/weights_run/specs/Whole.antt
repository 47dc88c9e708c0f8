-- WHAT IS WRITTEN DEPENDS ON THE INPUT ALONE, however the reads part it.
-- Assumes nothing.
use Prim.Native.Nat.{ℕ, zero, suc, zero-le, ◌+◌, ◌*◌, ◌/◌, ◌≤◌, ◌<◌}
use Rattle.std.specs.Prelude.{◌≡◌, List, [], ◌∷◌, ◌++◌}
use Rattle.std.proofs.Math.Path.{sym, ap}
use Rattle.std.proofs.Common.{◌∙◌, append_assoc, append-nil, not-suc-le-zero, le_trans, le_refl, length-take, length-drop, take_all, drop-drop}
use native.Mathlib.Omega.{arith}
use Rattle.std.proofs.Math.ListN.{length, take, drop, length-append}
use Rattle.std.proofs.Math.Seq.{length-take-le, take-append-add, drop-append-add}
use Rattle.std.proofs.lemmas.List.{take-append-le, drop-append-le}
use Rattle.text.specs.Cases.{either}
use Rattle.text.specs.Ascii.{ascii}
use Rattle.text.specs.Pieces.{newline, place_of, lines_of, finished, last_line}
use Rattle.text.specs.PieceLaws.{by_place, finished_none, finished_more}
use Rattle.text.specs.LineLaws.{Without, place_in_first, place_in_second, without_front, lines_more, lines_last}
use Rattle.text.specs.Put.{put_at, part_of, kept_of}
use Rattle.text.specs.PutLaws.{put_fits, take_over}
use Rattle.weights_line.specs.Rules.{most_bytes, answer_of}
use Rattle.weights_line.specs.LineLaws.{too_long}
use Rattle.weights_run.specs.Output.{text_of, answer_line, answers_to, output_of}
use Rattle.weights_run.specs.Stream.{room_each, most_kept, bytes_of, begun, together, written, filled_part, answered_of, step_of}
use Rattle.weights_run.specs.StreamLaws.{chosen, line_fits}

-- by the first line of a text, whatever stands after the text
module _ (s rest : List ℕ) (h : place_of newline s < length s) where
  abbrev i : ℕ
  i = place_of newline s

  first_line : lines_of (s ++ rest) ≡ take i s ∷ lines_of (drop (suc i) s ++ rest)
  first_line =
      let same : place_of newline (s ++ rest) ≡ i = place_in_first newline s rest h in
      let inside : place_of newline (s ++ rest) < length (s ++ rest) = rw (same, length-append s rest) (omega arith) in
      lines_more (s ++ rest) inside
      ∙ rw (same, take-append-le i s rest (omega arith), drop-append-le (suc i) s rest h)

  begun_after : begun s ≡ begun (drop (suc i) s)
  unfolding bytes_of
  begun_after =
      let b = bytes_of (finished (drop (suc i) s)) in
      let size : length (take i s) ≡ i = length-take-le i s (omega arith) in
      let used : bytes_of (finished s) ≡ suc i + b = ap bytes_of (finished_more s h) ∙ omega arith in
      ap (λ (n : ℕ). drop n s) used ∙ sym (drop-drop b (suc i) s)

  fewer : (n : ℕ) → length s ≤ suc n → length (drop (suc i) s) ≤ n
  fewer n g = rw (length-drop (suc i) s) (omega arith)

-- where a text has no newline, nothing of it is finished
all_begun : (s : List ℕ) → Without newline s → begun s ≡ s
unfolding bytes_of
all_begun s h = rw (finished_none s h)

-- what is begun has no newline
pub begun_without : (n : ℕ) (s : List ℕ) → length s ≤ n → Without newline (begun s)
begun_without zero s g = by_place newline s (λ h. rw (all_begun s h) h) (λ h. absurd (not-suc-le-zero (le_trans h g)))
begun_without (suc n) s g =
    by_place newline s (λ h. rw (all_begun s h) h)
    (λ h. rw (begun_after s [] h) (begun_without n (drop (suc (place_of newline s)) s) (fewer s [] h n g)))

-- the lines of a text and what follows it are the finished lines of the text, and those of what is begun with what follows
Parted : List ℕ → List ℕ → Type 0
Parted s rest = answers_to (lines_of (s ++ rest)) ≡ answers_to (finished s) ++ answers_to (lines_of (begun s ++ rest))

parted_none : (s rest : List ℕ) → Without newline s → Parted s rest
unfolding Parted answers_to
parted_none s rest h = rw (all_begun s h, finished_none s h)

parted_more : (s rest : List ℕ) (h : place_of newline s < length s) → Parted (drop (suc (place_of newline s)) s) rest → Parted s rest
unfolding Parted answers_to
parted_more s rest h after =
    let line = take (place_of newline s) s in
    let later = drop (suc (place_of newline s)) s in
    ap answers_to (first_line s rest h)
    ∙ ap (λ (t : List ℕ). answer_line line ++ t) after
    ∙ sym (append_assoc (answer_line line) (answers_to (finished later)) (answers_to (lines_of (begun later ++ rest))))
    ∙ ap (λ (ls : List (List ℕ)). answers_to ls ++ answers_to (lines_of (begun later ++ rest))) (sym (finished_more s h))
    ∙ ap (λ (t : List ℕ). answers_to (finished s) ++ answers_to (lines_of (t ++ rest))) (sym (begun_after s rest h))

parted : (n : ℕ) (s rest : List ℕ) → length s ≤ n → Parted s rest
parted zero s rest g = by_place newline s (parted_none s rest) (λ h. absurd (not-suc-le-zero (le_trans h g)))
parted (suc n) s rest g =
    by_place newline s (parted_none s rest)
    (λ h. parted_more s rest h (parted n (drop (suc (place_of newline s)) s) rest (fewer s rest h n g)))

pub parted_is : (s rest : List ℕ) → answers_to (lines_of (s ++ rest)) ≡ answers_to (finished s) ++ answers_to (lines_of (begun s ++ rest))
unfolding Parted
parted_is s rest = parted (length s) s rest (le_refl (length s))

-- a line over 80 bytes is bad however long it is, and what follows it does not depend on it
bad_line : (line : List ℕ) → most_bytes < length line → answer_line line ≡ ascii "bad\n"
unfolding answer_line answer_of text_of
bad_line line h = rw (← too_long line h)

one_bad_line : (line : List ℕ) → most_bytes < length line → answers_to (last_line line) ≡ ascii "bad\n"
unfolding answers_to last_line
one_bad_line [] h = absurd (not-suc-le-zero h)
one_bad_line (b ∷ line) h = append-nil (answer_line (b ∷ line)) ∙ bad_line (b ∷ line) h

module _ (b : List ℕ) (no-newline : Without newline b) (long : most_bytes < length b) (rest : List ℕ) where
  long_last : Without newline rest → answers_to (lines_of (b ++ rest)) ≡ ascii "bad\n"
  long_last h =
      let size = length-append b rest in
      let without : Without newline (b ++ rest) = rw (place_in_second newline b rest no-newline, size) (omega arith) in
      ap answers_to (lines_last (b ++ rest) without) ∙ one_bad_line (b ++ rest) (omega (arith, size))

  long_first : place_of newline rest < length rest → answers_to (lines_of (b ++ rest)) ≡ ascii "bad\n" ++ answers_to (lines_of (drop (suc (place_of newline rest)) rest))
  unfolding answers_to
  long_first h =
      let j = place_of newline rest in
      let place = place_in_second newline b rest no-newline in
      let inside : place_of newline (b ++ rest) < length (b ++ rest) = rw (place, length-append b rest) (omega arith) in
      let past : suc (length b + j) ≡ length b + suc j = omega arith in
      ap answers_to (lines_more (b ++ rest) inside)
      ∙ rw (
        place,
        past,
        take-append-add b rest j,
        drop-append-add b rest (suc j),
        bad_line (b ++ take j rest) (omega (arith, length-append b (take j rest))),
      )

-- so of such a line it is enough to keep 81 bytes
pub kept_same : (b : List ℕ) → Without newline b → (rest : List ℕ) → answers_to (lines_of (take most_kept b ++ rest)) ≡ answers_to (lines_of (b ++ rest))
kept_same b h rest =
    either (length b) most_kept (λ (short : length b ≤ most_kept). rw (take_all most_kept b short))
    (λ (long : most_kept < length b).
    let c = take most_kept b in
    let size : length c ≡ most_kept = length-take-le most_kept b (omega arith) in
    let c-h = without_front newline most_kept b h in
    let c-long : most_bytes < length c = omega arith in
    let b-long : most_bytes < length b = omega arith in
    by_place newline rest (λ g. long_last c c-h c-long rest g ∙ sym (long_last b h b-long rest g))
    (λ g. long_first c c-h c-long rest g ∙ sym (long_first b h b-long rest g)))

-- what the steps write is the answers to the lines of what is kept and of all the parts
steps_write : (parts : List (List ℕ)) (kept : List ℕ) → Without newline kept → written kept parts ≡ answers_to (lines_of (kept ++ together parts))
unfolding written together
steps_write [] kept h = rw (append-nil kept) (sym (ap answers_to (lines_last kept h)))
steps_write (part ∷ more) kept h =
    let s = kept ++ part in
    let without = begun_without (length s) s (le_refl (length s)) in
    ap (λ (t : List ℕ). answers_to (finished s) ++ t)
    (steps_write more (take most_kept (begun s)) (without_front newline most_kept (begun s) without)
    ∙ kept_same (begun s) without (together more))
    ∙ sym (parted_is s (together more))
    ∙ ap (λ (t : List ℕ). answers_to (lines_of t)) (append_assoc kept part (together more))

-- THE WHOLE OUTPUT is the header and what the steps write, whatever parts the reads bring
pub whole : (parts : List (List ℕ)) → ascii "curvature alpha weight\n" ++ written [] parts ≡ output_of (together parts)
unfolding output_of
whole parts = ap (λ (t : List ℕ). ascii "curvature alpha weight\n" ++ t) (steps_write parts [] zero-le)

-- there are no more finished lines than bytes, and no more than 16 bytes of answer for each
finished_count : (n : ℕ) (s : List ℕ) → length s ≤ n → length (finished s) ≤ length s
finished_count zero s g = by_place newline s (λ h. rw (finished_none s h) zero-le) (λ h. absurd (not-suc-le-zero (le_trans h g)))
finished_count (suc n) s g =
    by_place newline s (λ h. rw (finished_none s h) zero-le)
    (λ h.
    let later = drop (suc (place_of newline s)) s in
    rw (finished_more s h)
    (omega (arith, h, length-drop (suc (place_of newline s)) s, finished_count n later (fewer s [] h n g))))

answers_length : (lines : List (List ℕ)) → length (answers_to lines) ≤ room_each * length lines
unfolding answers_to
answers_length [] = zero-le
answers_length (line ∷ more) =
    rw (length-append (answer_line line) (answers_to more)) (omega (arith, line_fits line, answers_length more))

-- a text that fits at the front of a buffer is what the buffer then holds
pub front_holds : (out s : List ℕ) → length s ≤ length out → filled_part (put_at out 0 s) ≡ s
front_holds out s h = rw (← put_fits out 0 s (omega arith)) (take_over out 0 s zero-le)

-- A STEP writes and keeps what `written` says, where the output has 16 bytes for each byte of the input
module _ (input : List ℕ) (filled : ℕ) (out : List ℕ) (fits : filled ≤ length input) (room : room_each * filled ≤ length out) where
  abbrev part : List ℕ
  part = take filled input

  size : length part ≡ filled
  size = length-take-le filled input fits

  all_chosen : chosen part out ≡ finished part
  all_chosen = take_all (length out / room_each) (finished part) (omega (arith, size, finished_count (length part) part (le_refl (length part))))

  pub step_writes : filled_part (step_of input filled out).output ≡ answers_to (finished part)
  unfolding step_of answered_of
  step_writes =
      rw all_chosen
      (front_holds out (answers_to (finished part))
      (omega (arith, size, finished_count (length part) part (le_refl (length part)), answers_length (finished part))))

  pub step_keeps : filled_part (step_of input filled out).input ≡ take most_kept (begun part)
  unfolding step_of answered_of kept_of part_of
  step_keeps =
      rw all_chosen
      (front_holds input (take most_kept (begun part)) (simp (length-take, length-drop) (omega (arith, size))))
