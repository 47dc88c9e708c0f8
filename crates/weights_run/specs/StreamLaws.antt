-- The way of the loop that answers lines one after the other. Assumes nothing.
use Prim.Native.Nat.{ℕ, zero-le, suc, ◌+◌, ◌-◌, ◌*◌, ◌/◌, ◌≤◌, ◌<◌}
use Rattle.std.specs.Prelude.{◌≡◌, refl}
use Rattle.std.proofs.Math.Path.{sym, ap}
use Rattle.std.proofs.Common.{◌∙◌, arith, add-one}
use mathlib.Core.List.{List, [], ◌∷◌, ◌++◌, append_assoc, append-nil}
use Rattle.std.proofs.Math.ListN.{length, take, drop, length-drop}
use Rattle.std.proofs.Math.Seq.{take-nil, drop-drop, length-take-le}
use Rattle.text.specs.Pieces.{newline, place_of, finished}
use Rattle.text.specs.PieceLaws.{finished_none, finished_more}
use Rattle.text.specs.Put.{Page, page, over, put_at, kept_of}
use Rattle.text.specs.PutLaws.{put_fits, put_front, put_within, take_over, drop_over, length_over}
use Rattle.weights_line.specs.Rules.{line_of}
use Rattle.weights_run.specs.Output.{answer_line, answers_to}
use Rattle.weights_run.specs.OutputLaws.{answer_fits}
use Rattle.weights_run.specs.Stream.{room_each, most_kept, bytes_of, Done, answered_of, Stepped, step_of}

-- the lines that are to be answered
abbrev pub chosen : List ℕ → List ℕ → List (List ℕ)
chosen part out = take (length out / room_each) (finished part)

-- the lines that are still to be answered, where `left` may be and `used` bytes are used up
abbrev pub waiting : List ℕ → ℕ → ℕ → List (List ℕ)
waiting part left used = take left (finished (drop used part))

-- what holds from line to line: what is written, and what is used up, is what the lines so far give
pub record Going (part first out : List ℕ) (left used written : ℕ) : Type 0 where
  pub inside : used ≤ length part
  pub room : written + room_each * left ≤ length out
  pub same_size : length out ≡ length first
  pub same_rest : drop written out ≡ drop written first
  pub text : answers_to (chosen part first) ≡ take written out ++ answers_to (waiting part left used)
  pub bytes : bytes_of (chosen part first) ≡ used + bytes_of (waiting part left used)

pub going_start : (part out : List ℕ) → Going part out out (length out / room_each) 0 0
going_start part out =
    record {
      inside = omega arith;
      room = omega arith;
      same_size = refl;
      same_rest = refl;
      text = refl;
      bytes = omega arith;
    }

pub line_fits : (line : List ℕ) → length (answer_line line) ≤ room_each
unfolding answer_line
line_fits line = answer_fits (line_of line)

module _ (part first out : List ℕ) (left used written : ℕ) (g : Going part first out left used written) where
  -- no line is left, or there is room for none
  done : waiting part left used ≡ [] → record { used = used; output = page out written } ≡ answered_of part first
  unfolding answered_of answers_to bytes_of
  done e =
      let whole : answers_to (chosen part first) ≡ take written out = g.text ∙ rw e (append-nil (take written out)) in
      let used-up : bytes_of (chosen part first) ≡ used = g.bytes ∙ rw e (omega arith) in
      let put = put_front first out written (omega (arith, g.room)) g.same_size g.same_rest in
      rw (whole, used-up, put)

  pub going_none : length (drop used part) ≤ place_of newline (drop used part) → record { used = used; output = page out written } ≡ answered_of part first
  going_none h = done (rw (finished_none (drop used part) h) (take-nil left))

  pub going_full : left ≡ 0 → record { used = used; output = page out written } ≡ answered_of part first
  going_full e = done (rw e)

  -- one line is answered
  module _ (some : 0 < left) (size : ℕ) (at_size : size ≡ place_of newline (drop used part)) (more : size < length (drop used part)) where
    abbrev line : List ℕ
    line = take size (drop used part)

    after : waiting part left used ≡ line ∷ waiting part (left - 1) (used + (size + 1))
    after =
        let rest = drop used part in
        let one_less : left ≡ suc (left - 1) = omega arith in
        let split : finished rest ≡ line ∷ finished (drop (suc size) rest) = rw at_size (finished_more rest (rw at_size at more)) in
        let there : drop (suc size) rest ≡ drop (used + (size + 1)) part =
        drop-drop (suc size) used part ∙ ap (λ (n : ℕ). drop (used + n) part) (sym (add-one size)) in
        ap (λ (n : ℕ). take n (finished rest)) one_less
        ∙ ap (λ (ls : List (List ℕ)). take (suc (left - 1)) ls) split
        ∙ ap (λ (l : List ℕ). line ∷ take (left - 1) (finished l)) there

    abbrev text : List ℕ
    text = answer_line line

    fits : written + length text ≤ length out
    fits = omega (arith, g.room, line_fits line)

    -- the loop goes on with the text written
    written_on : Going part first (over out written text) (left - 1) (used + (size + 1)) (written + length text)
    unfolding answers_to bytes_of
    written_on =
        let within : written ≤ length out = omega (arith, fits) in
        let line-size : length line ≡ size = length-take-le size (drop used part) (omega arith) in
        record {
          inside = omega (arith, g.inside, length-drop used part);
          room = rw (length_over out written text fits) (omega (arith, g.room, line_fits line));
          same_size = length_over out written text fits ∙ g.same_size;
          same_rest =
              drop_over out written text within
              ∙ sym (drop-drop (length text) written out)
              ∙ ap (λ (l : List ℕ). drop (length text) l) g.same_rest
              ∙ drop-drop (length text) written first;
          text =
              g.text
              ∙ ap (λ (ls : List (List ℕ)). take written out ++ answers_to ls) after
              ∙ sym (append_assoc (take written out) text (answers_to (waiting part (left - 1) (used + (size + 1)))))
              ∙ ap (λ (l : List ℕ). l ++ answers_to (waiting part (left - 1) (used + (size + 1)))) (sym (take_over out written text within));
          bytes = g.bytes ∙ ap (λ (ls : List (List ℕ)). used + bytes_of ls) after ∙ omega arith;
        }

    pub going_more : {end : List ℕ} {last : ℕ} → page end last ≡ put_at out written text → Going part first end (left - 1) (used + (size + 1)) last
    going_more e =
        let put = e ∙ sym (put_fits out written text fits) in
        rw (ap (λ (p : Page). p.bytes) put, ap (λ (p : Page). p.next) put) written_on

-- a step is the lines answered and the rest kept
pub one_step : (input : List ℕ) (filled : ℕ) (out : List ℕ) {in' out' : List ℕ} {used kept written : ℕ}
    → record { used = used; output = page out' written } ≡ answered_of (take filled input) out → page in' kept ≡ kept_of input used filled most_kept
    → record { input = page in' kept; output = page out' written } ≡ step_of input filled out
unfolding step_of
one_step input filled out e f = rw (f, ap (λ (d : Done). d.used) e, ap (λ (d : Done). d.output) e)

-- after a step what is kept and what is written lie within the buffers
module _ (input : List ℕ) (filled : ℕ) (out : List ℕ) {in' out' : List ℕ} {kept written : ℕ}
    (e : record { input = page in' kept; output = page out' written } ≡ step_of input filled out) where
  pub kept_within : kept ≤ length in'
  unfolding step_of kept_of
  kept_within = put_within input 0 _ zero-le (ap (λ (s : Stepped). s.input) e)

  pub written_within : written ≤ length out'
  unfolding step_of answered_of
  written_within = put_within out 0 _ zero-le (ap (λ (s : Stepped). s.output) e)
