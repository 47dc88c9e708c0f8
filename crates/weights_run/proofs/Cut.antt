-- What one piece of `split_inclusive` says of the text that it is cut from: it is the first finished line and its newline, or there is none.
use Rattle.std.specs.Prelude.{ℕ, suc, ◌+◌, ◌-◌, ◌≤◌, ◌<◌, ◌≡◌, Bool, true, false, List, [], ◌∷◌, ◌++◌, length, take, drop, eqb}
use Rattle.std.specs.Cmp.Lexicographic.{pointwise}
use Rattle.std.specs.Fn.{ComputesKey, CalledAt}
use Rattle.std.specs.List.{IsFirstMatchOrLen}
use Rattle.std.proofs.Common.{sym, ap, refl, ◌∙◌, min, nat_eq, arith, get_or, le_refl}
use Rattle.std.proofs.Math.ListN.{drop_of_length-le}
use Rattle.std.proofs.Math.Seq.{drop-cons}
use Rattle.std.proofs.lemmas.Grind.{common_steps}
use Rattle.std.proofs.lemmas.Fn.{always_returns_same}
use Rattle.std.proofs.lemmas.List.Sums.{position_or_len_is}
use denote.Param.Members.{Mut}
use denote.Ref.{Bor}
use Rattle.text.specs.Cases.{either}
use Rattle.text.specs.Pieces.{newline, place_of}
use Rattle.weights_run.specs.Stream.{answered_of}
use Rattle.text.specs.Put.{page}
use Rattle.weights_run.specs.StreamLaws.{Going, going_none, going_full}

abbrev is_newline : ℕ → Bool
is_newline b = eqb b newline

pub computes : {F : Type 0} (g : Mut F (Bor ℕ × Unit {0}) Bool) {f : F} → ((x : ℕ) (b : Bool) (q : F) → CalledAt g f x b q → (q ≡ f) × (b ≡ eqb x newline))
    → ComputesKey g is_newline f
computes g {f} test =
    always_returns_same g (λ a r. r ≡ eqb a.0.now newline) f
    (λ a r q k. let m = test a.0.now r q (record { shown = a.0; shows = refl; called = k }) in (m.1, m.0))

last_of : (s : List ℕ) → 0 < length s → drop (length s - 1) s ≡ get_or s (length s - 1) 0 ∷ []
last_of s l =
    drop-cons s (length s - 1) 0 (omega (arith, l)) ∙ ap (λ (r : List ℕ). get_or s (length s - 1) 0 ∷ r) (drop_of_length-le s {i = suc (length s - 1)} (omega (arith, l)))

-- a line and what stands after its newline
pub record Cut (text line after : List ℕ) : Type 0 where
  pub at : length line ≡ place_of newline text
  pub more : length line < length text
  pub front : line ≡ take (length line) text
  pub back : after ≡ drop (length line + 1) text

module _ (text x after : List ℕ) (whole : text ≡ x ++ after) (i : ℕ) (long : length x ≡ min (i + 1) (length text)) (first : IsFirstMatchOrLen is_newline text i)
    (some : 0 < length text) where
  found : i < length text → place_of newline text ≡ i
  found l = position_or_len_is is_newline text i 0 (omega arith) (λ k h. first.0 k 0 (omega arith) h) (λ h. first.1 h 0)

  missing : length text ≤ i → place_of newline text ≡ length text
  missing l = position_or_len_is is_newline text (length text) 0 (omega arith) (λ k h. first.0 k 0 (omega arith) (omega (arith, h, l))) (λ h. absurd (omega (arith, h)))

  pub line_cut : (line : List ℕ) → pointwise nat_eq (drop (length x - 1) x) (newline ∷ []) ≡ true → line ≡ take (length x - 1) x → length line + 1 ≡ length x
      → Cut text line after
  line_cut line e f n =
      either (length text) i
      (λ l.
      let all : length x ≡ length text = omega (arith, long, l) in
      let here : pointwise nat_eq (get_or x (length x - 1) 0 ∷ []) (newline ∷ []) ≡ true = rw (last_of x (omega (arith, all, some))) at e in
      let last : get_or x (length x - 1) 0 ≡ newline = grind (arith, common_steps) in
      let same : get_or text (length text - 1) 0 ≡ get_or x (length x - 1) 0 = grind (arith, common_steps) in
      let none = first.0 (length text - 1) 0 (omega arith) (omega (arith, some, l)) in
      absurd (grind (arith, common_steps)))
      (λ l.
      let size : length line ≡ i = omega (arith, long, n, l) in
      record {
        at = size ∙ sym (found l);
        more = omega (arith, size, l);
        front = grind (arith, common_steps);
        back = grind (arith, common_steps);
      })

  pub no_cut : pointwise nat_eq (drop (length x - 1) x) (newline ∷ []) ≡ false → length text ≤ place_of newline text
  no_cut e =
      either (length text) i
      (λ l. rw (missing l) (le_refl (length text)))
      (λ l.
      let all : length x ≡ i + 1 = omega (arith, long, l) in
      let here : pointwise nat_eq (get_or x (length x - 1) 0 ∷ []) (newline ∷ []) ≡ false = rw (last_of x (omega (arith, all))) at e in
      let same : get_or text i 0 ≡ get_or x (length x - 1) 0 = grind (arith, common_steps) in
      let there = first.1 l 0 in
      absurd (grind (arith, common_steps)))

-- the pieces are at their end, or there is room for none
pub going_ended : (part first out : List ℕ) (left used written : ℕ) (g : Going part first out left used written) → (0 < left → length (drop used part) ≡ 0)
    → record { used = used; output = page out written } ≡ answered_of part first
going_ended part first out left used written g h =
    either left 0 (λ l. going_full part first out left used written g (omega (arith, l)))
    (λ l. going_none part first out left used written g (omega (arith, h l)))
