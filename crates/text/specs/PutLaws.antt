-- How texts put one after the other make one text. Assumes nothing.
use Rattle.std.specs.Prelude.{ℕ, ◌+◌, ◌-◌, ◌≤◌, ◌<◌, min, ◌≡◌, take, get_or, set}
use Rattle.std.proofs.Common.{zero-le, sym, ap, ◌∙◌, arith, add_assoc, zero-add, add-one, length-append, length-take, length-drop, take-append-drop, take_at, drop_at, drop-drop, length-take-le, get_or-append-add, le-leb}
use mathlib.Core.List.{List, [], ◌∷◌, ◌++◌, append_assoc, append-nil}
use Rattle.std.proofs.Math.Nat.{min_comm}
use Rattle.std.proofs.Math.ListN.{length, drop, drop_of_length-le}
use Rattle.std.proofs.Math.Seq.{slice, get_or-take, get_or-drop, paste, paste-zero, paste-suc, take-length, append_snoc, take-nil, drop-length}
use Rattle.std.proofs.lemmas.List.{set_split, drop-take, take-take}
use borrow.Rule.Slice.PartMut.{mid_of, post_of, put_mid, Post-is}
use Rattle.std.proofs.lemmas.Bool.{lt-leb}
use Rattle.text.specs.Cases.{either}
use Rattle.text.specs.PieceLaws.{from_on}
use Rattle.text.specs.Put.{Page, page, over, put_at, part_of, kept_of}

module _ (out : List ℕ) (at : ℕ) (s : List ℕ) where
  pub put_fits : at + length s ≤ length out → page (over out at s) (at + length s) ≡ put_at out at s
  unfolding put_at
  put_fits h = rw (le-leb (at + length s) (length out) h)

  pub put_full : length out < at + length s → page out at ≡ put_at out at s
  unfolding put_at
  put_full h = rw (lt-leb (at + length s) (length out) h)

  over_head : at ≤ length out → length (take at out ++ s) ≡ at + length s
  over_head h = length-append (take at out) s ∙ ap (λ (n : ℕ). n + length s) (length-take-le at out h)

  pub take_over : at ≤ length out → take (at + length s) (over out at s) ≡ take at out ++ s
  take_over h = take_at (take at out ++ s) (drop (at + length s) out) (at + length s) (over_head h)

  pub drop_over : at ≤ length out → drop (at + length s) (over out at s) ≡ drop (at + length s) out
  drop_over h = drop_at (take at out ++ s) (drop (at + length s) out) (at + length s) (over_head h)

-- a text put after a text is the two of them put as one
pub over_over : (out : List ℕ) (at : ℕ) (a b : List ℕ) → at ≤ length out
    → over (over out at a) (at + length a) b ≡ over out at (a ++ b)
over_over out at a b h =
    let rest : drop (at + length a + length b) (over out at a) ≡ drop (at + length (a ++ b)) out =
    sym (drop-drop (length b) (at + length a) (over out at a))
    ∙ ap (λ (l : List ℕ). drop (length b) l) (drop_over out at a h)
    ∙ drop-drop (length b) (at + length a) out
    ∙ ap (λ (n : ℕ). drop n out) (add_assoc at (length a) (length b) ∙ ap (λ (n : ℕ). at + n) (sym (length-append a b))) in
    rw (take_over out at a h, rest, append_assoc (take at out) a b)

pub length_over : (out : List ℕ) (at : ℕ) (s : List ℕ) → at + length s ≤ length out → length (over out at s) ≡ length out
length_over out at s h =
    let room : at ≤ length out = omega arith in
    rw (length-append (take at out ++ s) (drop (at + length s) out), over_head out at s room, length-drop (at + length s) out) (omega arith)

-- where a text fits, what it begins with fits
pub front_fits : (at room : ℕ) (a b : List ℕ) → at + length (a ++ b) ≤ room → at + length a ≤ room
front_fits at room a b h = omega (arith, length-append a b)

-- a text put where another ended, where both fit: the two put as one
pub put_put : (out : List ℕ) (at : ℕ) (a b : List ℕ) {mid end : List ℕ} {next last : ℕ} → at + length (a ++ b) ≤ length out
    → page mid next ≡ put_at out at a → page end last ≡ put_at mid next b → page end last ≡ put_at out at (a ++ b)
put_put out at a b h e f =
    let whole : length (a ++ b) ≡ length a + length b = length-append a b in
    let first : at + length a ≤ length out = omega arith in
    let room : at + length a + length b ≤ length (over out at a) = rw (length_over out at a first) (omega arith) in
    f
    ∙ ap (λ (p : Page). put_at p.bytes p.next b) (e ∙ sym (put_fits out at a first))
    ∙ sym (put_fits (over out at a) (at + length a) b room)
    ∙ rw (over_over out at a b (omega arith), add_assoc at (length a) (length b), ← whole) (put_fits out at (a ++ b) h)

pub put_one : (out : List ℕ) (at b : ℕ) → at < length out → page (set out at b) (at + 1) ≡ put_at out at (b ∷ [])
put_one out at b h =
    let e : set out at b ≡ over out at (b ∷ []) =
    set_split out at b h ∙ ap (λ (n : ℕ). take at out ++ (b ∷ drop n out)) (sym (add-one at)) ∙ sym (append_snoc (take at out) b (drop (at + 1) out)) in
    rw e (put_fits out at (b ∷ []) (omega arith))

-- a copy of the text over the front of what stands from the place on puts it there
pub put_part : (out : List ℕ) (at : ℕ) (s end : List ℕ) → at + length s ≤ length out
    → end ≡ take (length s) s ++ drop (length s) (mid_of at (length out - at) out)
    → page (put_mid at (length out - at) out end) (at + length s) ≡ put_at out at s
put_part out at s end h e =
    let room : at ≤ length out = omega arith in
    let post : post_of at (length out - at) out ≡ [] = Post-is at (length out) out room ∙ drop-length out in
    rw (
      e,
      from_on at out,
      post,
      take-length s,
      append-nil (s ++ drop (length s) (drop at out)),
      drop-drop (length s) at out,
      ← append_assoc (take at out) s (drop (at + length s) out),
    )
    (put_fits out at s h)

-- a part of a buffer that is moved to the front, byte by byte
module _ (buf : List ℕ) (from to most : ℕ) where
  abbrev part : List ℕ
  part = part_of buf from to most

  pub part_length : length part ≡ min (min to (length buf) - from) most
  unfolding part_of
  part_length = simp (length-take, length-drop) (min_comm most (min to (length buf) - from))

  pub kept_none : min to (length buf) ≤ from → page buf 0 ≡ kept_of buf from to most
  unfolding kept_of part_of
  kept_none h =
      let none : drop from (take to buf) ≡ [] = drop_of_length-le (take to buf) {i = from} (rw (length-take to buf) h) in
      rw (none, take-nil {A = ℕ} most) (put_fits buf 0 [] zero-le)

  part_at : (i : ℕ) → i < length part → get_or part i 0 ≡ get_or buf (from + i) 0
  unfolding part_of
  part_at i h =
      let small : i < most = omega (arith, part_length) in
      let inside : from + i < to = omega (arith, part_length) in
      get_or-take most (slice from to buf) i 0 small ∙ get_or-drop from (take to buf) i 0 ∙ get_or-take to buf (from + i) 0 inside

  moved_at : (i : ℕ) → i < length part → get_or (paste buf 0 part i) (from + i) 0 ≡ get_or buf (from + i) 0
  moved_at i h =
      let front = take i part in
      let size : length front ≡ i = length-take-le i part (omega arith) in
      let there : from + i ≡ length front + from = omega arith in
      let here : 0 + i + from ≡ from + i = omega arith in
      ap (λ (k : ℕ). get_or (front ++ drop (0 + i) buf) k 0) there
      ∙ get_or-append-add front (drop (0 + i) buf) from 0
      ∙ get_or-drop (0 + i) buf from 0
      ∙ ap (λ (k : ℕ). get_or buf k 0) here

  pub kept_step : (i : ℕ) → i < length part → set (paste buf 0 part i) i (get_or (paste buf 0 part i) (from + i) 0) ≡ paste buf 0 part (i + 1)
  kept_step i h =
      let room : 0 + i < length buf = omega (arith, part_length) in
      rw (moved_at i h, ← part_at i h, add-one i)
      (ap (λ (k : ℕ). set (paste buf 0 part i) k (get_or part i 0)) (sym (zero-add i)) ∙ paste-suc buf 0 part i 0 room h)

  pub kept_all : (n : ℕ) → n ≡ length part → page (paste buf 0 part n) n ≡ kept_of buf from to most
  unfolding kept_of
  kept_all n e =
      let room : 0 + length part ≤ length buf = omega (arith, part_length) in
      rw (e, take-length part) (ap (λ (k : ℕ). page (over buf 0 part) k) (sym (zero-add (length part))) ∙ put_fits buf 0 part room)

  -- the same moved at once: so many bytes from the place where the part begins, if it has any
  module _ (start size : ℕ) (at_start : start ≡ min from (min to (length buf))) (at_size : size ≡ min (min to (length buf) - start) most) where
    same_bytes : from < min to (length buf) → take size (drop start buf) ≡ take size part
    unfolding part_of
    same_bytes h =
        let begins : start ≡ from = omega arith in
        let ends : from + (to - from) ≡ to = omega arith in
        let tail : take (to - from) (drop from buf) ≡ slice from to buf = sym (drop-take from (to - from) buf) ∙ ap (λ (n : ℕ). drop from (take n buf)) ends in
        rw begins (sym (take-take size (to - from) (drop from buf) (omega arith)))
        ∙ ap (λ (l : List ℕ). take size l) tail
        ∙ sym (take-take size most (slice from to buf) (omega arith))

    pub kept_moved : page (paste buf 0 (drop start buf) size) size ≡ kept_of buf from to most
    kept_moved =
        either (min to (length buf)) from
        (λ (none : min to (length buf) ≤ from).
        let empty : size ≡ 0 = omega arith in
        rw (empty, ← paste-zero buf 0 (drop start buf)) (kept_none none))
        (λ (some : from < min to (length buf)).
        let whole : size ≡ length part = omega (arith, part_length) in
        ap (λ (l : List ℕ). page (l ++ drop (0 + size) buf) size) (same_bytes some) ∙ kept_all size whole)

-- a buffer that is as it was from a place on has what stands before it put at its front
pub put_front : (first out : List ℕ) (n : ℕ) → n ≤ length out → length out ≡ length first → drop n out ≡ drop n first
    → page out n ≡ put_at first 0 (take n out)
put_front first out n h same rest =
    let size : 0 + length (take n out) ≡ n = zero-add (length (take n out)) ∙ length-take-le n out h in
    let filled : over first 0 (take n out) ≡ out =
    ap (λ (k : ℕ). take n out ++ drop k first) size ∙ ap (λ (l : List ℕ). take n out ++ l) (sym rest) ∙ take-append-drop n out in
    ap (λ (k : ℕ). page out k) (sym size)
    ∙ ap (λ (l : List ℕ). page l (0 + length (take n out))) (sym filled)
    ∙ put_fits first 0 (take n out) (omega arith)

-- after a put the next place is still within the buffer
pub put_within : (out : List ℕ) (at : ℕ) (s : List ℕ) {end : List ℕ} {last : ℕ} → at ≤ length out → page end last ≡ put_at out at s → last ≤ length end
put_within out at s h e =
    either (at + length s) (length out)
    (λ (fits : at + length s ≤ length out).
    let put = e ∙ sym (put_fits out at s fits) in
    rw (ap (λ (p : Page). p.bytes) put, ap (λ (p : Page). p.next) put, length_over out at s fits) fits)
    (λ (full : length out < at + length s).
    let put = e ∙ sym (put_full out at s full) in
    rw (ap (λ (p : Page). p.bytes) put, ap (λ (p : Page). p.next) put) h)
