-- How the code of `next` and `list` goes with the definitions. Assumes nothing.
use Rattle.std.proofs.Common.{◌≡◌, refl, sym, ap, ap₂, ◌∙◌, subst, Bool, true, List, [], ◌∷◌, ◌++◌, ℕ, ◌+◌, ◌-◌, ◌*◌, ◌/◌, ◌^◌, ◌≤◌, ◌<◌, min, lt_of_le_of_lt, add-one, arith, length, get_or, set, length-append, length-set}
use Rattle.std.proofs.lemmas.Nat.{shr_le}
use Rattle.std.specs.Int.Count.{count_trailing_zeros}
use Rattle.bitset.specs.Sets.{is_one, member, members, next_from, placed}
use Rattle.bitset.specs.Bit.{shifted_one, zero_one, below_lowest, lowest_one, lowest_from}
use Rattle.bitset.specs.Counts.{None, none_add}
use Rattle.bitset.specs.Lists.{next_is, next_has, members_one, members_more, members_begin, placed_none, placed_one, placed_full}
use Rattle.bitset.specs.Words.{member_at, member_past}

-- ── The next member: none from `from` on up to bit low of word i ──

module _ (s : List ℕ) (from i low : ℕ) (none : None (member s) from (i * 64 + low)) where
  -- the bits from low on of the word
  rest_bit : (n : ℕ) → i * 64 + low ≤ n → n < (i + 1) * 64 → member s n ≡ is_one (get_or s i 0 / 2 ^ low) (n - (i * 64 + low))
  rest_bit n g l =
      let e : n ≡ i * 64 + (n - i * 64) = omega arith in
      let f : n - i * 64 ≡ low + (n - (i * 64 + low)) = omega arith in
      ap (member s) e ∙ member_at s i (n - i * 64) (omega arith) ∙ ap (is_one (get_or s i 0)) f ∙ sym (shifted_one (get_or s i 0) low (n - (i * 64 + low)))

  pub next_word : get_or s i 0 / 2 ^ low ≡ 0 → None (member s) from ((i + 1) * 64 + 0)
  next_word z =
      none_add (member s) from (i * 64 + low) ((i + 1) * 64 + 0) none
      (λ n g l. rest_bit n g (omega arith) ∙ ap (λ (x : ℕ). is_one x (n - (i * 64 + low))) z ∙ zero_one (n - (i * 64 + low)))

  pub next_found : (end t r : ℕ) → get_or s i 0 < 2 ^ 64 → t ≡ count_trailing_zeros 64 (get_or s i 0 / 2 ^ low) → r ≡ min (i * 64 + low + t) end → (get_or s i 0 / 2 ^ low ≡ 0 → ⊥)
      → from ≤ i * 64 + low → from < end → r ≡ next_from (member s) from (end - from)
  next_found end t r fits et er some g l =
      let x = get_or s i 0 in
      let m = x / 2 ^ low in
      let pos : 0 < m = omega arith in
      let k : low + t < 64 = rw et (lowest_from 64 x low fits pos) in
      let clear : None (member s) from (i * 64 + low + t) =
      none_add (member s) from (i * 64 + low) (i * 64 + low + t) none
      (λ n a b. rest_bit n a (omega arith) ∙ below_lowest 64 m (n - (i * 64 + low)) (subst (λ (y : ℕ). n - (i * 64 + low) < y) et (omega arith))) in
      let one : member s (i * 64 + low + t) ≡ true =
      rest_bit (i * 64 + low + t) (omega arith) (omega arith) ∙ ap (is_one m) (omega arith) ∙ (lowest_one 64 m pos (lt_of_le_of_lt (shr_le x low) fits)).1 in
      next_is (member s) from end r (omega arith)
      record {
        start = omega arith;
        stop = omega arith;
        none = λ n a b. clear n a (omega arith);
        here = λ h. let e : r ≡ i * 64 + low + t = omega arith in ap (member s) e ∙ one;
      }

pub next_end : (s : List ℕ) (from end i low w : ℕ) → w ≡ min (length s) (end / 64 + 1) → None (member s) from (i * 64 + low) → w ≤ i → from < end
    → end ≡ next_from (member s) from (end - from)
next_end s from end i low w e none h l =
    next_is (member s) from end end (omega arith)
    record {
      start = omega arith;
      stop = omega arith;
      none = none_add (member s) from (i * 64 + low) end none (λ n a b. member_past s n (omega arith));
      here = λ g. absurd (omega arith);
    }

-- ── The list: the members below n are put, and n is the next ──

pub record Listing (p : ℕ → Bool) (end : ℕ) (out₀ out : List ℕ) (n put : ℕ) : Type 0 where
  pub stop : n ≤ end
  pub here : n < end → p n ≡ true
  pub many : put ≡ length (members p n)
  pub room : put ≤ length out₀
  pub same : length out ≡ length out₀
  pub all : out ≡ placed (members p n) out₀

pub listing_start : (p : ℕ → Bool) (end n : ℕ) (out : List ℕ) → n ≡ next_from p 0 (end - 0) → Listing p end out out n 0
unfolding members
listing_start p end n out e =
    let next = next_has p 0 end (omega arith) in
    let none : members p n ≡ [] = ap (members p) e ∙ members_more p 0 (next_from p 0 (end - 0)) (omega arith) next.none in
    record {
      stop = rw e next.stop;
      here = λ h. ap p e ∙ next.here (rw (sym e) h);
      many = rw none;
      room = omega arith;
      same = refl;
      all = rw none (placed_none out);
    }

module _ (p : ℕ → Bool) (end n put : ℕ) (out₀ out : List ℕ) (l : Listing p end out₀ out n put) where
  pub listing_next : (m : ℕ) → m ≡ next_from p (n + 1) (end - (n + 1)) → n < end → put < length out
      → Listing p end out₀ (set out put n) m (put + 1) × (n < m)
  listing_next m e h free =
      let next = next_has p (n + 1) end (omega arith) in
      let a = next.start in
      let one : members p m ≡ members p n ++ (n ∷ []) =
      ap (members p) e ∙ members_more p (n + 1) (next_from p (n + 1) (end - (n + 1))) a next.none
      ∙ ap (members p) (add-one n) ∙ members_one p n (l.here h) in (
        record {
          stop = rw e next.stop;
          here = λ g. ap p e ∙ next.here (rw (sym e) g);
          many = ap (λ (k : ℕ). k + 1) l.many ∙ sym (length-append (members p n) (n ∷ [])) ∙ ap length (sym one);
          room = omega arith;
          same = length-set out put n ∙ l.same;
          all =
              ap₂ (λ (r : List ℕ) (k : ℕ). set r k n) l.all l.many ∙ placed_one (members p n) out₀ n (omega arith)
              ∙ ap (λ (r : List ℕ). placed r out₀) (sym one);
        },
        omega arith,
      )

  -- what is there once out is full
  pub listing_full : (m : ℕ) → end ≡ m → put ≡ length out → (put ≡ min (length (members p m)) (length out₀)) × (out ≡ placed (members p m) out₀)
  listing_full m e f =
      let b = members_begin p n m (omega arith) in
      let more : length (members p m) ≡ length (members p n) + length b.0 = ap length b.1 ∙ length-append (members p n) b.0 in
      (omega arith, l.all ∙ sym (ap (λ (r : List ℕ). placed r out₀) b.1 ∙ placed_full (members p n) b.0 out₀ (omega arith)))
