-- A read in each of its cases: a is what the check of the store gave.
use Rattle.std.specs.Prelude.{ℕ, ◌+◌, ◌≤◌, ◌<◌, ◌≡◌, refl, Bool, true, false, cond, Some, Ok, Err}
use Rattle.std.proofs.Common.{arith, add-one}
use mir.Val.{bool_byte}
use Rattle.bitset.specs.Sets.{count_below}
use Rattle.cells.specs.Cells.{Id, has_id}
use Rattle.cells.specs.First.{first_found}
use Rattle.store.specs.Limits.{name_limit, names_at}
use Rattle.store.specs.Tables.{Store, names, number_of}
use Rattle.store.specs.Sound.{sound}
use Rattle.store.specs.Facts.{Sound}
use Rattle.dag.specs.declared.answers.DagRefusal.TheVariants.{StoreBad}
use Rattle.dag.specs.Reads.{read_of}

module _ {A : Type 0} (t : Store) (x : A) (a : Bool) (ha : a ≡ sound t) where
  pub read_bad : a ≡ false → Err StoreBad ≡ read_of t x
  read_bad e = rw (← ha, e)

  pub read_served : a ≡ true → (y : A) → y ≡ x → Ok y ≡ read_of t x
  read_served e y q = rw (← ha, e, q)

-- a name that is found is within the limit
pub found_name : (t : Store) (x : Id) (n : ℕ) → Sound t → number_of t x ≡ Some n → n < name_limit
found_name t x n s e = omega (arith, s.within.few_names, (first_found (has_id t.keys t.rests names_at x) 0 (names t) n e).below)

-- one place more of a count, at which p is b: m is b as a number
pub flag_few : (b : Bool) (m : ℕ) → m ≡ bool_byte b → m ≤ 1
flag_few true m e = omega arith
flag_few false m e = omega arith

flag_counted : (b : Bool) → bool_byte b ≡ cond b 1 0
flag_counted true = refl
flag_counted false = refl

pub counted_next : (p : ℕ → Bool) (n k m : ℕ) → k ≡ count_below p n → (b : Bool) → b ≡ p n → m ≡ bool_byte b → k + m ≡ count_below p (n + 1)
unfolding count_below
counted_next p n k m e b h q = rw (add-one n, e, q, ← h, flag_counted b)
