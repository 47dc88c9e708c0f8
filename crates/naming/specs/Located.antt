-- What a search for a call's ids answers, and the laws by which the search goes from id to id.
use Prim.Native.Nat.{ℕ, suc, ◌+◌, ◌≤◌, ◌<◌}
use Rattle.std.specs.Prelude.{◌≡◌, refl, true, cond, not, length, get_or, set, replicate, Option, Some, None}
use Rattle.std.proofs.Math.Path.{sym, ap}
use Rattle.std.proofs.Common.{◌∙◌, arith, length-set, get_or-set_same}
use Rattle.std.proofs.Math.Bool.{false, and-false}
use Rattle.std.proofs.Math.Logic.{⊎_elim}
use Rattle.std.proofs.Math.Seq.{get_or-set_other}
use Rattle.bitset.specs.Sets.{count_below}
use Rattle.cells.specs.Cells.{Id, same_id, first_where, first_id}
use Rattle.cells.specs.Every.{last_or}
use Rattle.cells.specs.First.{first_found}
use Rattle.store.specs.Limits.{names_at}
use Rattle.store.specs.Tables.{Store, names, number_of, is_named}
use Rattle.naming.specs.Naming.{call_limit, is_new, fresh_count, number_at}
use Rattle.naming.specs.Numbers.{fresh_zero, fresh_most, first_place_self, number_old, number_new, number_same, number_below}
use Rattle.naming.specs.declared.lookup.Located.{Located}
use Rattle.naming.specs.declared.lookup.Spot.{Spot}

-- r has the number of each of the first n ids of the call, and says which are new, and how many those are
pub record Locates (t : Store) (xs : ℕ → Id) (n : ℕ) (r : Located) : Type 0 where
  pub numbers : (i : ℕ) → i < n → get_or r.numbers i 0 ≡ number_at t xs i
  pub new : (i : ℕ) → i < n → get_or r.new i false ≡ is_new t xs i
  pub fresh : r.fresh ≡ fresh_count t xs n

-- s has the number of the id at place i, and says whether it is new
record Spots (t : Store) (xs : ℕ → Id) (i : ℕ) (s : Spot) : Type 0 where
  number : s.number ≡ number_at t xs i
  new : s.new ≡ is_new t xs i

-- no id located yet
abbrev pub nowhere : Located
nowhere = record { numbers = replicate call_limit 0; new = replicate call_limit false; fresh = 0 }

-- one more id located, at place i
abbrev pub with_spot : Located → ℕ → Spot → Located
with_spot r i s = record { numbers = set r.numbers i s.number; new = set r.new i s.new; fresh = r.fresh + cond s.new 1 0 }

-- an id that stands at an earlier place has that one's number; else the number that it has, or the next free one
unfoldable pub spot_of : Located → ℕ → Option ℕ → Option ℕ → Spot
spot_of r free (Some j) found = record { number = get_or r.numbers j 0; new = false }
spot_of r free None (Some k) = record { number = k; new = false }
spot_of r free None None = record { number = free; new = true }

-- the answer has a place for each id of a call
pub record Whole (r : Located) : Type 0 where
  pub numbers_long : length r.numbers ≡ call_limit
  pub new_long : length r.new ≡ call_limit

module _ (t : Store) (xs : ℕ → Id) where
  pub locates_none : Locates t xs 0 nowhere
  locates_none =
      record {
        numbers = λ (i : ℕ) (h : i < 0). absurd (omega arith);
        new = λ (i : ℕ) (h : i < 0). absurd (omega arith);
        fresh = sym (fresh_zero t xs);
      }

  module _ (i : ℕ) (r : Located) (l : Locates t xs i r) where
    locates_more : (s : Spot) → Spots t xs i s → Whole r → i < call_limit → Locates t xs (suc i) (with_spot r i s)
    unfolding fresh_count count_below
    locates_more s d w h =
        record {
          numbers = λ (j : ℕ) (k : j < suc i).
              ⊎_elim
              (λ (e : j ≡ i). rw e (get_or-set_same r.numbers i s.number 0 (omega (arith, w.numbers_long)) ∙ d.number))
              (λ (e : j < i). get_or-set_other r.numbers i j s.number 0 (λ (y : j ≡ i). omega arith) ∙ l.numbers j e)
              (last_or i j k);
          new = λ (j : ℕ) (k : j < suc i).
              ⊎_elim
              (λ (e : j ≡ i). rw e (get_or-set_same r.new i s.new false (omega (arith, w.new_long)) ∙ d.new))
              (λ (e : j < i). get_or-set_other r.new i j s.new false (λ (y : j ≡ i). omega arith) ∙ l.new j e)
              (last_or i j k);
          fresh = rw (d.new, l.fresh);
        }

    -- what is found of the id at place i, at an earlier place or among the names, gives its number
    spots : (before found : Option ℕ) → before ≡ first_where (λ j. same_id (xs j) (xs i)) 0 i → found ≡ number_of t (xs i) → Spots t xs i (spot_of r (names t + r.fresh) before found)
    unfolding spot_of is_new
    spots (Some j) found e f =
        let d = first_found (λ j. same_id (xs j) (xs i)) 0 i j (sym e) in
        record { number = l.numbers j (omega (arith, d.below)) ∙ number_same t xs j i d.holds; new = rw (← e) (sym (and-false (not (is_named t (xs i))))) }
    spots None (Some k) e f = record { number = sym (number_old t xs i k (sym f)); new = rw (← f) }
    spots None None e f =
        record {
          number = ap (λ (m : ℕ). names t + m) l.fresh ∙ sym (number_new t xs i (sym f) ∙ ap (λ (m : ℕ). names t + fresh_count t xs m) (first_place_self xs i (sym e)));
          new = rw (← e, ← f);
        }

    -- the loop's step: the id at place i is looked up and its spot is kept
    pub locates_step : (free k : ℕ) (place : Option ℕ) (s : Spot) (q : Located)
        → Whole r → i < call_limit → free ≡ names t → k ≡ i → place ≡ first_where (λ j. same_id (xs j) (xs i)) 0 i
        → s ≡ spot_of r (free + r.fresh) place (first_id t.keys t.rests names_at free (xs i)) → q ≡ with_spot r k s
        → Locates t xs (suc i) q
    locates_step free k place s q w h e c f g d =
        let a : Spots t xs i s = rw (g, e) (spots place (number_of t (xs i)) f refl) in
        rw (d, c) (locates_more s a w h)

  -- at most as many as there are are new
  pub fresh_few : (n : ℕ) (r : Located) → Locates t xs n r → r.fresh ≤ n
  fresh_few n r l = omega (arith, l.fresh, fresh_most t xs n)

  -- each number is one of the names that there will be
  pub located_below : (n : ℕ) (r : Located) → Locates t xs n r → (i : ℕ) → i < n → get_or r.numbers i 0 < names t + r.fresh
  located_below n r l i h = omega (arith, l.numbers i h, l.fresh, number_below t xs i n h)

pub whole_none : (r : Located) → r ≡ nowhere → Whole r
whole_none r e = rw e (record { numbers_long = refl; new_long = refl })

pub whole_more : (r q : Located) (i : ℕ) (s : Spot) → Whole r → q ≡ with_spot r i s → Whole q
whole_more r q i s w e = rw e (record { numbers_long = length-set r.numbers i s.number ∙ w.numbers_long; new_long = length-set r.new i s.new ∙ w.new_long })
