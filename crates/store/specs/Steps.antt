-- How the steps of the code make the updates.
use Rattle.std.specs.Prelude.{ℕ, ◌+◌, ◌*◌, ◌≡◌, List, get_or, set}
use Rattle.std.proofs.Common.{◌∙◌, arith}
use Rattle.cells.specs.Cells.{Id, row_put, keys_put, rests_put}
use Rattle.cells.specs.Rows.{put_step}
use Rattle.store.specs.Limits.{parent_limit, nulls_at, parents_at, counts_at, children_at, places_at, lasts_at, previous_at}
use Rattle.store.specs.Tables.{store, with_child, with_null, with_record, unmarked, emptied}

pub child_made : (h h1 k r n n1 l l1 l2 o s : List ℕ) (p c e last : ℕ)
    → e ≡ get_or h 1 0 → last ≡ get_or l (lasts_at + p) 0
    → n1 ≡ set n (children_at + e) c → l1 ≡ set l (previous_at + e) last → l2 ≡ set l1 (lasts_at + p) (e + 1) → h1 ≡ set h 1 (e + 1)
    → store h1 k r n1 l2 o s ≡ with_child (store h k r n l o s) p c
unfolding with_child
child_made h h1 k r n n1 l l1 l2 o s p c e last he hlast hn hl hl2 hh = rw (hh, hl2, hl, hn, hlast, he)

pub null_made : (h h1 k k1 r r1 n l o s : List ℕ) (z : Id) (e : ℕ)
    → e ≡ get_or h 2 0 → k1 ≡ keys_put k (nulls_at + e) z → r1 ≡ rests_put r (nulls_at + e) z → h1 ≡ set h 2 (e + 1)
    → store h1 k1 r1 n l o s ≡ with_null (store h k r n l o s) z
unfolding with_null
null_made h h1 k k1 r r1 n l o s z e he hk hr hh = rw (hh, hr, hk, he)

pub record_made : (h k' r n n1 n2 l l1 o s : List ℕ) (m p : ℕ) (ps : ℕ → ℕ) (k : ℕ)
    → n1 ≡ row_put n (parents_at + m * parent_limit) ps k → n2 ≡ set n1 (counts_at + m) k → l1 ≡ set l (places_at + m) (p + 1)
    → store h k' r n2 l1 o s ≡ with_record (store h k' r n l o s) m p ps k
unfolding with_record
record_made h k' r n n1 n2 l l1 o s m p ps k hn hn2 hl = rw (hl, hn2, hn)

pub mark_made : (h h1 k r n l o s : List ℕ) → h1 ≡ set h 6 0 → store h1 k r n l o s ≡ unmarked (store h k r n l o s)
unfolding unmarked
mark_made h h1 k r n l o s e = rw e

-- one more count of the head is 0
pub empty_step : (h d d1 : List ℕ) (i : ℕ) → d ≡ row_put h 0 (λ j. 0) i → d1 ≡ set d i 0 → d1 ≡ row_put h 0 (λ j. 0) (i + 1)
empty_step h d d1 i e f = let z : 0 + i ≡ i = omega arith in f ∙ rw z at (put_step h d 0 (λ j. 0) i e)

pub empty_made : (h h1 h2 k r n l o s : List ℕ) → h1 ≡ row_put h 0 (λ j. 0) 6 → h2 ≡ set h1 6 1 → store h2 k r n l o s ≡ emptied (store h k r n l o s)
unfolding emptied
empty_made h h1 h2 k r n l o s e f = rw (f, e)
