-- What the walk over the parents changes: child entries, and nothing else.
use Rattle.std.specs.Prelude.{ℕ, zero, suc, ◌+◌, ◌≤◌, ◌<◌, ◌≡◌, refl, Bool, true, false, Err}
use Rattle.std.proofs.Common.{◌∙◌, arith}
use Rattle.store.specs.Limits.{name_limit, child_limit}
use Rattle.store.specs.Tables.{Store, names, entries, spent, pairs, waiting, accepted, used, marked, held, with_child}
use Rattle.store.specs.Facts.{Sound}
use Rattle.store.specs.Views.{SameNames, SameNulls, SameRecord, SameRest, counted, more_entries, child_used, child_mark, child_names, child_nulls, child_record, child_rest}
use Rattle.store.specs.Kept.{child_sound}
use Rattle.store.specs.Same.{names_self, nulls_self, record_self, rest_self, names_then, nulls_then, record_then, rest_then}
use Rattle.dag.specs.Rules.{walked, pick_walked, entered, pick_store, entered_if, held_entered}

-- u is t with child entries more, n at most
pub record OnlyEntries (t u : Store) (n : ℕ) : Type 0 where
  pub sound : Sound u
  pub names_same : names u ≡ names t
  pub entries_most : entries u ≤ entries t + n
  pub spent_same : spent u ≡ spent t
  pub pairs_same : pairs u ≡ pairs t
  pub waiting_same : waiting u ≡ waiting t
  pub accepted_same : accepted u ≡ accepted t
  pub mark_same : marked u ≡ marked t
  pub ids : SameNames t u
  pub nulls : SameNulls t u
  pub record_same : (m : ℕ) → m < name_limit → SameRecord t u m
  pub rest : SameRest t u

-- name c can get n entries under the names ns from the i-th on
pub record CanEnter (t : Store) (c : ℕ) (ns : ℕ → ℕ) (i n : ℕ) : Type 0 where
  pub sound : Sound t
  pub room : entries t + n ≤ child_limit
  pub own : c < names t
  pub parents : (j : ℕ) → i ≤ j → j < i + n → ns j < names t

only_none : (t : Store) (n : ℕ) → Sound t → OnlyEntries t t n
only_none t n s =
    record {
      sound = s;
      names_same = refl;
      entries_most = omega arith;
      spent_same = refl;
      pairs_same = refl;
      waiting_same = refl;
      accepted_same = refl;
      mark_same = refl;
      ids = names_self t;
      nulls = nulls_self t;
      record_same = λ (m : ℕ) (h : m < name_limit). record_self t m;
      rest = rest_self t;
    }

only_one : (t : Store) (p c : ℕ) → Sound t → entries t < child_limit → p < names t → c < names t → OnlyEntries t (with_child t p c) 1
only_one t p c s room hp hc =
    let l = s.lengths in
    let few = s.within.few_names in
    let below : p < name_limit = omega arith in
    let d = counted (with_child t p c) (more_entries (used t)) (child_used t p c l room below) in
    record {
      sound = child_sound t p c s room hp hc;
      names_same = d.names_are;
      entries_most = omega (arith, d.entries_are);
      spent_same = d.spent_are;
      pairs_same = d.pairs_are;
      waiting_same = d.waiting_are;
      accepted_same = d.accepted_are;
      mark_same = child_mark t p c l room below;
      ids = child_names t p c l room below;
      nulls = child_nulls t p c l room below;
      record_same = child_record t p c l room below;
      rest = child_rest t p c l room below few;
    }

only_then : (t u v : Store) (m n : ℕ) → OnlyEntries t u m → OnlyEntries u v n → OnlyEntries t v (m + n)
only_then t u v m n a b =
    record {
      sound = b.sound;
      names_same = b.names_same ∙ a.names_same;
      entries_most = omega (arith, a.entries_most, b.entries_most);
      spent_same = b.spent_same ∙ a.spent_same;
      pairs_same = b.pairs_same ∙ a.pairs_same;
      waiting_same = b.waiting_same ∙ a.waiting_same;
      accepted_same = b.accepted_same ∙ a.accepted_same;
      mark_same = b.mark_same ∙ a.mark_same;
      ids = names_then t u v a.ids b.ids;
      nulls = nulls_then t u v a.nulls b.nulls;
      record_same = λ (m : ℕ) (h : m < name_limit). record_then t u v m (a.record_same m h) (b.record_same m h);
      rest = rest_then t u v (omega (arith, a.names_same)) a.rest b.rest;
    }

only_more : (t u : Store) (m n : ℕ) → m ≡ n → OnlyEntries t u m → OnlyEntries t u n
only_more t u m n e a = rw (← e) a

-- after an entry for the i-th parent the rest can be entered
pub can_next : (t : Store) (c : ℕ) (ns : ℕ → ℕ) (i n : ℕ) → CanEnter t c ns i (suc n) → CanEnter (with_child t (ns i) c) c ns (i + 1) n
can_next t c ns i n a =
    let room = a.room in
    let o = only_one t (ns i) c a.sound (omega arith) (a.parents i (omega arith) (omega arith)) a.own in
    record {
      sound = o.sound;
      room = omega (arith, o.entries_most);
      own = omega (arith, o.names_same, a.own);
      parents = λ (j : ℕ) (h : i + 1 ≤ j) (k : j < i + 1 + n). let p = a.parents j (omega arith) (omega arith) in omega (arith, o.names_same);
    }

pub next_names : (t : Store) (c : ℕ) (ns : ℕ → ℕ) (i n : ℕ) → CanEnter t c ns i (suc n) → names (with_child t (ns i) c) ≡ names t
next_names t c ns i n a =
    let room = a.room in
    (only_one t (ns i) c a.sound (omega arith) (a.parents i (omega arith) (omega arith)) a.own).names_same

only_by : (t : Store) (c : ℕ) (ns : ℕ → ℕ) (i n : ℕ) (b : Bool) → CanEnter t c ns i (suc n)
    → OnlyEntries (with_child t (ns i) c) (entered (with_child t (ns i) c) c ns (i + 1) n).parts n
    → OnlyEntries t (pick_walked b (entered (with_child t (ns i) c) c ns (i + 1) n) (walked (Err i) t)).parts (suc n)
only_by t c ns i n false a r = only_none t (suc n) a.sound
only_by t c ns i n true a r =
    let room = a.room in
    only_more t (entered (with_child t (ns i) c) c ns (i + 1) n).parts (1 + n) (suc n) (omega arith)
    (only_then t (with_child t (ns i) c) (entered (with_child t (ns i) c) c ns (i + 1) n).parts 1 n
    (only_one t (ns i) c a.sound (omega arith) (a.parents i (omega arith) (omega arith)) a.own) r)

-- the plain insert's walk
pub entered_only : (t : Store) (c : ℕ) (ns : ℕ → ℕ) (i n : ℕ) → CanEnter t c ns i n → OnlyEntries t (entered t c ns i n).parts n
unfolding entered
entered_only t c ns i zero a = only_none t 0 a.sound
entered_only t c ns i (suc n) a = only_by t c ns i n (held t (ns i)) a (entered_only (with_child t (ns i) c) c ns (i + 1) n (can_next t c ns i n a))

only_if : (t : Store) (p c : ℕ) (b : Bool) → Sound t → entries t < child_limit → p < names t → c < names t → OnlyEntries t (pick_store b (with_child t p c) t) 1
only_if t p c true s room hp hc = only_one t p c s room hp hc
only_if t p c false s room hp hc = only_none t 1 s

pub can_less : (t : Store) (c : ℕ) (ns : ℕ → ℕ) (n : ℕ) → CanEnter t c ns 0 (suc n) → CanEnter t c ns 0 n
can_less t c ns n a =
    let room = a.room in
    record { sound = a.sound; room = omega arith; own = a.own; parents = λ (j : ℕ) (h : 0 ≤ j) (k : j < 0 + n). a.parents j h (omega arith) }

-- the genesis insert's
pub held_only : (t : Store) (c : ℕ) (ns : ℕ → ℕ) (n : ℕ) → CanEnter t c ns 0 n → OnlyEntries t (held_entered t c ns n) n
unfolding held_entered
held_only t c ns zero a = only_none t 0 a.sound
held_only t c ns (suc n) a =
    let u = held_entered t c ns n in
    let r = held_only t c ns n (can_less t c ns n a) in
    let room = a.room in
    let p = a.parents n (omega arith) (omega arith) in
    only_more t (entered_if u (ns n) c) (n + 1) (suc n) (omega arith)
    (only_then t u (entered_if u (ns n) c) n 1 r
    (only_if u (ns n) c (held u (ns n)) r.sound (omega (arith, r.entries_most)) (omega (arith, r.names_same)) (omega (arith, r.names_same, a.own))))
