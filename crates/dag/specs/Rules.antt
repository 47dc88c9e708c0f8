-- The inserts and the emptying. A call is refused in the order in which the refusals are numbered, before it changes anything;
-- only a missing parent is found on the way.
use Rattle.std.specs.Prelude.{ℕ, zero, suc, ◌+◌, Bool, true, false, not, List, length, ltb, Result, Ok, Err, ⊤, Option, Some, None}
use Rattle.cells.specs.Cells.{Id}
use Rattle.store.specs.Limits.{parent_limit, fewest_parents, most_parents}
use Rattle.store.specs.Tables.{Store, spent, held, is_spent, place_of, with_child, with_null, with_record, unmarked, emptied}
use Rattle.store.specs.Sound.{lengths_right, store_bad}
use Rattle.naming.specs.Naming.{called, named, number_at, no_name_room, no_child_room, no_null_room}
use Rattle.dag.specs.declared.answers.DagRefusal.{DagRefusal}
use Rattle.dag.specs.declared.answers.DagRefusal.TheVariants.{StoreBad, ListTooLong, DuplicateNullifier, TooManyParents, TooFewParents, MissingParent, NameRoom, ChildRoom, NullifierRoom}

-- what a call answers: served, or refused
abbrev pub Reply : Type 0
Reply = Result ⊤ DagRefusal

-- what its checks find: nothing against it, or a refusal
abbrev pub Verdict : Type 0
Verdict = Result ⊤ DagRefusal

-- how far the parents were gone through: past all, or to the place of the first that is not held
abbrev pub Entered : Type 0
Entered = Result ⊤ ℕ

infixr 5 refuse◌if◌else◌
-- refused with r where the test holds, else what follows
abbrev pub refuse◌if◌else◌ : DagRefusal → Bool → Verdict → Verdict
refuse r if true else v = Err r
refuse r if false else v = v

-- the reply, and the parts at exit
pub record Left : Type 0 where
  pub reply : Reply
  pub parts : Store

abbrev pub left : Reply → Store → Left
left r t = record { reply = r; parts = t }

-- a call that is refused before any change leaves the parts as they were
abbrev pub by_verdict : Verdict → Store → Left → Left
by_verdict (Err r) t l = left (Err r) t
by_verdict (Ok fine) t l = l

------ emptying

-- only the lengths are checked
unfoldable pub empty_of : Store → Left
empty_of t = by_verdict (refuse StoreBad if not (lengths_right t) else Ok tt) t (left (Ok tt) (emptied t))

------ what both inserts have: x is the id, z its nullifier, ps its parents

-- checks 7, 8 and 9: names for x and ps, an entry for each listed parent, and p places for nullifiers
unfoldable pub room_verdict : Store → Id → List Id → ℕ → Verdict
room_verdict t x ps p =
    refuse NameRoom if no_name_room t (called x ps) (suc (length ps)) else
    (refuse ChildRoom if no_child_room t (length ps) else
    (refuse NullifierRoom if no_null_room t p else Ok tt))

-- the call's ids are named, and the mark is cleared
abbrev pub begun : Store → Id → List Id → Store
begun t x ps = unmarked (named t (called x ps) (suc (length ps)))

-- the names of the record and of its i-th parent
abbrev pub own_name : Store → Id → List Id → ℕ
own_name t x ps = number_at t (called x ps) 0

abbrev pub parent_name : Store → Id → List Id → ℕ → ℕ
parent_name t x ps i = number_at t (called x ps) (suc i)

-- a new nullifier z, and the record of name c with it
abbrev pub kept_new : Store → ℕ → Id → (ℕ → ℕ) → ℕ → Store
kept_new t c z ns k = with_record (with_null t z) c (spent t) ns k

------ the plain insert

-- refused in the order 1, 2, 3, 4, 5, 7, 8, 9
unfoldable pub insert_verdict : Store → Id → Id → List Id → Verdict
insert_verdict t x z ps =
    refuse StoreBad if store_bad t else
    (refuse ListTooLong if ltb parent_limit (length ps) else
    (refuse DuplicateNullifier if is_spent t z else
    (refuse TooManyParents (length ps) most_parents if ltb most_parents (length ps) else
    (refuse TooFewParents (length ps) fewest_parents if ltb (length ps) fewest_parents else
    room_verdict t x ps 1))))

-- how far the parents were gone through, and the parts then
pub record Walked : Type 0 where
  pub way : Entered
  pub parts : Store

abbrev pub walked : Entered → Store → Walked
walked e t = record { way = e; parts = t }

abbrev pub pick_walked : Bool → Walked → Walked → Walked
pick_walked true a b = a
pick_walked false a b = b

-- the parents in order, n of them from the i-th, by name: each held one gets the child c, and the first unheld one stops.
-- The earlier entries stay
unfoldable pub entered : Store → ℕ → (ℕ → ℕ) → ℕ → ℕ → Walked
entered t c ns i zero = walked (Ok tt) t
entered t c ns i (suc n) = pick_walked (held t (ns i)) (entered (with_child t (ns i) c) c ns (i + 1) n) (walked (Err i) t)

-- refusal 6 at an unheld parent; nullifier and record are stored where all parents were held
abbrev pub stored_if : Entered → Store → ℕ → Id → (ℕ → ℕ) → ℕ → Left
stored_if (Ok passed) t c z ns k = left (Ok tt) (kept_new t c z ns k)
stored_if (Err i) t c z ns k = left (Err (MissingParent i)) t

abbrev pub after_walk : Walked → ℕ → Id → (ℕ → ℕ) → ℕ → Left
after_walk w c z ns k = stored_if w.way w.parts c z ns k

-- what an insert leaves that was not refused so far
unfoldable pub insert_tried : Store → Id → Id → List Id → Left
insert_tried t x z ps =
    after_walk (entered (begun t x ps) (own_name t x ps) (parent_name t x ps) 0 (length ps)) (own_name t x ps) z (parent_name t x ps) (length ps)

unfoldable pub insert_of : Store → Id → Id → List Id → Left
insert_of t x z ps = by_verdict (insert_verdict t x z ps) t (insert_tried t x z ps)

------ the genesis insert

-- no place is needed for a nullifier that is there already
abbrev pub places_wanted : Option ℕ → ℕ
places_wanted (Some p) = 0
places_wanted None = 1

-- refused in the order 1, 2, 7, 8, 9
unfoldable pub genesis_verdict : Store → Id → Id → List Id → Verdict
genesis_verdict t x z ps =
    refuse StoreBad if store_bad t else
    (refuse ListTooLong if ltb parent_limit (length ps) else
    room_verdict t x ps (places_wanted (place_of t z)))

abbrev pub pick_store : Bool → Store → Store → Store
pick_store true a b = a
pick_store false a b = b

-- a child entry for name p, if it is held
abbrev pub entered_if : Store → ℕ → ℕ → Store
entered_if t p c = pick_store (held t p) (with_child t p c) t

-- only held parents get entries: the first n of them
unfoldable pub held_entered : Store → ℕ → (ℕ → ℕ) → ℕ → Store
held_entered t c ns zero = t
held_entered t c ns (suc n) = entered_if (held_entered t c ns n) (ns n) c

-- nullifiers may repeat: one that is there keeps its place
abbrev pub kept_at : Option ℕ → Store → ℕ → Id → (ℕ → ℕ) → ℕ → Store
kept_at (Some p) t c z ns k = with_record t c p ns k
kept_at None t c z ns k = kept_new t c z ns k

abbrev pub kept : Store → ℕ → Id → (ℕ → ℕ) → ℕ → Store
kept t c z ns k = kept_at (place_of t z) t c z ns k

-- what a genesis insert leaves that was not refused
unfoldable pub genesis_done : Store → Id → Id → List Id → Store
genesis_done t x z ps =
    kept (held_entered (begun t x ps) (own_name t x ps) (parent_name t x ps) (length ps)) (own_name t x ps) z (parent_name t x ps) (length ps)

unfoldable pub genesis_of : Store → Id → Id → List Id → Left
genesis_of t x z ps = by_verdict (genesis_verdict t x z ps) t (left (Ok tt) (genesis_done t x z ps))
