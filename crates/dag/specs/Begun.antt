-- What the steps of a call ask of the parts that they read or write. That naming leaves it so stands in proofs/Begun.
use Rattle.std.specs.Prelude.{ℕ, suc, ◌+◌, ◌≤◌, ◌<◌, ◌≡◌, List, length, get_or}
use Rattle.store.specs.Limits.{name_limit, parent_limit, child_limit, null_limit, head_length, keys_length, rests_length}
use Rattle.store.specs.Tables.{Store, entries, spent}
use Rattle.store.specs.Facts.{Sound}
use Rattle.naming.specs.Naming.{NameParts, called}
use Rattle.naming.specs.Located.{Locates}
use Rattle.naming.specs.declared.lookup.Located.{Located}
use Rattle.dag.specs.declared.transaction.Transaction.{Transaction}

------ the parts that a step reads or writes

-- the names are in order: for a search of a name
pub name_parts : (t : Store) → Sound t → NameParts t.head t.keys t.rests
name_parts t s =
    record { few = s.within.few_names; head_long = s.lengths.head_long; keys_long = s.lengths.keys_long; rests_long = s.lengths.rests_long }

-- the nullifiers are in order: for a search of one
pub record NullParts (head keys rests : List ℕ) : Type 0 where
  pub few : get_or head 2 0 ≤ null_limit
  pub keys_long : length keys ≡ keys_length
  pub rests_long : length rests ≡ rests_length

abbrev pub NullsRight : Store → Type 0
NullsRight t = NullParts t.head t.keys t.rests

pub null_parts : (t : Store) → Sound t → NullParts t.head t.keys t.rests
null_parts t s = record { few = s.within.few_spent; keys_long = s.lengths.keys_long; rests_long = s.lengths.rests_long }

-- at says where the ids of tx are: its own, and then its parents'
abbrev pub LocatedFor : Store → Transaction → Located → Type 0
LocatedFor t tx at = Locates t (called tx.id.now tx.parents.now) (suc (length tx.parents.now)) at

-- there are entries free for the first k of ns, and these are names
pub record Enterable (t : Store) (ns : ℕ → ℕ) (k : ℕ) : Type 0 where
  pub head_long : length t.head ≡ head_length
  pub few : k ≤ parent_limit
  pub room : entries t + k ≤ child_limit
  pub named : (j : ℕ) → j < k → ns j < name_limit

-- there is a place for a nullifier, and a record of name c has room for k parents
pub record Keepable (t : Store) (c k : ℕ) : Type 0 where
  pub few : k ≤ parent_limit
  pub room : spent t < null_limit
  pub keys_long : length t.keys ≡ keys_length
  pub rests_long : length t.rests ≡ rests_length
  pub named : c < name_limit
