-- Parts hashed one after another are the concatenations that the definitions hash.
use Rattle.std.specs.Prelude.{ℕ, ◌+◌, ◌<◌, ◌≤◌, ◌≡◌, Bool, true, false, take, get_or, replicate, Ok, Err}
use Rattle.std.proofs.Common.{subst, sym, ap, ◌∙◌, add-one, take-suc}
use mathlib.Core.List.{List, [], ◌∷◌, ◌++◌, append_assoc, append-nil}
use native.Mathlib.Omega.{arith}
use Rattle.std.proofs.Math.ListN.{length}
use Rattle.std.proofs.Math.Seq.{take-length}
use borrow.Author.Tests.{lt-ltb, le-ltb}
use Rattle.std.specs.Int.{to_le_bytes, w64}
use Rattle.std.proofs.lemmas.Grind.{common_steps}
use Rattle.sha3.specs.Hash.{sha3}
use Rattle.sha3.specs.Laws.{sha3_length, sha3_bytes}
use Rattle.ident.specs.Order.{Bytes, at_most_by_cmp, cmp_at_most}
use Rattle.ident.specs.Ident.{little_endian, joined, nullifier_tag, id_tag, nullifier_of, id_of, id_reply, id_beside, computed_id, key_limit, parent_limit, work_hash, work_of, at_most}
use Rattle.ident.specs.declared.WorkRefusal.TheVariants.{ListTooLong, OutOfRange}

-- the library's bytes of a number of 64 bits
pub le_bytes : (v : ℕ) → to_le_bytes w64 v ≡ little_endian 8 v
le_bytes v = grind (arith, common_steps)

pub nullifier_parts : (secret nonce when : List ℕ) (epoch : ℕ) → when ≡ little_endian 8 epoch
    → sha3 (((nullifier_tag ++ secret) ++ when) ++ nonce) ≡ nullifier_of secret epoch nonce
unfolding nullifier_of
nullifier_parts secret nonce when epoch e =
    rw e (ap (λ (m : List ℕ). sha3 (nullifier_tag ++ m)) (append_assoc secret (little_endian 8 epoch) nonce))

module _ (key nullifier : List ℕ) where
  pub id_refused : key_limit < length key → Err (record {}) ≡ computed_id key nullifier
  unfolding computed_id
  id_refused h = rw (lt-ltb key_limit (length key) h)

  -- the reply's number and what stands beside it
  pub id_refusal : key_limit < length key → (id_reply (computed_id key nullifier) ≡ 10) × (id_beside (computed_id key nullifier) ≡ replicate 32 0)
  id_refusal h = (ap id_reply (sym (id_refused h)), ap id_beside (sym (id_refused h)))

  pub id_served : (hash : List ℕ) → length key ≤ key_limit → hash ≡ sha3 ((id_tag ++ key) ++ nullifier)
      → Ok hash ≡ computed_id key nullifier
  unfolding computed_id id_of
  id_served hash h e = rw (le-ltb key_limit (length key) h, e, append_assoc id_tag key nullifier)

------ the parents, one after another

joined_snoc : (ps : List (List ℕ)) (p : List ℕ) → joined (ps ++ (p ∷ [])) ≡ joined ps ++ p
unfolding joined
joined_snoc [] p = append-nil (p)
joined_snoc (q ∷ ps) p = ap (λ (m : List ℕ). q ++ m) (joined_snoc ps p) ∙ sym (append_assoc (q) (joined ps) (p))

pub joined_none : (key : List ℕ) → key ≡ key ++ joined []
unfolding joined
joined_none key = sym (append-nil key)

-- one parent more
pub joined_more : (ps : List (List ℕ)) (i : ℕ) → i < length ps → joined (take i ps) ++ get_or ps i [] ≡ joined (take (i + 1) ps)
joined_more ps i h = rw (add-one, take-suc ps i []) (sym (joined_snoc (take i ps) (get_or ps i [])))

module _ (key nullifier last : List ℕ) (parents : List (List ℕ)) (nonce : ℕ) where
  pub work_parts : (i : ℕ) → i ≤ length parents → length parents ≤ i → last ≡ little_endian 8 nonce
      → sha3 (((key ++ joined (take i parents)) ++ nullifier) ++ last) ≡ work_hash key parents nullifier nonce
  unfolding work_hash
  work_parts i h k e =
      let q : i ≡ length parents = omega arith in
      rw (q, take-length parents, e) (ap (λ (m : List ℕ). sha3 (m ++ little_endian 8 nonce)) (append_assoc key (joined parents) nullifier))

  -- the nonce's bytes as the library gives them
  pub work_parts_le : (i : ℕ) → i ≤ length parents → length parents ≤ i → last ≡ to_le_bytes w64 nonce
      → sha3 (((key ++ joined (take i parents)) ++ nullifier) ++ last) ≡ work_hash key parents nullifier nonce
  work_parts_le i h k e = work_parts i h k (e ∙ le_bytes nonce)

module _ (key nullifier target : List ℕ) (parents : List (List ℕ)) (nonce : ℕ) where
  pub work_long : parent_limit < length parents → Err ListTooLong ≡ work_of key parents nullifier nonce target
  unfolding work_of
  work_long h = rw (lt-ltb parent_limit (length parents) h)

  pub work_range : length parents ≤ parent_limit → key_limit < length key → Err OutOfRange ≡ work_of key parents nullifier nonce target
  unfolding work_of
  work_range h k = rw (le-ltb parent_limit (length parents) h, lt-ltb key_limit (length key) k)

  module _ (h : length parents ≤ parent_limit) (k : length key ≤ key_limit) (hash : List ℕ) (e : hash ≡ work_hash key parents nullifier nonce) (b : Bool) (q : b ≡ at_most hash target) where
    pub work_served : Ok b ≡ work_of key parents nullifier nonce target
    unfolding work_of
    work_served = rw (le-ltb parent_limit (length parents) h, le-ltb key_limit (length key) k, ← e, ← q)

    pub work_passes : b ≡ true → Ok true ≡ work_of key parents nullifier nonce target
    work_passes t = rw (← t) work_served

    pub work_fails : b ≡ false → Ok false ≡ work_of key parents nullifier nonce target
    work_fails t = rw (← t) work_served

-- the work test by the library's `<=` at arrays
module _ (key nullifier target : List ℕ) (parents : List (List ℕ)) (nonce : ℕ) where
  pub work_by_cmp : length parents ≤ parent_limit → length key ≤ key_limit → (hash : List ℕ) → hash ≡ work_hash key parents nullifier nonce
      → length target ≡ 32 → Bytes target → (b : Bool) → b ≡ at_most_by_cmp hash target → Ok b ≡ work_of key parents nullifier nonce target
  unfolding work_hash
  work_by_cmp h k hash e l y b q =
      let n : length hash ≡ 32 = ap length e ∙ sha3_length _ in
      let z : Bytes hash = subst Bytes (sym e) (sha3_bytes _) in
      work_served key nullifier target parents nonce h k hash e b (q ∙ cmp_at_most hash target (n ∙ sym l) z y)
