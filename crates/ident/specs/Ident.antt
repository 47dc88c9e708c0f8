-- Epochs, nullifiers, ids and the work test. A string of bytes is a list.
use Rattle.std.specs.Prelude.{if◌then◌else◌, ℕ, zero, suc, ◌+◌, ◌*◌, ◌/◌, ◌%◌, ◌^◌, Bool, true, false, List, [], ◌∷◌, ◌++◌, length, replicate, eqb, leb, ltb, Result, Ok, Err}
use Rattle.sha3.specs.Hash.{sha3}
use Rattle.ident.specs.declared.Epoch.{Epoch}
use Rattle.ident.specs.declared.OutOfRange.{OutOfRange as RangeRefusal}
use Rattle.ident.specs.declared.WorkRefusal.{WorkRefusal}
use Rattle.ident.specs.declared.WorkRefusal.TheVariants.{ListTooLong, OutOfRange}

------ limits

-- bytes in a key
abbrev pub key_limit : ℕ
key_limit = 4096

-- parents in any record
abbrev pub parent_limit : ℕ
parent_limit = 16

------ numbers as bytes

-- n bytes of a number, the lowest first
abbrev pub little_endian : ℕ → ℕ → List ℕ
little_endian zero v = []
little_endian (suc n) v = v % 256 ∷ little_endian n (v / 256)

-- bytes read as one number, the first byte highest
unfoldable pub big_endian : List ℕ → ℕ
big_endian [] = 0
big_endian (b ∷ m) = b * 256 ^ length m + big_endian m

-- a hash, read from its first byte, is at most the target; equality passes
abbrev pub at_most : List ℕ → List ℕ → Bool
at_most h g = leb (big_endian h) (big_endian g)

-- the ids of a list, one after another
unfoldable pub joined : List (List ℕ) → List ℕ
joined [] = []
joined (p ∷ ps) = p ++ joined ps

------ replies

-- a reply's number (0 for an answer, 2 and 10 for refusals) and its value
pub record Reply : Type 0 where
  pub number : ℕ
  pub value : ℕ

abbrev pub reply : ℕ → ℕ → Reply
reply n v = record { number = n; value = v }

abbrev pub epoch_reply : Result Epoch RangeRefusal → Reply
epoch_reply (Ok e) = reply 0 e.0
epoch_reply (Err _) = reply 10 0

abbrev pub work_reply : Result Bool WorkRefusal → Reply
work_reply (Ok true) = reply 0 1
work_reply (Ok false) = reply 0 0
work_reply (Err ListTooLong) = reply 2 0
work_reply (Err OutOfRange) = reply 10 0

-- the number of an id's reply, and the id that stands beside it: zeros beside a refusal
abbrev pub id_reply : Result (List ℕ) RangeRefusal → ℕ
id_reply (Ok id) = 0
id_reply (Err _) = 10

abbrev pub id_beside : Result (List ℕ) RangeRefusal → List ℕ
id_beside (Ok id) = id
id_beside (Err _) = replicate 32 0

------ epochs

-- depth / depth-per-epoch; divisor 0 is refused
unfoldable pub epoch_of : ℕ → ℕ → Reply
epoch_of depth per = if eqb per 0 then reply 10 0 else reply 0 (depth / per)

------ hashes

-- NULLIFIER_V2
abbrev pub nullifier_tag : List ℕ
nullifier_tag = 78 ∷ 85 ∷ 76 ∷ 76 ∷ 73 ∷ 70 ∷ 73 ∷ 69 ∷ 82 ∷ 95 ∷ 86 ∷ 50 ∷ []

-- TX_ID_V3
abbrev pub id_tag : List ℕ
id_tag = 84 ∷ 88 ∷ 95 ∷ 73 ∷ 68 ∷ 95 ∷ 86 ∷ 51 ∷ []

-- hash of NULLIFIER_V2, secret hash, epoch as 8 bytes little-endian, nonce
unfoldable pub nullifier_of : List ℕ → ℕ → List ℕ → List ℕ
nullifier_of secret epoch nonce = sha3 (nullifier_tag ++ (secret ++ (little_endian 8 epoch ++ nonce)))

-- hash of TX_ID_V3, key, nullifier
unfoldable pub id_of : List ℕ → List ℕ → List ℕ
id_of key nullifier = sha3 (id_tag ++ (key ++ nullifier))

-- the id, or the refusal of a key that is too long
unfoldable pub computed_id : List ℕ → List ℕ → Result (List ℕ) RangeRefusal
computed_id key nullifier = if ltb key_limit (length key) then Err (record {}) else Ok (id_of key nullifier)

-- header: key, parents in order, nullifier
abbrev pub header : List ℕ → List (List ℕ) → List ℕ → List ℕ
header key parents nullifier = key ++ (joined parents ++ nullifier)

-- hash of header and 8-byte little-endian nonce
unfoldable pub work_hash : List ℕ → List (List ℕ) → List ℕ → ℕ → List ℕ
work_hash key parents nullifier nonce = sha3 (header key parents nullifier ++ little_endian 8 nonce)

-- a parent list over 16 is refused with 2, a key over 4,096 bytes with 10, in this order
unfoldable pub work_of : List ℕ → List (List ℕ) → List ℕ → ℕ → List ℕ → Result Bool WorkRefusal
work_of key parents nullifier nonce target =
    if ltb parent_limit (length parents) then Err ListTooLong
    else (if ltb key_limit (length key) then Err OutOfRange
    else Ok (at_most (work_hash key parents nullifier nonce) target))
