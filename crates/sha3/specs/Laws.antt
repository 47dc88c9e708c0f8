-- What callers cite: the hash of bytes is FIPS 202's, it is 32 bytes, and bytes are known by their bits.
use Rattle.std.specs.Prelude.{◌≡◌, List, [], ◌++◌, ℕ, ◌+◌, ◌*◌, ◌/◌, ◌^◌, ◌≤◌, ◌<◌, length, get_or, take}
use Rattle.std.proofs.Common.{sym, ap, subst, ◌∙◌, ⊎_elim, append-nil, mod-lt, arith, lit≤, pow_pos, ext_get_or, take-take}
use Rattle.std.proofs.Math.ListN.{get_or-eq_default}
use Rattle.keccak.specs.Fips202.{Bits, bits_of, absorbed, squeezed, keccak_p, SPONGE, KECCAK, sha3_256}
use Rattle.keccak.specs.Bit.{below_or_not, same_bits}
use Rattle.keccak.specs.Strings.{listed_at, bits_by_at, bits_by_length}
use Rattle.sha3.specs.Hash.{byte_of, output, sha3}
use Rattle.sha3.specs.Link.{state_of, Blocks, blocks, output_length, output_bits, padded, padded_length, padded_bits, sha3_padded}

pub sha3_bits : (m : List ℕ) → bits_of (sha3 m) ≡ sha3_256 (bits_of m)
unfolding sha3_256 KECCAK SPONGE squeezed
sha3_bits m =
    let n : ℕ = length m / 136 + 1 in
    let P : Bits = bits_of (padded m) in
    let good : Blocks (padded m) n = blocks (padded m) n (omega (arith, padded_length m)) in
    let c : n ≡ length P / 1088 = omega (arith, bits_by_length 8 (padded m), padded_length m) in
    let S : ℕ → Bits = absorbed keccak_p 1088 P in
    ap bits_of (sha3_padded m)
    ∙ output_bits (state_of (padded m) n) good.long
    ∙ ap (take 256) good.bits
    ∙ sym (ap (take 256) (append-nil (take 1088 (S n))) ∙ take-take 256 1088 (S n) (lit≤ tt))
    ∙ ap (λ (k : ℕ). take 256 (take 1088 (S k) ++ [])) c
    ∙ ap (λ (Q : Bits). take 256 (take 1088 (absorbed keccak_p 1088 Q (length Q / 1088)) ++ [])) (padded_bits m)

pub sha3_length : (m : List ℕ) → length (sha3 m) ≡ 32
sha3_length m = ap length (sha3_padded m) ∙ output_length (state_of (padded m) (length m / 136 + 1))

-- each element is a byte
abbrev pub Bytes : List ℕ → Type 0
Bytes m = (k : ℕ) → get_or m k 0 < 2 ^ 8

output_bytes : (s : List ℕ) → Bytes (output s)
unfolding output byte_of
output_bytes s k =
    ⊎_elim (λ (h : k < 32). subst (λ (v : ℕ). v < 2 ^ 8) (sym (listed_at 32 k (byte_of s) h)) (mod-lt _ (pow_pos 8)))
    (λ (h : 32 ≤ k). subst (λ (v : ℕ). v < 2 ^ 8) (sym (get_or-eq_default (output s) 0 h)) (pow_pos 8)) (below_or_not k 32)

pub sha3_bytes : (m : List ℕ) → Bytes (sha3 m)
sha3_bytes m = subst Bytes (sym (sha3_padded m)) (output_bytes (state_of (padded m) (length m / 136 + 1)))

-- So what is promised of the bits of an answer determines the answer.
pub bits_equal : (a b : List ℕ) → Bytes a → Bytes b → bits_of a ≡ bits_of b → a ≡ b
bits_equal a b ha hb e =
    ext_get_or 0 a b (omega (arith, bits_by_length 8 a, bits_by_length 8 b, ap length e))
    (λ k h.
    same_bits 8 (get_or a k 0) (get_or b k 0) (ha k) (hb k)
    (λ i l. sym (bits_by_at 8 a k i l) ∙ ap (λ (x : Bits). get_or x (8 * k + i) 0) e ∙ bits_by_at 8 b k i l))
