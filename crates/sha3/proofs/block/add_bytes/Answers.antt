use mathlib.Core.Path.{◌≡◌, sym, ap, ap₂, ◌∙◌}
use mathlib.Core.List.{List}
use Prim.Native.Nat.{ℕ, ◌+◌, ◌*◌, ◌/◌, ◌%◌, ◌^◌, ◌<◌}
use native.Mathlib.Nat.{mod-eq_of_lt}
use native.Mathlib.Omega.{arith}
use lib.Bits.{bit_xor}
use lib.ListN.{length, get_or, set, take}
use lib.Pow.{shl_exact}
use Rattle.sha3.specs.Hash.{plus_lane, plus_byte, plus_bytes}
use Rattle.sha3.specs.Sponge.{plus_bytes_one}
use Rattle.sha3.proofs.block.add_bytes.Goals as goal

in_place : (b k : ℕ) → b < 2 ^ 8 → k < 8 → b * 2 ^ (8 * k) % 2 ^ 64 ≡ b % 2 ^ 8 * 2 ^ (8 * k)
in_place b k h l = shl_exact 8 (8 * k) 64 h (omega arith) ∙ ap (λ (v : ℕ). v * 2 ^ (8 * k)) (sym (mod-eq_of_lt h))

one_more : (s l part : List ℕ) (p i b : ℕ) → i < length part → b < 2 ^ 8 → b ≡ get_or part i 0 → l ≡ plus_bytes s p (take i part)
    → set l ((p + i) / 8) (bit_xor (get_or l ((p + i) / 8) 0) (b * 2 ^ (8 * ((p + i) % 8)) % 2 ^ 64)) ≡ plus_bytes s p (take (i + 1) part)
unfolding plus_byte plus_lane
one_more s l part p i b h f eb e =
    ap₂ (λ (x : List ℕ) (v : ℕ). set x ((p + i) / 8) (bit_xor (get_or x ((p + i) / 8) 0) v)) e (in_place b ((p + i) % 8) f (omega arith))
    ∙ ap (plus_byte (plus_bytes s p (take i part)) (p + i)) eb
    ∙ sym (plus_bytes_one s part p i h)

pub loop-i-preserved : goal.loop-i-preserved
loop-i-preserved c =
    let i = c.loop-i.i in
    let fits : c.from.result < 2 ^ 8 = omega (arith, (c.type_inv.part i).fits) in
    one_more _ _ c.args.part.now _ i _ c.loop-i-test.true fits c.from.ensures c.loop-i.invariant
