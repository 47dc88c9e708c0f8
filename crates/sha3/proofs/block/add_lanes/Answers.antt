use mathlib.Core.Path.{◌≡◌, sym, ap, ◌∙◌}
use mathlib.Core.List.{List, []}
use Prim.Native.Nat.{ℕ, ◌+◌, ◌*◌, ◌/◌, ◌%◌, ◌^◌, ◌<◌, ◌≤◌}
use native.Mathlib.Omega.{arith}
use lib.Bits.{bit_xor}
use lib.ListN.{length, get_or, set, take}
use Rattle.std.specs.Int.{from_le_bytes, w64}
use Rattle.std.specs.Simd.{first_chunks}
use Rattle.sha3.specs.Hash.{plus_lane, plus_bytes}
use Rattle.sha3.specs.Sponge.{word_le, plus_bytes_word}
use Rattle.sha3.proofs.block.add_lanes.Goals as goal

one_more : (s l m : List ℕ) (ws : List (List ℕ)) (p i v n : ℕ) → p % 8 ≡ 0 → i < n → 8 * n ≤ length m → ((k : ℕ) → get_or m k 0 < 2 ^ 8)
    → ws ≡ first_chunks 8 n m → v ≡ from_le_bytes w64 (get_or ws i []) → l ≡ plus_bytes s p (take (8 * i) m)
    → set l (p / 8 + i) (bit_xor (get_or l (p / 8 + i) 0) v) ≡ plus_bytes s p (take (8 * (i + 1)) m)
unfolding plus_lane
one_more s l m ws p i v n a h hm b ew ev e =
    let r = ev ∙ ap (λ (x : List (List ℕ)). from_le_bytes w64 (get_or x i [])) ew ∙ word_le n i m h hm b in
    (λ j. set (e j) (p / 8 + i) (bit_xor (get_or (e j) (p / 8 + i) 0) (r j))) ∙ sym (plus_bytes_word s m p i a (omega arith))

pub loop-i-preserved : goal.loop-i-preserved
loop-i-preserved c =
    let part = c.args.part.now in
    let i = c.loop-i.i in
    one_more _ _ part c.as_chunks.result.0.now _ i _ (length part / 8) (c.requires.aligned (omega arith)) (omega arith) (omega arith) (λ k. (c.type_inv.part k).fits) c.as_chunks.ensures.front c.from_le_bytes.ensures c.loop-i.invariant
