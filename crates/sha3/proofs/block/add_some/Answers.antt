-- The head, the whole lanes and what is left, one after the other, are the part.
use mathlib.Core.Path.{◌≡◌, refl, sym, ap, ◌∙◌}
use mathlib.Core.List.{List, ◌++◌}
use Prim.Native.Nat.{ℕ, ◌+◌}
use lib.ListN.{length}
use Rattle.sha3.specs.Hash.{plus_bytes}
use Rattle.sha3.specs.Sponge.{plus_bytes_append}
use Rattle.sha3.proofs.block.add_some.Goals as goal

three : (s part head mid tail a b r : List ℕ) (p h w : ℕ) → part ≡ head ++ (mid ++ tail) → length head ≡ h → length mid ≡ w
    → a ≡ plus_bytes s p head → b ≡ plus_bytes a (p + h) mid → r ≡ plus_bytes b (p + h + w) tail → r ≡ plus_bytes s p part
three s part head mid tail a b r p h w e eh ew ea eb er =
    er
    ∙ (λ i. plus_bytes (eb i) (p + h + sym ew i) tail)
    ∙ sym (plus_bytes_append mid tail a (p + h))
    ∙ (λ i. plus_bytes (ea i) (p + sym eh i) (mid ++ tail))
    ∙ sym (plus_bytes_append head (mid ++ tail) s p)
    ∙ ap (plus_bytes s p) (sym e)

pub returns : goal.returns
returns c =
    let head = c.split_at.ensures in
    let whole = c.split_at-2.ensures in
    let parts = head.by_index.0 ∙ ap (λ (m : List ℕ). c.split_at.result.0.now ++ m) whole.by_index.0 in
    three _ c.args.part.now _ _ _ _ _ _ _ _ _ parts refl refl c.add_bytes-lanes.ensures c.add_lanes-lanes.ensures c.add_bytes.ensures
