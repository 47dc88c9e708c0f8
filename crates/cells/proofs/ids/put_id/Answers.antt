-- `cells::ids::put_id` meets its contract: the key is set, and the other bytes are written as a row.
use Rattle.std.proofs.Common.{ℕ, ◌+◌, ◌*◌, ◌<◌, ◌≤◌, length, List, ap, ◌∙◌, set, get_or, arith}
use Rattle.cells.specs.Cells.{keys_put, rests_put}
use Rattle.cells.proofs.Slices.{part_cell, part_length, part_put}
use Rattle.cells.proofs.ids.put_id.Goals as goal

pub returns : goal.returns
unfolding keys_put rests_put
returns c =
    let a = c.args in
    let copy = c.copy_from_slice.ensures in
    let here : a.p * 28 + 28 ≤ length a.rests.now = omega (arith, c.requires.rests_long) in (
      ap (set a.keys.now a.p) c.key_of.ensures.0,
      part_put a.rests.now (a.p * 28) 28 _ (λ i. get_or a.x.now (4 + i) 0) here (copy.len ∙ part_length a.rests.now (a.p * 28) 28 here)
          (λ (i : ℕ) (h : i < 28). ap (λ (s : List ℕ). get_or s i 0) copy.after ∙ part_cell a.x.now 4 28 i 0 h),
    )
