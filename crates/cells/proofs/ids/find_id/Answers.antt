use Rattle.std.proofs.Common.{◌≡◌, ◌+◌, ◌*◌, ◌≤◌, None, refl, arith}
use Rattle.cells.specs.First.{first_keep, first_skip, first_part}
use Rattle.cells.specs.Cells.{has_id}
use Rattle.cells.specs.Ids.{block_without}
use Rattle.cells.proofs.Slices.{part_length, block_keys}
use Rattle.cells.proofs.ids.find_id.Goals.{then-not-block_lacks+in_default, else-not-block_lacks}
use Rattle.cells.proofs.ids.find_id.Goals as goal

pub returns-in-Some : goal.returns-in-Some
returns-in-Some c =
    let a = c.args in
    let long = part_length a.keys.now a.from a.n c.requires.keys_long in
    first_keep _ _ _ 64 _ _ c.loop-b.invariant (first_part (has_id a.keys.now a.rests.now a.from a.x.now) _ 64 _ c.first_between.ensures) (omega (arith, long, c.as_chunks.ensures.front_len)) _ c.in-Some.is

pub loop-b-preserved : goal.loop-b-preserved
loop-b-preserved c =
    let a = c.args in
    let b = c.loop-b.b in
    let chunks = c.as_chunks.ensures in
    let key = c.key_of-key.ensures in
    let long = part_length a.keys.now a.from a.n c.requires.keys_long in
    let fits : b * 64 + 64 ≤ a.n = omega (arith, long, chunks.front_len) in
    let next : (b + 1) * 64 ≡ b * 64 + 64 = omega arith in
    rw next
    (elim c.if-not-block_lacks.branch [
      | then-not-block_lacks+in_default w ↦
          first_skip _ _ _ 64 _ _ c.loop-b.invariant (first_part (has_id a.keys.now a.rests.now a.from a.x.now) _ 64 _ w.first_between.ensures) fits w.in_default.is
      | else-not-block_lacks w ↦
          let lacks = block_keys a.keys.now a.from a.n b c.key_of-key.result _ c.block_lacks.result c.requires.keys_long chunks.front (omega (arith, chunks.front_len)) c.block_lacks.ensures in
          let none = block_without a.keys.now a.rests.now a.from (b * 64) 64 c.key_of-key.result a.x.now c.block_lacks.result (λ i. (c.type_inv.keys i).fits) key.1.bytes key.0 lacks w.if-not-block_lacks.false in
          first_skip _ _ _ 64 _ None c.loop-b.invariant none fits refl
    ])
