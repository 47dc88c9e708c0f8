-- π brings the lane that is read, and the form is that of its place.
use Rattle.std.proofs.Common.{arith, ◌+◌, ◌*◌, ◌∙◌}
use Rattle.keccak.specs.Lanes.{lane, brought, mixed}
use Rattle.keccak.proofs.Row.{one_more, brought_at, mixed_at, form_at}
use Rattle.keccak.proofs.plane.Goals as goal

pub loop-x-preserved : goal.loop-x-preserved
loop-x-preserved g c =
    let a = lane c.args.a.now in
    let d = lane c.args.d in
    one_more _ _ 0 c.loop-x.x c.loop-x.x _ (λ x. brought a d (5 * g.row.Y + x)) c.loop-x.invariant (omega arith)
    (c.moved.ensures ∙ brought_at a d g.row.Y c.loop-x.x (omega arith))

pub loop-x-2-preserved : goal.loop-x-2-preserved
loop-x-2-preserved g c =
    let inv = c.loop-x-2.invariant in
    let b = brought (lane c.args.a.now) (lane c.args.d) in
    (inv.0, one_more _ _ (5 * g.row.Y) c.loop-x-2.x (5 * g.row.Y + c.loop-x-2.x) _ (mixed b) inv.1 (omega arith) (c.mix.ensures ∙ mixed_at b _ _ g.row.Y c.loop-x-2.x (omega arith) inv.0 (form_at g.row.Y c.requires c.loop-x-2.x (omega arith))))
