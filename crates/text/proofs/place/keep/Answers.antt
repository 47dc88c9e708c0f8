use Rattle.std.proofs.Common.{◌≡◌, ◌+◌, ◌-◌, min, length, arith}
use Rattle.text.specs.PutLaws.{kept_moved}
use Rattle.text.proofs.place.keep.Goals as goal

pub returns : goal.returns
returns c =
    let a = c.args in
    let start = c.min-start.result in
    let size = c.min-size.result in
    let at_start : start ≡ min a.from (min a.to (length a.buf.now)) = cc in
    let at_size : size ≡ min (min a.to (length a.buf.now) - start) a.most = cc in
    let same : start + size - start ≡ size = omega arith in
    rw (c.copy_within.ensures.after, same) (kept_moved a.buf.now a.from a.to a.most start size at_start at_size)
