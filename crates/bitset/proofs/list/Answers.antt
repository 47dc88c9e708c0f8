use Rattle.std.proofs.Common.{◌≡◌, sym, ◌∙◌, length, arith}
use Rattle.bitset.proofs.Walks.{listing_start, listing_next, listing_full}
use Rattle.bitset.proofs.list.Goals as goal

pub loop-put-init : goal.loop-put-init
loop-put-init c = (omega arith, listing_start _ _ _ _ c.next-n.ensures)

pub loop-put-preserved : goal.loop-put-preserved
loop-put-preserved c =
    let loop = c.loop-put in
    (loop.invariant.0, (listing_next _ _ _ _ _ _ loop.invariant.1 _ c.next-n-in-loop-put.ensures c.if-n-end.false (omega arith)).0)

pub returns : goal.returns
returns c =
    let loop = c.loop-put in
    let full : loop.put ≡ length loop.out = omega arith in
    let all = listing_full _ _ _ _ _ _ loop.invariant.1 _ c.min-end.ensures full in
    record { count = sym full ∙ all.0; filled = all.1 }
