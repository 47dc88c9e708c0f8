use Rattle.std.proofs.Common.{refl, arith}
use Rattle.bitset.specs.Bit.{lowest_from}
use Rattle.bitset.specs.Lists.{next_past}
use Rattle.bitset.proofs.Walks.{next_word, next_found, next_end}
use Rattle.bitset.proofs.next.Goals as goal

pub returns-then-end-from : goal.returns-then-end-from
returns-then-end-from c = next_past _ _ _ c.if-end-from.true

pub overflow_add-i-then-rest-ne0 : goal.overflow_add-i-then-rest-ne0
overflow_add-i-then-rest-ne0 c =
    let loop = c.loop-i in
    omega (arith, lowest_from 64 _ loop.low (c.type_inv.set loop.i).fits (omega arith))

pub returns-then-rest-ne0 : goal.returns-then-rest-ne0
returns-then-rest-ne0 c =
    let loop = c.loop-i in
    next_found _ _ loop.i loop.low loop.invariant.2 _ _ _ (c.type_inv.set loop.i).fits refl c.min.ensures c.if-rest-ne0.true loop.invariant.1
    (omega arith)

pub loop-i-preserved : goal.loop-i-preserved
loop-i-preserved c =
    let loop = c.loop-i in
    (omega arith, omega arith, next_word _ _ loop.i loop.low loop.invariant.2 c.if-rest-ne0.false)

pub returns : goal.returns
returns c =
    let loop = c.loop-i in
    next_end _ _ _ loop.i loop.low _ c.min-i-end.ensures loop.invariant.2 (omega arith) (omega arith)
