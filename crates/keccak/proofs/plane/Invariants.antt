-- The first loop brings the row's lanes, the second stores them mixed.
use Rattle.std.proofs.Common.{◌≡◌, ◌+◌, ◌*◌, replicate}
use Rattle.keccak.specs.Fips202.{listed}
use Rattle.keccak.specs.Lanes.{lane, brought, mixed}
use Rattle.keccak.proofs.Row.{Filled}
use Rattle.keccak.proofs.plane.Given as goal

abbrev pub invariant-loop-x : goal.invariant-loop-x
invariant-loop-x g l = Filled (replicate 5 0) 0 l.x (λ x. brought (lane l.a) (lane l.d) (5 * g.row.Y + x)) l.b

abbrev pub invariant-loop-x-2 : goal.invariant-loop-x-2
invariant-loop-x-2 g l =
    (l.b ≡ listed 5 0 (λ x. brought (lane l.a) (lane l.fn.d) (5 * g.row.Y + x)))
    × Filled l.fn.e (5 * g.row.Y) l.x (mixed (brought (lane l.a) (lane l.fn.d))) l.e
