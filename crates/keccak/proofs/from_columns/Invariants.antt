-- The first loop takes parities, the second effects.
use Rattle.std.proofs.Common.{◌≡◌, replicate}
use Rattle.keccak.specs.Fips202.{listed}
use Rattle.keccak.specs.Lanes.{lane, parity, effect}
use Rattle.keccak.proofs.Row.{Filled}
use Rattle.keccak.proofs.from_columns.Given as goal

abbrev pub invariant-loop-x : goal.invariant-loop-x
invariant-loop-x l = Filled (replicate 5 0) 0 l.x (parity (lane l.a)) l.c

abbrev pub invariant-loop-x-2 : goal.invariant-loop-x-2
invariant-loop-x-2 l = (l.c ≡ listed 5 0 (parity (lane l.fn.a))) × Filled (replicate 5 0) 0 l.x (effect (lane l.fn.a)) l.d
