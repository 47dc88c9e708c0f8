-- The places are below 25, and the rest is the expression of `parity`.
use borrow.Author.Rules.{rules}
use Rattle.keccak.specs.Lanes.{parity}
use Rattle.keccak.proofs.column.Goals as goal

pub returns : goal.returns
unfolding parity
returns c = search rules
