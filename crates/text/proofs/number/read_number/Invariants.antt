-- What the string is equals what its rest reads as after the number so far.
use Rattle.std.proofs.Common.{◌≡◌, ◌<◌, drop, Some}
use Rattle.text.specs.Numeral.{number_of, number_limit}
use Rattle.text.specs.Reading.{read_on}
use Rattle.text.proofs.number.read_number.Given as goal

abbrev pub invariant-loop-byte : goal.invariant-loop-byte
invariant-loop-byte l = (l.value < number_limit) × (number_of l.s ≡ read_on (drop l.byte-index l.s) (Some l.value))
