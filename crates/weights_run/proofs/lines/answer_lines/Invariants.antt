-- What is written and what is used up is what the lines so far give, and the pieces are of the rest.
use Rattle.std.proofs.Common.{◌≡◌, drop}
use Rattle.weights_run.specs.StreamLaws.{Going}
use Rattle.weights_run.proofs.lines.answer_lines.Given as goal

abbrev pub invariant-loop-line : goal.invariant-loop-line
invariant-loop-line l = record {
  same_buffer : l.page.bytes.ghost_name ≡ l.initial.page.bytes.ghost_name;
  rest : l.line-iterator.iter.rest.now ≡ drop l.used l.part;
  going : Going l.part l.initial.page.bytes.now l.page.bytes.now l.line-iterator.n l.used l.page.next;
}
