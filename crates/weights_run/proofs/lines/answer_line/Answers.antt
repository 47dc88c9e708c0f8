-- An answer has room in its 16 bytes.
use Rattle.std.proofs.Common.{arith}
use Rattle.weights_line.specs.Rules.{line_of}
use Rattle.weights_run.specs.Output.{answer_line}
use Rattle.weights_run.specs.OutputLaws.{answer_fits}
use Rattle.weights_run.proofs.lines.answer_line.Goals as goal

pub put_answer-requires : goal.put_answer-requires
put_answer-requires c = rw (c.answer_to.ensures, c.parse.ensures) (omega (arith, answer_fits (line_of c.args.line.now)))

pub returns-clause-put : goal.returns-clause-put
unfolding answer_line
returns-clause-put c = rw (c.answer_to.ensures, c.parse.ensures) at c.put_answer.ensures.put
