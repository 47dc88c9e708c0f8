-- What is answered and what is kept, by what the two calls ensure.
use Rattle.weights_run.specs.StreamLaws.{one_step}
use Rattle.weights_run.proofs.lines.advance.Goals as goal

pub returns : goal.returns
returns c = one_step c.args.input.now c.args.filled c.args.out.now c.answer_lines-done.ensures c.keep.ensures
