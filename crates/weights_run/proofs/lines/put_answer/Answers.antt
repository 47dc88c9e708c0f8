use Rattle.weights_run.specs.Output.{text_of}
use Rattle.weights_run.proofs.lines.put_answer.Goals as goal

pub put_figures-requires : goal.put_figures-requires
unfolding text_of
put_figures-requires c = rw c.in-Some.is at c.requires

pub returns-in-Some-clause-put : goal.returns-in-Some-clause-put
unfolding text_of
returns-in-Some-clause-put c = rw c.in-Some.is c.put_figures.ensures.put

pub returns-in-None-clause-put : goal.returns-in-None-clause-put
unfolding text_of
returns-in-None-clause-put c = rw c.in-None.is c.put_bytes.ensures.put
