use Rattle.std.proofs.Common.{arith}
use Rattle.text.specs.PutLaws.{put_one, put_full}
use Rattle.text.proofs.put.Page.put_byte.Goals as goal

pub returns-then-self-clause-put : goal.returns-then-self-clause-put
returns-then-self-clause-put c = put_one _ _ _ (omega arith)

pub returns-else-self-clause-put : goal.returns-else-self-clause-put
returns-else-self-clause-put c = put_full _ _ _ (omega arith)
