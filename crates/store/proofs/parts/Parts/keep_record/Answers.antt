-- The parents in a row, their count, and the place.
use Rattle.store.specs.Steps.{record_made}
use Rattle.store.proofs.parts.Parts.keep_record.Goals as goal

pub returns-clause-left : goal.returns-clause-left
returns-clause-left c = record_made _ _ _ _ _ _ _ _ _ _ c.args.n c.args.place _ _ c.put_row.ensures c.put.ensures c.put-2.ensures
