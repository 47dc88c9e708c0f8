-- The digits that `io::decimal` makes are the number's text.
use Rattle.std.proofs.Common.{ℕ, List, ap, ◌∙◌, arith}
use Rattle.text.specs.Put.{put_at}
use Rattle.text.specs.DecimalLaws.{fewest_text}
use Rattle.text.proofs.put.Page.put_decimal.Goals as goal

pub returns-clause-put : goal.returns-clause-put
returns-clause-put c =
    let page = c.args.self.now in
    let decimal = c.decimal-k in
    let same = decimal.ensures.digits ∙ fewest_text c.args.n decimal.result (omega arith) decimal.ensures.len in
    c.put_bytes.ensures.put ∙ ap (λ (t : List ℕ). put_at page.bytes.now page.next t) same
