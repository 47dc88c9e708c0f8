use Rattle.std.proofs.Common.{◌≡◌, ℕ, ◌+◌, List, [], ◌∷◌, ◌++◌, take, ap, ◌∙◌, add-one, append-nil, arith}
use Rattle.text.specs.Put.{put_at}
use Rattle.text.specs.Decimal.{minus}
use Rattle.text.specs.DecimalLaws.{fewest_text}
use Rattle.text.proofs.put.Page.put_negative.Goals as goal

-- the first k digits after a `-`
dashed : (k : ℕ) (digits text : List ℕ) → take k digits ≡ text → take (k + 1) (45 ∷ (digits ++ [])) ≡ minus text
dashed k digits text e = rw (add-one k, append-nil digits, e)

pub returns-clause-put : goal.returns-clause-put
returns-clause-put c =
    let a = c.args in
    let decimal = c.decimal-k in
    let same = decimal.ensures.digits ∙ fewest_text a.n decimal.result (omega arith) decimal.ensures.len in
    c.put_bytes.ensures.put
    ∙ ap (λ (t : List ℕ). put_at a.self.now.bytes.now a.self.now.next t) (rw c.copy_from_slice.ensures.after (dashed _ _ _ same))
