-- `cells::ids::is_at` meets its contract: with another key the ids differ, and with the same key the other 28 bytes decide.
use Rattle.std.proofs.Common.{sym, ◌∙◌, ne_eqb}
use Rattle.cells.specs.Ids.{other_key, same_key}
use Rattle.cells.proofs.ids.is_at.Goals as goal

pub returns-then-keys-p : goal.returns-then-keys-p
returns-then-keys-p c =
    let a = c.args in
    let pre = c.requires in
    c.same_rest.ensures ∙ sym (same_key a.keys.now a.rests.now a.p a.x.now (c.type_inv.keys a.p).fits pre.2.bytes (c.if-keys-p.true ∙ pre.1))

pub returns-else-keys-p : goal.returns-else-keys-p
returns-else-keys-p c =
    let a = c.args in
    let pre = c.requires in
    ne_eqb _ _ c.if-keys-p.false ∙ sym (other_key a.keys.now a.rests.now a.p a.x.now (c.type_inv.keys a.p).fits pre.2.bytes (λ e. c.if-keys-p.false (e ∙ sym pre.1)))
