use mathlib.Core.Path.{◌≡◌, sym, ap, subst, ◌∙◌}
use mathlib.Core.List.{List, [], ◌∷◌, ◌++◌}
use borrow.Author.Rules.{rules}
use Prim.Native.Nat.{ℕ, ◌+◌, ◌≤◌, ◌<◌}
use native.Mathlib.Omega.{arith}
use lib.ListN.{length}
use Rattle.sha3.specs.declared.Hasher.{Hasher}
use Rattle.sha3.specs.Hash.{plus_bytes, holding, take_bytes, within, taken}
use Rattle.sha3.specs.Sponge.{take_bytes_append, take_bytes_block, take_bytes_lt, after_more}
use Rattle.sha3.proofs.Hasher.update.Goals as goal

one_more : (h r : Hasher) (now later rest : List ℕ) → h.at < 136 → h.at + length now ≤ 136 → rest ≡ now ++ later
    → r ≡ holding (plus_bytes h.lanes h.at now) (h.at + length now) → (r.at < 136) × (take_bytes r later ≡ take_bytes h rest)
one_more h r now later rest l room e er =
    let e₁ : r ≡ take_bytes h now = er ∙ sym (take_bytes_block now h.lanes h.at l room) in (
      subst (λ (x : Hasher). x.at < 136) (sym e₁) (take_bytes_lt h now l),
      ap (λ (x : Hasher). take_bytes x later) e₁ ∙ sym (take_bytes_append h now later) ∙ ap (take_bytes h) (sym e),
    )

at_end : (h r : Hasher) (rest part : List ℕ) → length rest ≡ 0 → take_bytes r rest ≡ take_bytes (within h) part → r ≡ taken h part
unfolding taken take_bytes
at_end h r [] part e f = f
at_end h r (x ∷ rest) part e f = absurd (omega arith)

pub loop-rest-preserved : goal.loop-rest-preserved
loop-rest-preserved c =
    let loop = c.loop-rest in
    let turn = one_more loop.hasher _ _ c.split_at.result.1.now loop.rest.now loop.invariant.0 (omega arith) c.split_at.ensures.by_index.0 c.fill-hasher.ensures in
    (turn.0, turn.1 ∙ loop.invariant.1)

pub returns : goal.returns
returns c =
    let loop = c.loop-rest in
    let e = at_end c.args.self loop.hasher loop.rest.now _ (search rules) loop.invariant.1 in
    record { value = e; of_message = λ m h. e ∙ after_more _ m _ h }
