-- What a call that works out a figure answers: a reply number and a value.
use Rattle.std.specs.Prelude.{ℕ, ◌≡◌, ℤ, pos, refl, Result, Ok, Err}
use Rattle.std.proofs.Common.{ap, arith}
use Rattle.fixed.specs.declared.FixedPoint.{FixedPoint}
use Rattle.fixed.specs.declared.OutOfRange.{OutOfRange}

pub record Answer : Type 0 where
  pub reply : ℕ
  pub value : ℤ

-- a served call replies 0 with its value
abbrev pub served : ℤ → Answer
served z = record { reply = 0; value = z }

-- the refusal OutOfRange has the number 10; a refusal's value is 0
abbrev pub out_of_range : Answer
out_of_range = record { reply = 10; value = pos 0 }

-- what a result answers
abbrev pub answer : Result FixedPoint OutOfRange → Answer
answer (Ok x) = served x.0
answer (Err _) = out_of_range

-- an answer leaves no choice of the result
pub answer_only : (f g : Result FixedPoint OutOfRange) → answer f ≡ answer g → f ≡ g
answer_only (Ok x) (Ok y) h = ap (λ (z : ℤ). Ok (record { 0 = z })) (ap (λ (a : Answer). a.value) h)
answer_only (Ok x) (Err _) h = absurd (let e : ◌≡◌ {A = ℕ} 0 10 = ap (λ (a : Answer). a.reply) h in omega arith)
answer_only (Err _) (Ok y) h = absurd (let e : ◌≡◌ {A = ℕ} 10 0 = ap (λ (a : Answer). a.reply) h in omega arith)
answer_only (Err _) (Err _) h = refl
