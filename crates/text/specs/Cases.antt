-- Two ways for two numbers. Assumes nothing.
use Rattle.std.specs.Prelude.{ℕ, ◌≤◌, ◌<◌}
use Rattle.std.proofs.Math.Logic.{by_cases}
use Rattle.std.proofs.Math.Decide.{dec_le}
use Rattle.std.proofs.Common.{lt_of_not-le}

-- a fact, from what holds where m is at most n and where it is above
pub either : {A : Type 0} (m n : ℕ) → (m ≤ n → A) → (n < m → A) → A
either m n within above = by_cases (dec_le m n) within (λ h. above (lt_of_not-le h))
