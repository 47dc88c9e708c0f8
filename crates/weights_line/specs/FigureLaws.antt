-- The figures of two counts and a depth from what the crate `fixed` answers for each.
use Rattle.std.specs.Prelude.{ℕ, ◌≤◌, ◌≡◌, ℤ, Some, None}
use Rattle.std.proofs.Common.{sym, ◌∙◌, arith}
use Rattle.std.proofs.Math.Path.{ap}
use borrow.Author.Tests.{le-leb, lt-leb, le-ltb}
use Rattle.text.specs.Cases.{either}
use Rattle.fixed.specs.Answers as fixed
use Rattle.fixed.specs.Rules.{curvature_number, curvature_of, alpha_of, weight_number, weight_of}
use Rattle.fixed.specs.Curvatures.{curvature_refused}
use Rattle.fixed.proofs.Curvatures.{curvature_range}
use Rattle.weights_line.specs.Rules.{figures_of}

-- a served call is not a refused one
never : {A : Type 0} {k : ℤ} → fixed.served k ≡ fixed.out_of_range → A
never e = absurd (let z : ◌≡◌ {A = ℕ} 0 10 = ap (λ (a : fixed.Answer). a.reply) e in omega arith)

module _ (s j : ℕ) where
  served_curvature : s ≤ j → curvature_of s j ≡ fixed.served (curvature_number s j)
  unfolding curvature_of
  served_curvature h = rw (le-ltb j s h)

  -- where a curvature is served, shared is at most joined, and it is their curvature
  in_order : {k : ℤ} → fixed.served k ≡ curvature_of s j → s ≤ j
  in_order e = either s j (λ h. h) (λ h. never (e ∙ curvature_refused s j h))

  module _ (d : ℕ) where
    pub bad_counts : fixed.out_of_range ≡ curvature_of s j → None ≡ figures_of s j d
    unfolding figures_of
    bad_counts e = either s j (λ h. never (sym (e ∙ served_curvature h))) (λ h. rw (lt-leb s j h))

    module _ (k : ℤ) (e : fixed.served k ≡ curvature_of s j) where
      is_curvature : k ≡ curvature_number s j
      is_curvature = ap (λ (a : fixed.Answer). a.value) (e ∙ served_curvature (in_order e))

      served_weight : weight_of (alpha_of d) k ≡ fixed.served (weight_number (alpha_of d) (curvature_number s j))
      unfolding weight_of
      served_weight = rw (is_curvature, curvature_range s j (in_order e))

      pub no_bad_weight : fixed.out_of_range ≡ weight_of (alpha_of d) k → None ≡ figures_of s j d
      no_bad_weight f = never (sym (f ∙ served_weight))

      pub all_figures : (w : ℤ) → fixed.served w ≡ weight_of (alpha_of d) k → {k' w' : ℤ} {a : ℕ} → k' ≡ k → a ≡ alpha_of d → w' ≡ w
          → Some (record { curvature = k'; alpha = a; weight = w' }) ≡ figures_of s j d
      unfolding figures_of
      all_figures w f e₁ e₂ e₃ =
          let is-weight : w ≡ weight_number (alpha_of d) (curvature_number s j) = ap (λ (a : fixed.Answer). a.value) (f ∙ served_weight) in
          rw (e₁, e₂, e₃, is_curvature, is-weight, le-leb s j (in_order e))
