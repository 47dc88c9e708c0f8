use Rattle.std.proofs.Common.{◌≡◌, ℕ, ◌<◌, ◌≤◌, List, length, eqb, unwrap_or, le-ltb, lt-ltb, rules, tests, arith}
use Rattle.std.proofs.lemmas.Iterator.{YieldsList-from_slice}
use Rattle.std.proofs.lemmas.Iterator.Search.{position_from_yields_List}
use Rattle.std.specs.List.{position}
use Rattle.text.specs.Cases.{either}
use Rattle.text.specs.Pieces.{place_of}
use Rattle.text.specs.PieceLaws.{index_most}
use Rattle.text.proofs.place.place_of.Goals as goal

-- the place that `position` finds, or the length where it finds none
found : (b : ℕ) (s : List ℕ) → unwrap_or (position (λ (x : ℕ). eqb x b) s) (length s) ≡ place_of b s
found b s =
    either (length s) (place_of b s)
    (λ (none : length s ≤ place_of b s). let last : length s ≡ place_of b s = omega (arith, index_most b s) in rw (le-ltb (place_of b s) (length s) none) last)
    (λ (some : place_of b s < length s). rw (lt-ltb (place_of b s) (length s) some))

pub returns : goal.returns
returns c =
    let at : c.position.result ≡ position (λ (x : ℕ). eqb x c.args.b) c.args.s.now =
    position_from_yields_List (λ (x : ℕ). eqb x c.args.b) _ _ c.position.result c.position.ensures.ran (YieldsList-from_slice c.args.s.now cc) (λ x b q k. search (rules, tests)) in
    rw (c.unwrap_or.ensures, at) (found c.args.b c.args.s.now)
