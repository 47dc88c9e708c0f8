use Rattle.std.proofs.Common.{◌≡◌, ◌+◌, ◌-◌, ◌≤◌, List, ℕ, length, ap, ◌∙◌, drop-drop, subst, arith, rules, tests}
use Rattle.text.specs.Pieces.{newline, place_of}
use Rattle.text.specs.Put.{put_at}
use Rattle.weights_run.specs.Output.{answer_line}
use Rattle.weights_run.specs.Stream.{answered, answered_of}
use Rattle.weights_run.specs.StreamLaws.{going_none, going_more}
use Rattle.weights_run.proofs.Cut.{Cut, computes, line_cut, no_cut, going_ended}
use Rattle.weights_run.proofs.lines.answer_lines.Goals as goal
use Rattle.weights_run.proofs.lines.answer_lines.Goals.{in-None, in-Some+in_default}

pub loop-line-preserved : goal.loop-line-preserved
loop-line-preserved c =
    let part = c.args.part.now in
    let l = c.loop-line in
    let step = c.in-Some.ensures.steps.0 in
    let line = c.in-Some-strip_suffix.line.now in
    let ends = c.in-Some-strip_suffix.ensures.cases in
    let text = l.line-iterator.iter.rest.now in
    let after = c.next.new.self.iter.rest.now in
    let first = (step.1.2 _ (computes _ (λ x r q k. search (rules, tests)))).1 in
    let cut =
    subst (λ (t : List ℕ). Cut t line after) l.invariant.rest
    (line_cut text c.in-Some.line.now after step.0 step.1.0 step.1.1 first step.2 line ends.0 ends.1 ends.2) in
    let count : c.next.new.self.n ≡ l.line-iterator.n - 1 = omega (arith, c.in-Some.ensures.steps.1) in
    record {
      same_buffer = search rules;
      rest = cut.back ∙ drop-drop (length line + 1) l.used part;
      going =
          rw count
          (going_more part c.args.out.now l.page.bytes.now l.line-iterator.n l.used l.page.next l.invariant.going (omega (arith, c.in-Some.ensures.steps.1)) (length line) cut.at cut.more
          (c.answer_line.ensures.put ∙ ap (λ (s : List ℕ). put_at l.page.bytes.now l.page.next (answer_line s)) cut.front));
    }

pub returns : goal.returns
returns c =
    let part = c.args.part.now in
    let l = c.loop-line in
    let out = l.page.bytes.now in
    let done : answered (record { used = l.used; written = l.page.next }) out ≡ answered_of part c.args.out.now =
    elim c.match-next.branch [
      | in-None w ↦
          going_ended part c.args.out.now out l.line-iterator.n l.used l.page.next l.invariant.going
          (λ h. rw l.invariant.rest at (w.in-None.ensures.steps h).0)
      | in-Some+in_default w ↦
          let step = w.in-Some.ensures.steps.0 in
          let first = (step.1.2 _ (computes _ (λ x r q k. search (rules, tests)))).1 in
          let none =
          no_cut l.line-iterator.iter.rest.now w.in-Some.line.now c.next.new.self.iter.rest.now step.0 step.1.0 step.1.1 first step.2
          (rw w.in_default.is at w.strip_suffix.ensures.cases) in
          going_none part c.args.out.now out l.line-iterator.n l.used l.page.next l.invariant.going
          (subst (λ (t : List ℕ). length t ≤ place_of newline t) l.invariant.rest none)
    ] in
    search rules
