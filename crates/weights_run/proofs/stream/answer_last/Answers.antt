use Rattle.std.proofs.Common.{◌≡◌, ◌<◌, length, take, zero-le, sym, ap, ◌∙◌, length-take-le, arith}
use Rattle.std.proofs.lemmas.Bool.Decides.{nat_tests}
use Rattle.text.specs.Put.{Page}
use Rattle.text.specs.PutLaws.{put_within}
use Rattle.weights_run.specs.Output.{answer_line}
use Rattle.weights_run.specs.Stream.{filled_part}
use Rattle.weights_run.specs.StreamLaws.{line_fits}
use Rattle.weights_run.specs.Whole.{front_holds}
use Rattle.weights_run.specs.Reads.{no_last, one_last}
use Rattle.weights_run.proofs.stream.answer_last.Goals as goal

pub slice_bounds-write_all-end : goal.slice_bounds-write_all-end
slice_bounds-write_all-end g c =
    let page = c.answer_line.new.out in
    sym (length-take-le page.next page.bytes.now (put_within c.args.out.now 0 _ zero-le c.answer_line.ensures.put))

pub returns-then-is_empty : goal.returns-then-is_empty
returns-then-is_empty g c =
    let none : length c.args.line.now ≡ 0 = grind (arith, nat_tests, c.if-is_empty.ensures) in
    no_last (g.W.Write.contents c.args.writer.now) c.args.line.now none

pub returns : goal.returns
returns g c =
    let line = c.args.line.now in
    let page = c.answer_line.new.out in
    let some : 0 < length line = grind (arith, nat_tests, c.if-is_empty.ensures) in
    let holds : take page.next page.bytes.now ≡ answer_line line =
    ap (λ (p : Page). filled_part p) c.answer_line.ensures.put ∙ front_holds c.args.out.now (answer_line line) (omega (arith, line_fits line)) in
    rw (one_last line some, ← holds) c.write_all.ensures.bytes
