-- What is kept is the beginning of one line, and what is written so far comes before the answers to it and what is still to be read.
use Rattle.std.proofs.Common.{◌≤◌, IfSome, take}
use Rattle.text.specs.Pieces.{newline}
use Rattle.text.specs.LineLaws.{Without}
use Rattle.weights_run.specs.Stream.{most_kept}
use Rattle.weights_run.specs.Reads.{Pending}
use Rattle.weights_run.proofs.stream.answer_reads.Given as goal

abbrev pub invariant-loop : goal.invariant-loop
invariant-loop g l = record {
  few : l.kept ≤ most_kept;
  one_line : Without newline (take l.kept l.input);
  written :
      IfSome (g.R.Read.remaining l.initial.reader)
      (λ bytes. Pending bytes (g.W.Write.contents l.initial.writer) (g.R.Read.remaining l.reader) (g.W.Write.contents l.writer) (take l.kept l.input));
}
