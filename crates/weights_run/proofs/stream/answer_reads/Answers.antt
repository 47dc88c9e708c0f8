use Rattle.std.proofs.Common.{◌+◌, ◌*◌, ◌<◌, ◌≤◌, ◌++◌, take, length, sym, length-take-le, arith}
use Rattle.std.proofs.lemmas.Result.{on_ok_weaker}
use Rattle.weights_run.specs.Stream.{room_each}
use Rattle.weights_run.specs.StreamLaws.{written_within}
use Rattle.weights_run.specs.Reads.{reads_step, reads_end, after_read, kept_part, read_part, read_length, writes_part, keeps_part, keeps_few, begun_one_line}
use Rattle.weights_run.proofs.stream.answer_reads.Goals as goal

pub slice_bounds-write_all-end : goal.slice_bounds-write_all-end
slice_bounds-write_all-end g c = written_within _ _ _ c.advance-step.ensures

pub slice_bounds-write_all-end-in-loop : goal.slice_bounds-write_all-end-in-loop
slice_bounds-write_all-end-in-loop g c =
    sym (length-take-le c.advance-step.result.written c.advance-step.new.out (written_within _ _ _ c.advance-step.ensures))

pub returns-then-fresh-eq0 : goal.returns-then-fresh-eq0
returns-then-fresh-eq0 g c =
    let l = c.loop in
    let within : l.kept ≤ length l.input = omega arith in
    let none = c.if-fresh-eq0.true in
    let read = c.in_ok-fresh.ensures.bytes in
    let room : 0 < length c.read.new.buf = omega arith in
    let wrote = reads_end (g.R.Read.remaining c.args.reader.now) (g.W.Write.contents c.args.writer.now) (g.R.Read.remaining l.reader) (g.R.Read.remaining c.read.new.self)
    (g.W.Write.contents l.writer) (g.W.Write.contents c.answer_last.new.writer) (take l.kept l.input) l.invariant.written l.invariant.one_line (rw none at read.0) (read.1 none room) in
    on_ok_weaker c.answer_last.result wrote (rw (kept_part l.input c.read.new.buf l.kept within) at c.answer_last.ensures)

pub loop-preserved : goal.loop-preserved
loop-preserved g c =
    let l = c.loop in
    let fresh = c.in_ok-fresh.fresh in
    let bytes = c.read.new.buf in
    let within : l.kept ≤ length l.input = omega arith in
    let part = take l.kept l.input ++ take fresh bytes in
    let given : fresh ≤ length bytes = omega (arith, c.in_ok-fresh.ensures.bound) in
    let same = read_part l.input bytes l.kept within fresh given in
    let step = c.advance-step.ensures in
    let whole = read_length l.input bytes l.kept within (omega arith) in
    let fits : l.kept + fresh ≤ length (after_read l.input bytes l.kept within) = omega (arith, whole) in
    let room : room_each * (l.kept + fresh) ≤ length l.out = omega arith in
    record {
      few = keeps_few _ _ _ step fits room part same;
      one_line = rw (keeps_part _ _ _ step fits room part same) (begun_one_line part);
      written =
          rw (keeps_part _ _ _ step fits room part same)
          (reads_step (g.R.Read.remaining c.args.reader.now) (g.W.Write.contents c.args.writer.now) (g.R.Read.remaining l.reader) (g.R.Read.remaining c.read.new.self)
          (g.W.Write.contents l.writer)
          (g.W.Write.contents c.write_all.new.self)
          (take l.kept l.input)
          (take fresh bytes)
          l.invariant.written
          c.in_ok-fresh.ensures.bytes.0
          (rw (writes_part _ _ _ step fits room part same) at c.in_ok-write_all.ensures.bytes));
    }
