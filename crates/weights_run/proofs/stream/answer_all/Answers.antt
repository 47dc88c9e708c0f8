use Rattle.std.proofs.lemmas.Result.{on_ok_weaker}
use Rattle.weights_run.specs.Reads.{header_first}
use Rattle.weights_run.proofs.stream.answer_all.Goals as goal

pub returns : goal.returns
returns g c =
    let header =
    header_first (g.R.Read.remaining c.args.reader.now) (g.W.Write.contents c.args.writer.now) (g.W.Write.contents c.write_all.new.self)
    (g.W.Write.contents c.answer_reads.new.writer)
    c.in_ok-write_all.ensures.bytes in
    on_ok_weaker c.answer_reads.result header c.answer_reads.ensures
