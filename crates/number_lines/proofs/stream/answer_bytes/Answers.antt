use Rattle.std.proofs.Common.{inl, refl}
use Rattle.number_lines.proofs.AfterLemmas.{begun_before}
use Rattle.number_lines.proofs.StreamLemmas.{wrote_on}
use Rattle.number_lines.proofs.stream.answer_bytes.Goals as goal

pub returns-in-Ok : goal.returns-in-Ok
returns-in-Ok g c =
    wrote_on c.args.rules.now c.args.bytes.now c.args.lines.now c.take_bytes.new.lines c.write_printed.new.lines
    (g.W.Write.contents c.args.writer.now) (g.W.Write.contents c.write_printed.new.writer) c.write_printed.result
    c.in-Ok.ensures c.write_printed.ensures.written c.write_printed.ensures.forgotten c.write_printed.ensures.part

pub returns-in-Err : goal.returns-in-Err
returns-in-Err g c = (
  inl refl,
  λ bytes text h. begun_before c.args.rules.now bytes c.args.bytes.now text c.args.lines.now (g.W.Write.contents c.args.writer.now) h,
)
