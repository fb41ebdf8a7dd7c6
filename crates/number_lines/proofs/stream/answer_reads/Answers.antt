use Rattle.std.proofs.Common.{◌≡◌, ◌∙◌, ◌<◌, [], ◌++◌, length, take, arith, rules, refl}
use Rattle.std.proofs.KnownBytes.{Appends-nil, Appends-trans, Consumes-kept, Consumes-nil, Consumes-trans}
use Rattle.number_lines.proofs.AfterLemmas.{after_nothing}
use Rattle.number_lines.proofs.StreamLemmas.{at_end, begun_all, cut_off, failed, streamed, took}
use Rattle.number_lines.proofs.stream.answer_reads.Goals.{in-Ok+in_default, in-Err+else-ne}
use Rattle.number_lines.proofs.stream.answer_reads.Goals as goal

pub loop-init : goal.loop-init
loop-init g c = (
  [],
  [],
  Consumes-nil (g.N.Read.remaining c.args.numbers.now),
  Appends-nil (g.W.Write.contents c.args.writer.now),
  after_nothing c.args.asked.now (record { line = c.new.result; place = 1; printed = c.new-2.result }) c.new.ensures.items refl
      c.new-2.ensures,
  refl,
)

pub returns-in-Ok-eq0 : goal.returns-in-Ok-eq0
returns-in-Ok-eq0 g c =
    let i = c.loop.invariant in
    let none : c.in-Ok-eq0.field-0 ≡ 0 = omega arith in
    let room : 0 < length c.read.new.buf = search rules in
    streamed c.args.asked.now i.0 i.1 c.loop.lines (g.N.Read.remaining c.args.numbers.now) (g.N.Read.remaining c.read.new.self)
    (g.W.Write.contents c.args.writer.now) (g.W.Write.contents c.loop.writer) (g.W.Write.contents c.last_line.new.writer) c.last_line.result
    (at_end _ (g.N.Read.remaining c.loop.numbers) _ i.0 c.read.new.buf c.in-Ok-eq0.field-0 none i.2 c.in-Ok-eq0.ensures.bytes.0)
    (c.in-Ok-eq0.ensures.bytes.1 none room) i.3 i.4 (rw i.5 at c.last_line.ensures)

pub returns-in-Err-answer_bytes : goal.returns-in-Err-answer_bytes
returns-in-Err-answer_bytes g c =
    let i = c.loop.invariant in
    let more = take c.in-Ok.count c.read.new.buf in
    let begun = rw (c.prepare.ensures ∙ i.5) at c.in-Err-answer_bytes.ensures in
    failed c.args.asked.now _ _ _ _ c.in-Err-answer_bytes.error begun.0
    (begun_all c.args.asked.now (i.0 ++ more) i.1 (g.N.Read.remaining c.args.numbers.now) (g.N.Read.remaining c.read.new.self)
    (g.W.Write.contents c.args.writer.now) (g.W.Write.contents c.loop.writer) (g.W.Write.contents c.answer_bytes.new.writer)
    (Consumes-trans _ _ _ i.0 more i.2 c.in-Ok.ensures.bytes.0) i.3 (begun.1 i.0 i.1 i.4))

pub returns-then-ne : goal.returns-then-ne
returns-then-ne g c =
    let i = c.loop.invariant in
    cut_off c.args.asked.now i.0 i.1 c.loop.lines (g.N.Read.remaining c.args.numbers.now) (g.N.Read.remaining c.read.new.self)
    (g.W.Write.contents c.args.writer.now) (g.W.Write.contents c.loop.writer) (Consumes-kept _ _ _ _ i.2 c.in-Err.ensures.bytes) i.3 i.4

pub loop-preserved : goal.loop-preserved
loop-preserved g c =
    let i = c.loop.invariant in
    elim c.match-read.branch [
      | in-Ok+in_default w ↦
          let more = take w.in-Ok.count c.read.new.buf in
          let t = took c.args.asked.now more c.loop.lines w.answer_bytes.new.lines (g.W.Write.contents c.loop.writer)
          (g.W.Write.contents w.answer_bytes.new.writer) w.answer_bytes.result (rw (w.prepare.ensures ∙ i.5) at w.answer_bytes.ensures)
          w.in_default.not-Err i.0 i.1 i.4 in
          rw (w.lines-is, w.writer-is, w.asked-is) (
            i.0 ++ more,
            i.1 ++ t.0,
            Consumes-trans _ _ _ i.0 more i.2 w.in-Ok.ensures.bytes.0,
            Appends-trans _ _ _ i.1 t.0 i.3 t.1,
            t.2,
            w.prepare.ensures ∙ i.5,
          )
      | in-Err+else-ne w ↦
          rw (w.lines-is, w.writer-is, w.asked-is) (i.0, i.1, Consumes-kept _ _ _ _ i.2 w.in-Err.ensures.bytes, i.3, i.4, i.5)
    ]

pub returns : goal.returns
returns g c =
    let i = c.loop.invariant in
    cut_off c.args.asked.now i.0 i.1 c.loop.lines (g.N.Read.remaining c.args.numbers.now) (g.N.Read.remaining c.loop.numbers)
    (g.W.Write.contents c.args.writer.now) (g.W.Write.contents c.loop.writer) i.2 i.3 i.4
