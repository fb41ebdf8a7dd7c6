use Rattle.std.proofs.Common.{◌≡◌, length, vec_len, true, false, arith, ap, inl, refl, sym, ◌∙◌}
use Rattle.std.proofs.lemmas.Bool.{eqb-true, eq-eqb}
use Rattle.number_lines.proofs.AfterLemmas.{begun_here}
use Rattle.number_lines.proofs.LineLemmas.{no_items}
use Rattle.number_lines.proofs.StreamLemmas.{finished, finished_before}
use Rattle.number_lines.proofs.stream.last_line.Goals as goal

pub returns-then-is_empty : goal.returns-then-is_empty
returns-then-is_empty g c =
    let line = c.args.lines.now.line in
    let zero : vec_len line ≡ 0 = eqb-true (vec_len line) 0 (sym c.is_empty.ensures ∙ c.if-is_empty.true) in
    let none : length line.items ≡ 0 = omega arith in
    finished_before c.args.rules.now c.args.lines.now c.has_fault.result (g.W.Write.contents c.args.writer.now)
    (no_items line.items none) c.has_fault.ensures

pub returns-in-Ok : goal.returns-in-Ok
returns-in-Ok g c =
    let line = c.args.lines.now.line in
    finished c.args.rules.now c.args.lines.now c.end_line.new.lines (g.W.Write.contents c.args.writer.now)
    (g.W.Write.contents c.write_to.new.writer) c.write_to.result
    (λ none.
    let empty : length line.items ≡ 0 = ap length none in
    let zero : vec_len line ≡ 0 = omega arith in
    let both : true ≡ false = sym (c.is_empty.ensures ∙ eq-eqb (vec_len line) 0 zero) ∙ c.if-is_empty.false in cc)
    c.in-Ok.ensures c.write_to.ensures

pub returns-in-Err : goal.returns-in-Err
returns-in-Err g c =
    (inl refl, λ bytes text h. begun_here c.args.rules.now bytes text c.args.lines.now (g.W.Write.contents c.args.writer.now) h)
