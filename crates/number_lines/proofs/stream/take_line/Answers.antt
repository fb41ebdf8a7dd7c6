use Rattle.std.proofs.Common.{◌≡◌, ◌++◌, ◌∷◌, [], length, vec_len, arith, sym, ◌∙◌}
use Rattle.std.proofs.lemmas.Bool.{eqb-true}
use Rattle.number_lines.specs.Inner.LineSteps.{EndsLine, KeepsBytes, TakesBytes}
use Rattle.number_lines.proofs.AfterLemmas.{after_kept, after_line}
use Rattle.number_lines.proofs.LineLemmas.{no_items}
use Rattle.number_lines.proofs.StreamLemmas.{on_ok}
use Rattle.number_lines.proofs.stream.take_line.Goals as goal

pub answer_line-requires : goal.answer_line-requires
answer_line-requires c =
    let line = c.args.lines.now.line in
    let zero : vec_len line ≡ 0 = eqb-true (vec_len line) 0 (sym c.is_empty.ensures ∙ c.if-is_empty.true) in
    let none : length line.items ≡ 0 = omega arith in
    no_items line.items none

pub returns-then-is_empty : goal.returns-then-is_empty
returns-then-is_empty c =
    let line = c.args.lines.now.line in
    let zero : vec_len line ≡ 0 = eqb-true (vec_len line) 0 (sym c.is_empty.ensures ∙ c.if-is_empty.true) in
    let none : length line.items ≡ 0 = omega arith in
    let r = c.args.rules.now in
    let old = c.args.lines.now in
    let new = c.answer_line.new.lines in
    on_ok {P = EndsLine r c.args.line.now old new} {Q = TakesBytes r (c.args.line.now ++ 10 ∷ []) old new} c.answer_line.result
    (λ e bytes text a. after_line r bytes text c.args.line.now old new c.requires (no_items line.items none) e a) c.answer_line.ensures

pub returns : goal.returns
returns c =
    let r = c.args.rules.now in
    let old = c.args.lines.now in
    let mid = c.keep.new.self in
    let new = c.end_line.new.lines in
    let kept : KeepsBytes c.args.line.now old mid = c.in_ok-keep.ensures in
    on_ok {P = EndsLine r mid.line.items mid new} {Q = TakesBytes r (c.args.line.now ++ 10 ∷ []) old new} c.end_line.result
    (λ e bytes text a. after_kept r bytes text c.args.line.now old mid new c.requires kept e a) c.end_line.ensures
