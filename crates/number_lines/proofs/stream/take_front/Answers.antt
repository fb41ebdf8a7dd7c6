use Rattle.std.proofs.Common.{◌≡◌, length, vec_len, arith, sym, ◌∙◌}
use Rattle.std.proofs.lemmas.Bool.{eqb-true}
use Rattle.number_lines.proofs.LineLemmas.{no_items}
use Rattle.number_lines.proofs.PlainLemmas.{after_plain}
use Rattle.number_lines.proofs.stream.take_front.Goals as goal

pub returns : goal.returns
returns c =
    let line = c.args.lines.now.line in
    let zero : vec_len line ≡ 0 = eqb-true (vec_len line) 0 (sym c.is_empty.ensures ∙ c.if-is_empty.true) in
    let none : length line.items ≡ 0 = omega arith in
    after_plain c.args.rules.now c.args.bytes.now c.in-Some.after.now c.in-Some.category c.args.lines.now c.push_category.new.self
    (no_items line.items none) c.in-Some.ensures c.in_ok-push_category.ensures
