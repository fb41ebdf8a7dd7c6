use Rattle.std.proofs.Common.{arith, refl, subst, sym, ◌∙◌}
use Rattle.plural_base.specs.CategoryTables.{IsTableOf}
use Rattle.plural_base.specs.FiveRules.{FiveRules}
use Rattle.number_categories.proofs.SeenNumbers.{all_seen}
use Rattle.number_categories.proofs.ToldLists.{all_passed, marked_told, runs_told}
use Rattle.number_categories.proofs.number_walk.see_all.Goals as goal

pub see_each-requires-then-contains-clause-runs : goal.see_each-requires-then-contains-clause-runs
see_each-requires-then-contains-clause-runs c =
    runs_told c.see_each.new.asked c.args.sought.start c.min-twice.result c.told_numbers-told.result c.runs_of.result
    (marked_told c.see_each.new.asked c.table_of-bytes.result c.in-Some.table c.told_numbers-told.result c.args.sought.start
    c.min-twice.result c.table_of-bytes.ensures c.in-Some.ensures.same c.told_numbers-told.ensures
    (λ n from below. (omega arith, omega arith)))
    c.runs_of.ensures

pub returns-else-contains : goal.returns-else-contains
returns-else-contains c =
    let rules = c.args.asked.now in
    let start = c.args.sought.start in
    let marks = c.told_numbers-told.result in
    let of = subst (λ (rules : FiveRules). IsTableOf rules c.table_of-bytes.result) c.see_each.ensures.asked c.table_of-bytes.ensures in
    let told = marked_told rules c.table_of-bytes.result c.in-Some.table marks start c.min-twice.result of c.in-Some.ensures.same
    c.told_numbers-told.ensures (λ n from below. (omega arith, omega arith)) in
    all_seen rules c.args.sought c.see_each.new.seen
    (all_passed rules start c.min-twice.result marks c.see_each.new.seen _ told (omega arith) refl
    (sym c.contains.ensures.value ∙ c.if-contains.false) (omega arith) (c.see_each.ensures.seen c.if-see_each.false))
