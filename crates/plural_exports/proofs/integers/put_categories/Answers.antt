use Rattle.std.proofs.Common.{◌≡◌, ◌++◌, drop, length, arith, subst}
use Rattle.std.specs.Prelude.{map}
use Rattle.icu_plurals.specs.CategoryTables.{integer_entry}
use Rattle.icu_plurals.specs.FiveRules.{FiveRules}
use Rattle.plural_exports.proofs.ManyIntegers.{filled_all, filled_none}
use Rattle.plural_exports.proofs.integers.put_categories.Goals as goal

pub returns-then-room-count-clause-written : goal.returns-then-room-count-clause-written
returns-then-room-count-clause-written g c =
    filled_none (integer_entry (g.R.ManyAsked.rules c.args.rules)) c.args.numbers.now c.args.out.now (omega (arith, c.if-room-count.true))

pub returns-clause-written : goal.returns-clause-written
returns-clause-written g c =
    let numbers = c.args.numbers.now in
    let old = c.args.out.now in
    let new = c.write_categories.new.out in
    filled_all (integer_entry (g.R.ManyAsked.rules c.args.rules)) numbers old new (omega (arith, c.if-room-count.false))
    (subst (λ (five : FiveRules). new ≡ map (integer_entry five) numbers ++ drop (length numbers) old)
    c.prepare.ensures c.write_categories.ensures)
