use Rattle.std.proofs.Common.{arith, rules, subst, ◌+◌, ◌-◌, ◌≡◌, ◌∙◌, Some}
use Rattle.std.specs.Prelude.{IsSome}
use Rattle.plural_base.specs.declared.category.PluralCategory.{PluralCategory}
use Rattle.number_categories.specs.WholeNumbers.{HasWhole, least_at}
use Rattle.number_categories.specs.Inner.SoughtNumbers.{AreSeenBelow}
use Rattle.number_categories.proofs.SeenNumbers.{all_enough, next_seen, passed, still_two}
use Rattle.number_categories.proofs.ToldLists.{run_passed}
use Rattle.number_categories.proofs.number_walk.see_each.Goals as goal

pub loop-number-preserved-then-run-gt0 : goal.loop-number-preserved-then-run-gt0
loop-number-preserved-then-run-gt0 c =
    let inv = c.loop-number.invariant in
    let n = c.loop-number.number in
    let to = c.min-number.result in
    let sum : n + (to - n) ≡ to = omega arith in
    record {
      seen = subst (λ m. AreSeenBelow c.args.asked.now c.args.sought.start m c.loop-number.seen) sum
          (run_passed c.args.asked.now c.args.sought.start c.args.start n (to - n) c.args.runs.now c.loop-number.seen c.requires.runs
          inv.from (omega (arith, c.run_from-run.ensures)) (omega arith) inv.seen);
      two = inv.two;
      same = inv.same;
      from = omega (arith, inv.from);
      within = omega arith;
    }

pub loop-number-preserved-then-eq : goal.loop-number-preserved-then-eq
loop-number-preserved-then-eq c =
    let category = c.category_for_integer-category.result in
    let same : c.loop-number.common ≡ Some category = search rules in
    let has : HasWhole c.args.asked.now category c.loop-number.number = cc in
    record {
      seen = passed c.args.asked.now c.args.sought.start c.loop-number.number c.loop-number.seen category has
          (c.loop-number.invariant.two category same) c.loop-number.invariant.seen;
      two = c.loop-number.invariant.two;
      same = c.prepare.ensures ∙ c.loop-number.invariant.same;
      from = omega (arith, c.loop-number.invariant.from);
      within = omega arith;
    }

pub loop-number-preserved-then-not-add : goal.loop-number-preserved-then-not-add
loop-number-preserved-then-not-add c =
    let category = c.category_for_integer-category.result in
    let has : HasWhole c.args.asked.now category c.loop-number.number = cc in
    let two = still_two c.args.asked.now c.args.sought.start c.loop-number.number c.loop-number.seen c.add.new.self category
    c.add.ensures.own c.add.ensures.others in
    let full = c.add.ensures.full c.if-not-add.true in
    record {
      seen = next_seen c.args.asked.now c.args.sought.start c.loop-number.number c.loop-number.seen c.add.new.self category
          c.add.ensures.own c.add.ensures.others (omega arith) has c.loop-number.invariant.seen;
      two = λ other same. (let is : category ≡ other = cc in
          subst (λ (d : PluralCategory). IsSome (least_at c.add.new.self d).second) is (two category full));
      same = c.prepare.ensures ∙ c.loop-number.invariant.same;
      from = omega (arith, c.loop-number.invariant.from);
      within = omega arith;
    }

pub returns-then-are_enough-clause-found : goal.returns-then-are_enough-clause-found
returns-then-are_enough-clause-found c = λ found.
    let category = c.category_for_integer-category.result in
    let has : HasWhole c.args.asked.now category c.loop-number.number = cc in
    all_enough c.args.asked.now (c.loop-number.number + 1) c.args.sought c.add.new.self (omega arith)
    (c.are_enough.ensures c.if-are_enough.true)
    (next_seen c.args.asked.now c.args.sought.start c.loop-number.number c.loop-number.seen c.add.new.self category
    c.add.ensures.own c.add.ensures.others (omega arith) has c.loop-number.invariant.seen)

pub loop-number-preserved : goal.loop-number-preserved
loop-number-preserved c =
    let category = c.category_for_integer-category.result in
    let has : HasWhole c.args.asked.now category c.loop-number.number = cc in
    record {
      seen = next_seen c.args.asked.now c.args.sought.start c.loop-number.number c.loop-number.seen c.add.new.self category
          c.add.ensures.own c.add.ensures.others (omega arith) has c.loop-number.invariant.seen;
      two = λ other same. still_two c.args.asked.now c.args.sought.start c.loop-number.number c.loop-number.seen c.add.new.self
          category c.add.ensures.own c.add.ensures.others other (c.loop-number.invariant.two other same);
      same = c.prepare.ensures ∙ c.loop-number.invariant.same;
      from = omega (arith, c.loop-number.invariant.from);
      within = omega arith;
    }
