use Rattle.std.proofs.Common.{◌<◌, ◌∙◌, ap, length, arith}
use Rattle.std.specs.Prelude.{if◌then◌else◌}
use Rattle.plural_base.specs.declared.category.PluralCategory.TheVariants.{Zero, One, Two, Few, Many}
use Rattle.plural_base.specs.FiveRules.{rules_of}
use Rattle.plural_base.specs.Inner.Masks.{has_bit}
use Rattle.plural_base.specs.Inner.WholeNumbers.{told_category}
use Rattle.plural_base.proofs.integers.Guesses.{last_rule, one_more_rule, ordered_rule}
use Rattle.plural_base.proofs.rules.told.tell_categories.Goals as goal

pub returns : goal.returns
unfolding told_category
returns g c = λ class o h within has.
    let told = g.C.NumberClasses.is_told c.args.classes class in
    let rules = rules_of c.args.rules.now in
    let first : class < length c.tell-wanted.new.entries = omega (arith, within, c.tell-wanted.auto.entries) in
    let second : class < length c.tell-wanted-2.new.entries = omega (arith, first, c.tell-wanted-2.auto.entries) in
    let third : class < length c.tell-wanted-3.new.entries = omega (arith, second, c.tell-wanted-3.auto.entries) in
    let fourth : class < length c.tell-wanted-4.new.entries = omega (arith, third, c.tell-wanted-4.auto.entries) in
    let many = one_more_rule _ _ _ _ Many _ _ _ _ (ordered_rule told o rules.many)
    (c.tell-wanted-5.ensures.left class o h has) (c.tell-wanted-5.ensures.written class o h fourth has)
    (last_rule _ _) in
    let few = one_more_rule _ _ _ _ Few _ _ _ _ (ordered_rule told o rules.few)
    (c.tell-wanted-4.ensures.left class o h has) (c.tell-wanted-4.ensures.written class o h third has) many in
    let two = one_more_rule _ _ _ _ Two _ _ _ _ (ordered_rule told o rules.two)
    (c.tell-wanted-3.ensures.left class o h has) (c.tell-wanted-3.ensures.written class o h second has) few in
    let one = one_more_rule _ _ _ _ One _ _ _ _ (ordered_rule told o rules.one)
    (c.tell-wanted-2.ensures.left class o h has) (c.tell-wanted-2.ensures.written class o h first has) two in
    one_more_rule _ _ _ _ Zero _ _ _ _ (ordered_rule told o rules.zero)
    (c.tell-wanted.ensures.left class o h has) (c.tell-wanted.ensures.written class o h within has) one (λ is. c.requires class within)
    ∙ ap (λ entry. if has_bit c.args.wanted class then told_category told o rules else entry) (c.requires class within)
