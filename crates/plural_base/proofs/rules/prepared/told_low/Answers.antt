use Rattle.std.proofs.Common.{◌≡◌, ◌∙◌, ap, sym, subst, refl, Option}
use Rattle.std.specs.Prelude.{None, Some, if◌then◌else◌, true}
use Rattle.std.proofs.lemmas.Bool.{lt-ltb}
use Rattle.std.proofs.lemmas.List.{get_or-replicate}
use Rattle.plural_operands.specs.Operands.{of_whole}
use Rattle.plural_base.specs.declared.category.PluralCategory.{PluralCategory}
use Rattle.plural_base.specs.declared.category.PluralCategory.TheVariants.{Other}
use Rattle.plural_base.specs.FiveRules.{rules_of}
use Rattle.plural_base.specs.Inner.Masks.{has_bit}
use Rattle.plural_base.specs.Inner.WholeNumbers.{IsTold, category_of_whole, told_category}
use Rattle.plural_base.proofs.integers.Bits.{has-ones}
use Rattle.plural_base.proofs.integers.Guesses.{told_if_open}
use Rattle.plural_base.proofs.integers.Residues.{none_at}
use Rattle.plural_base.proofs.rules.prepared.told_low.Goals as goal

pub returns-then-not-has_few_ranges : goal.returns-then-not-has_few_ranges
returns-then-not-has_few_ranges c = λ n h.
    let P : Option PluralCategory → Type 0 = λ entry. IsTold (category_of_whole (rules_of c.args.rules.now) n) entry in
    subst P (sym (none_at 128 n)) tt

pub tell_categories-requires : goal.tell_categories-requires
tell_categories-requires c = λ class h. get_or-replicate 128 class (Some Other) None h

pub returns : goal.returns
returns c = λ n h.
    let rules = rules_of c.args.rules.now in
    let all : has_bit 340282366920938463463374607431768211455 n ≡ true = has-ones 128 n ∙ lt-ltb n 128 h in
    told_if_open (λ relation. true) (of_whole n) rules true _
    (c.tell_categories.ensures n (of_whole n) h h refl
    ∙ ap (λ b. if b then told_category (λ relation. true) (of_whole n) rules else Some Other) all)
