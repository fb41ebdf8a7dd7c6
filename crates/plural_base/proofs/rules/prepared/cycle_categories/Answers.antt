use Rattle.std.proofs.Common.{◌≡◌, ◌<◌, ◌%◌, ◌∙◌, ap, refl, arith, true}
use Rattle.std.specs.Prelude.{None, Some, if◌then◌else◌}
use Rattle.std.proofs.lemmas.Bool.{lt-ltb}
use Rattle.std.proofs.Math.Nat.{mod-lt}
use Rattle.std.proofs.lemmas.List.{get_or-replicate}
use Rattle.plural_base.specs.declared.category.PluralCategory.TheVariants.{Other}
use Rattle.plural_operands.specs.Operands.{of_whole}
use Rattle.plural_base.specs.FiveRules.{rules_of}
use Rattle.plural_base.specs.Inner.Masks.{has_bit}
use Rattle.plural_base.specs.Inner.WholeNumbers.{told_category}
use Rattle.plural_base.specs.ToldCategories.{is_told}
use Rattle.plural_base.proofs.integers.Bits.{has-ones}
use Rattle.plural_base.proofs.rules.prepared.cycle_categories.Goals as goal

pub tell_categories-requires : goal.tell_categories-requires
tell_categories-requires c = λ class h. get_or-replicate 100 class (Some Other) None h

pub returns : goal.returns
returns c = λ n from.
    let residue : n % 100 < 100 = mod-lt n (omega arith) in
    let wanted : has_bit 1267650600228229401496703205375 (n % 100) ≡ true = has-ones 100 (n % 100) ∙ lt-ltb (n % 100) 100 residue in
    c.tell_categories.ensures (n % 100) (of_whole n) (omega (arith, residue)) residue
    (n, refl, record { above = from; residue_is = refl })
    ∙ ap (λ b. if b then told_category (is_told c.args.bound (n % 100)) (of_whole n) (rules_of c.args.rules.now) else Some Other) wanted
