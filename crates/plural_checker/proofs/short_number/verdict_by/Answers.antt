use Rattle.std.proofs.Common.{◌≡◌, ℕ, List, Option, Some, ap, subst, sym}
use Rattle.std.specs.Option.{option_copied}
use Rattle.icu_plurals.specs.FiveRules.{FiveRules}
use Rattle.plural_checker.specs.Inner.ShortNumbers.{IsVerdictOn, WritesShortNumber}
use Rattle.plural_checker.proofs.short_number.verdict_by.Goals as goal

pub returns-in-Some : goal.returns-in-Some
returns-in-Some c =
    let these : option_copied c.args.rules ≡ Some c.in-Some.rules.now = ap option_copied c.in-Some.is in
    subst (λ (rules : Option FiveRules).
    (text : List ℕ) → WritesShortNumber text c.args.operands → IsVerdictOn rules c.args.category text c.verdict_under.result)
    (sym these) c.verdict_under.ensures
