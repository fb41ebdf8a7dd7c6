use Rattle.std.proofs.Common.{◌≡◌, List, refl}
use Rattle.std.specs.Prelude.{Option, Ok}
use Rattle.plural_base.specs.FiveRules.{five}
use Rattle.plural_base.specs.Inner.CategoryValues.{five_lent, rules_at}
use Rattle.plural_base.specs.declared.five.Five.{Five}
use Rattle.plural_base.specs.declared.category.PluralCategory.TheVariants.{Zero, One, Two, Few, Many}
use Rattle.plural_base.specs.RulesJson.{optional_meant}
use Rattle.plural_runtime.specs.PackedRelations.{PackedRelation}
use Rattle.serde_json.specs.Data.{Data}
use Rattle.plural_base.proofs.json.checks.check_values.Goals as goal

-- five values each of which gives a rule or none give five rules
all_given : (values : Five (Option Data)) (zero one two few many : Option (List PackedRelation)) → optional_meant Zero values.zero ≡ Ok zero
    → optional_meant One values.one ≡ Ok one → optional_meant Two values.two ≡ Ok two → optional_meant Few values.few ≡ Ok few
    → optional_meant Many values.many ≡ Ok many → rules_at values ≡ Ok (five zero one two few many)
all_given values zero one two few many a b c d e = rw (a, b, c, d, e) refl

pub returns-clause-answers : goal.returns-clause-answers
returns-clause-answers c =
    let zero = c.in_ok-check_optional.ensures.answers in
    let one = c.in_ok-check_optional-2.ensures.answers in
    let two = c.in_ok-check_optional-3.ensures.answers in
    let few = c.in_ok-check_optional-4.ensures.answers in
    let many = c.in_ok-check_optional-5.ensures.answers in (
      five zero.0 one.0 two.0 few.0 many.0,
      all_given (five_lent c.args.values.now) zero.0 one.0 two.0 few.0 many.0 zero.1 one.1 two.1 few.1 many.1,
    )
