use Rattle.std.proofs.Common.{w64, ◌≡◌, ℕ, ◌<◌, ◌++◌, List, Ok, Err, length, drop, min, if◌then◌else◌, pos, refl, subst, sym, ap}
use Rattle.std.proofs.Common.{◌∙◌, arith, ⊎_elim}
use Rattle.std.proofs.lemmas.Bool.{cases_lt, le-leb, lt-leb}
use Rattle.std.proofs.lemmas.Int.{to_z_pos}
use Rattle.std.proofs.lemmas.Result.{err_from_is_err_and}
use Rattle.icu_plurals.specs.Elements.{Elements, IsExactElement, IsKeptElement}
use Rattle.icu_plurals.specs.Inner.ElementsViews.{lent_elements}
use Rattle.icu_plurals.specs.PackedElements.{PackedValue}
use Rattle.plural_message.specs.Messages.{IsMessageWith, IsWrittenTo}
use Rattle.plural_exports.specs.Inner.UnderRules.{IsMessageUnder}
use Rattle.plural_exports.specs.Results.{filled_buffer}
use Rattle.plural_exports.proofs.Steps.{faulty, passed_on}
use Rattle.plural_exports.proofs.number_message.write_under.Goals as goal

-- what was written of a message is what an export writes
filled_is : (old new message : List ℕ) (told : ℕ) → IsWrittenTo old new told message → new ≡ filled_buffer message old
filled_is old new message told is =
    ⊎_elim
    (λ short. is.too_long short
    ∙ ap (λ t. if t then (message ++ drop (length message) old) else old) (sym (lt-leb (length message) (length old) short)))
    (λ room. is.fits room
    ∙ ap (λ t. if t then (message ++ drop (length message) old) else old) (sym (le-leb (length message) (length old) room)))
    (cases_lt (length old) (length message))

-- a length that is told, and below the greatest, is the length
told_is : (told most : ℕ) (message : List ℕ) → told ≡ min (length message) most → told < most → told ≡ length message
told_is told most message is below = omega (arith, is, below)

pub returns-in_err-elements_in : goal.returns-in_err-elements_in
returns-in_err-elements_in c =
    let e = c.in_err-elements_in.field-0.0 in
    faulty (IsMessageUnder c.args.rules.now c.args.elements.now c.args.number.now) c.args.out.now e c.from_residual.result
    (passed_on _ _ (err_from_is_err_and c.from_residual.result c.from_residual.ensures.1))
    (Err e, c.in_err-elements_in.ensures, refl)

pub returns-in_err-text : goal.returns-in_err-text
returns-in_err-text c =
    let e = c.in_err-text.field-0.0 in
    faulty (IsMessageUnder c.args.rules.now c.args.elements.now c.args.number.now) c.args.out.now e c.from_residual-in_err-text.result
    (passed_on _ _ (err_from_is_err_and c.from_residual-in_err-text.result c.from_residual-in_err-text.ensures.1))
    (Ok (lent_elements c.in_ok-elements_in.field-0), c.in_ok-elements_in.ensures, (Err e, (Err e, c.in_err-text.ensures, refl), refl))

pub returns-in_err-number : goal.returns-in_err-number
returns-in_err-number c =
    let e = c.in_err-number.field-0.0 in
    faulty (IsMessageUnder c.args.rules.now c.args.elements.now c.args.number.now) c.args.out.now e c.from_residual-in_err-number.result
    (passed_on _ _ (err_from_is_err_and c.from_residual-in_err-number.result c.from_residual-in_err-number.ensures.1)) (
      Ok (lent_elements c.in_ok-elements_in.field-0),
      c.in_ok-elements_in.ensures,
      (Err e, (Ok c.in_ok-text.text.now, c.in_ok-text.ensures, c.in_err-number.ensures), refl),
    )

pub returns-then-length-le-MOST_BYTES : goal.returns-then-length-le-MOST_BYTES
returns-then-length-le-MOST_BYTES c =
    let rules = c.args.rules.now in
    let elements = lent_elements c.in_ok-elements_in.field-0 in
    let x = c.in_ok-number.number in
    let number = c.args.number.now in
    let wrote = c.format_number_into-length.ensures in
    let message = wrote.0 in
    let kept =
    subst (λ (text : List ℕ). IsMessageWith (IsKeptElement c.new-message.result rules) x text message) c.in_ok-text.ensures.1 wrote.2 in
    let exact =
    subst (λ (text : List ℕ). IsMessageWith (IsExactElement c.new-message.result rules) x text message) c.in_ok-text.ensures.1
    wrote.3 in
    let told = told_is c.format_number_into-length.result 18446744073709551615 message wrote.1.told_is
    (omega (arith, c.if-length-le-MOST_BYTES.true)) in (
      message,
      (
        Ok elements,
        c.in_ok-elements_in.ensures,
        (
          Ok x,
          (Ok c.in_ok-text.text.now, c.in_ok-text.ensures, c.in_ok-number.ensures),
          (
            subst (λ (e : Elements PackedValue). IsMessageWith (IsKeptElement e rules) x number message) c.new-message.ensures kept,
            subst (λ (e : Elements PackedValue). IsMessageWith (IsExactElement e rules) x number message) c.new-message.ensures exact,
          ),
        ),
      ),
      (
        to_z_pos w64 _ (omega (arith, c.if-length-le-MOST_BYTES.true))
            ∙ ap pos told,
        filled_is c.args.out.now c.format_number_into-length.new.out message c.format_number_into-length.result wrote.1,
      ),
    )

pub returns : goal.returns
returns c =
    let rules = c.args.rules.now in
    let number = c.args.number.now in
    let x = c.in_ok-number.number in
    let wrote = c.format_number_into-length.ensures in
    let message = wrote.0 in
    let kept =
    subst (λ (text : List ℕ). IsMessageWith (IsKeptElement c.new-message.result rules) x text message) c.in_ok-text.ensures.1 wrote.2 in
    let short : length c.args.out.now < 9223372036854775808 = grind arith in (
      (
        Ok (lent_elements c.in_ok-elements_in.field-0),
        c.in_ok-elements_in.ensures,
        (
          Ok x,
          (Ok c.in_ok-text.text.now, c.in_ok-text.ensures, c.in_ok-number.ensures),
          (
            refl,
            message,
            subst (λ (e : Elements PackedValue). IsMessageWith (IsKeptElement e rules) x number message) c.new-message.ensures kept,
            omega (arith, wrote.1.told_is, c.if-length-le-MOST_BYTES.false),
          ),
        ),
      ),
      wrote.1.too_long (omega (arith, wrote.1.told_is, c.if-length-le-MOST_BYTES.false, short)),
    )
