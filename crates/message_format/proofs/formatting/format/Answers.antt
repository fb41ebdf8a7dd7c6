use Rattle.std.proofs.Common.{[], Err, Some}
use Rattle.std.proofs.lemmas.Result.{err_from_is_err_and}
use Rattle.message_format.specs.FormatArguments.{named_values_view}
use Rattle.message_format.specs.FormatMeaning.{Said}
use Rattle.message_format.specs.Inner.FormatViews.{outcome_of, two_rules}
use Rattle.message_format.proofs.Walk.{exactly, whole, whole_error}
use Rattle.message_format.proofs.formatting.format.Goals as goal

pub returns-in-Err : goal.returns-in-Err
returns-in-Err c =
    exactly (record { unsigned = c.texts_write_one_number.ensures.unsigned; compact = c.texts_write_one_number.ensures.compact })
    (named_values_view c.args.arguments.now) (two_rules c.args.rules.now) c.args.pattern.now _
    (λ o e. cc)

pub returns-in_err-say : goal.returns-in_err-say
returns-in_err-say c =
    let p = err_from_is_err_and c.from_residual.result c.from_residual.ensures.1 in
    rw (p.1, p.2)
    (exactly (record { unsigned = c.texts_write_one_number.ensures.unsigned; compact = c.texts_write_one_number.ensures.compact })
    (named_values_view c.args.arguments.now) (two_rules c.args.rules.now) c.args.pattern.now (outcome_of (Err c.in_err-say.field-0.0))
    (λ o e.
    whole_error (named_values_view c.args.arguments.now) (two_rules c.args.rules.now) c.args.pattern.now c.in_err-say.field-0.0 o
    (rw c.parts.ensures at (c.in_err-say.ensures [] c.in-Ok.ensures.items)) e))

pub returns : goal.returns
returns c =
    let said = rw c.parts.ensures at (c.in_ok-say.ensures [] c.in-Ok.ensures.items) in
    exactly (record { unsigned = c.texts_write_one_number.ensures.unsigned; compact = c.texts_write_one_number.ensures.compact })
    (named_values_view c.args.arguments.now) (two_rules c.args.rules.now) c.args.pattern.now (Some (Said c.say.new.said.items))
    (λ o e. whole (named_values_view c.args.arguments.now) (two_rules c.args.rules.now) c.args.pattern.now (Said c.say.new.said.items) o
    (rw said.1 said.2) e)
