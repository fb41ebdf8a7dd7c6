use Rattle.std.proofs.Common.{◌≡◌, Option, Err, sym, subst, refl}
use Rattle.std.specs.Cow.{cow_str_bytes}
use Rattle.std.proofs.lemmas.Result.{err_from_is_err_and}
use Rattle.plural_queries.specs.LookupAnswers.{AnswersLookup}
use Rattle.plural_queries.specs.Input.{document_of, document_of_value}
use Rattle.plural_queries.specs.CallAnswers.{GivesAnswerText}
use Rattle.plural_queries.specs.QueryViews.{lookup_view}
use Rattle.plural_queries.specs.declared.error.RunError.TheVariants.{Json}
use Rattle.plural_queries.proofs.Faults.{handed_on, mapped, value_fault}
use Rattle.plural_commands.proofs.answer.text_in.Goals as goal
use Rattle.plural_documents.specs.Inputs.{json_of}
use Rattle.plural_documents.specs.Steps.{After, ◌>>=◌, value_or_fault}
use Rattle.serde_json.specs.Data.{Data}

pub returns-in_err-text : goal.returns-in_err-text
returns-in_err-text c =
    value_fault cow_str_bytes (AnswersLookup (lookup_view c.args.lookup.now)) (document_of c.args.bytes.now)
    c.in_err-text.field-0.0 c.from_residual.result
    (handed_on _ _ (err_from_is_err_and c.from_residual.result c.from_residual.ensures.1))
    (mapped (λ fault. value_or_fault Json (json_of c.args.bytes.now) ≡ Err fault) (λ fault. document_of c.args.bytes.now ≡ Err fault)
    (λ fault is. rw is refl) c.in_err-text.field-0.0 c.in_err-text.ensures)

pub returns : goal.returns
returns c =
    let there = c.in_ok-text.ensures in
    subst (λ (value : Option Data). GivesAnswerText (After (AnswersLookup (lookup_view c.args.lookup.now)) (value_or_fault Json value >>= document_of_value)) c.text_by.result)
    (sym there.2) (c.text_by.ensures there.0 there.1)
