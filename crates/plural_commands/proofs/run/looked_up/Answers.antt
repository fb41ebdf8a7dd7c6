use Rattle.std.proofs.lemmas.Result.{err_from_is_err_and}
use Rattle.plural_queries.specs.LookupAnswers.{AnswersLookup}
use Rattle.plural_queries.specs.Input.{document_of}
use Rattle.plural_queries.specs.CallAnswers.{input_fault}
use Rattle.plural_queries.specs.QueryViews.{lookup_view}
use Rattle.plural_documents.specs.Steps.{After}
use Rattle.plural_queries.proofs.Faults.{handed_on}
use Rattle.plural_commands.proofs.Lengths.{text_not_long}
use Rattle.plural_commands.proofs.Readings.{no_input, of_all, read_on, to_the_end}
use Rattle.plural_commands.proofs.run.looked_up.Goals as goal

pub returns-in_err-input-clause-answers : goal.returns-in_err-input-clause-answers
returns-in_err-input-clause-answers g c =
    no_input (AnswersLookup (lookup_view c.args.lookup.now)) (g.R.Read.remaining c.args.reader.now)
    c.in_err-input.field-0.0 c.from_residual.result
    (handed_on _ (input_fault c.in_err-input.field-0.0) (err_from_is_err_and c.from_residual.result c.from_residual.ensures.1))
    c.in_err-input.ensures.input

pub returns-in_err-input-clause-reads : goal.returns-in_err-input-clause-reads
returns-in_err-input-clause-reads g c =
    read_on _ _ c.in_err-input.field-0.0 c.from_residual.result
    (handed_on _ (input_fault c.in_err-input.field-0.0) (err_from_is_err_and c.from_residual.result c.from_residual.ensures.1))
    c.in_err-input.ensures.read

pub returns-clause-answers : goal.returns-clause-answers
returns-clause-answers g c = (
  c.in_ok-input.input.items,
  c.in_ok-input.ensures.input.0,
  of_all (AnswersLookup (lookup_view c.args.lookup.now)) c.in_ok-input.input.items c.as_slice.result.now
      c.in_ok-input.ensures.input.1 c.as_slice.ensures.value c.text_in.result c.text_in.ensures,
)

pub returns-clause-reads : goal.returns-clause-reads
returns-clause-reads g c =
    let lookup = lookup_view c.args.lookup.now in
    to_the_end (After (AnswersLookup lookup) (document_of c.as_slice.result.now))
    (g.R.Read.remaining c.args.reader.now) (g.R.Read.remaining c.read_input.new.reader)
    (text_not_long lookup c.as_slice.result.now) c.in_ok-input.ensures.read
    c.text_in.result c.text_in.ensures
