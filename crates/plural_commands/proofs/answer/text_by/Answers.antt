use Rattle.std.specs.Cow.{cow_str_bytes}
use Rattle.plural_queries.specs.LookupAnswers.{AnswersLookup}
use Rattle.plural_queries.specs.Input.{document_of_value}
use Rattle.plural_queries.specs.QueryViews.{document_view, lookup_view}
use Rattle.plural_queries.proofs.Faults.{value_answer}
use Rattle.plural_queries.proofs.KeptDocuments.{answer_mapped}
use Rattle.plural_commands.proofs.answer.text_by.Goals as goal

pub returns : goal.returns
returns c held is_held =
    let lookup = lookup_view c.args.lookup.now in
    let given = c.in_ok-document.ensures held is_held in
    value_answer cow_str_bytes (AnswersLookup lookup) (document_of_value held) given.0 c.text_of-answer.result given.1
    (answer_mapped (AnswersLookup lookup (document_view c.in_ok-document.document)) (AnswersLookup lookup given.0) given.2 c.text_of-answer.result c.text_of-answer.ensures)
