use Rattle.std.proofs.Common.{sym, subst}
use Rattle.plural_queries.specs.LookupAnswers.{AnswersLookup}
use Rattle.plural_queries.specs.CallAnswers.{GivesAnswerText}
use Rattle.plural_queries.specs.QueryViews.{document_view, lookup_view}
use Rattle.plural_queries.specs.declared.query.Lookup.{Lookup as CodeLookup}
use Rattle.plural_queries.proofs.answer.text_of.Goals as goal

pub returns-in-Category : goal.returns-in-Category
returns-in-Category c =
    subst (λ (l : CodeLookup). GivesAnswerText (AnswersLookup (lookup_view l) (document_view c.args.document.now)) c.category_line.result)
    (sym c.in-Category.is) c.category_line.ensures

pub returns-in-Range : goal.returns-in-Range
returns-in-Range c =
    subst (λ (l : CodeLookup). GivesAnswerText (AnswersLookup (lookup_view l) (document_view c.args.document.now)) c.range_line.result)
    (sym c.in-Range.is) c.range_line.ensures

pub returns-in-Print : goal.returns-in-Print
returns-in-Print c =
    subst (λ (l : CodeLookup). GivesAnswerText (AnswersLookup (lookup_view l) (document_view c.args.document.now)) c.rule_lines.result)
    (sym c.in-Print.is) c.rule_lines.ensures

pub returns-in-Select : goal.returns-in-Select
returns-in-Select c =
    subst (λ (l : CodeLookup). GivesAnswerText (AnswersLookup (lookup_view l) (document_view c.args.document.now)) c.element_line.result)
    (sym c.in-Select.is) c.element_line.ensures

pub returns-in-Message : goal.returns-in-Message
returns-in-Message c =
    subst (λ (l : CodeLookup). GivesAnswerText (AnswersLookup (lookup_view l) (document_view c.args.document.now)) c.message_line.result)
    (sym c.in-Message.is) c.message_line.ensures
