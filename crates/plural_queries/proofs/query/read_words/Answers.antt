use Rattle.std.proofs.Common.{Some, refl, subst, sym}
use Rattle.plural_queries.specs.CallAnswers.{GivesQuery}
use Rattle.plural_queries.specs.QueryViews.{command_view}
use Rattle.plural_queries.specs.Queries.{ReadingTakesMemory, of_document, printed_rules}
use Rattle.plural_queries.specs.declared.command.Command.{Command as CodeCommand}
use Rattle.plural_queries.proofs.Questions.{asked_has_no_fault}
use Rattle.plural_queries.proofs.query.read_words.Goals as goal

pub returns-in-Test-clause-query : goal.returns-in-Test-clause-query
returns-in-Test-clause-query c =
    subst (λ (command : CodeCommand). GivesQuery (Some (command_view command)) c.test_query.result) (sym c.in-Test.is) c.test_query.ensures

pub returns-in-Category-clause-query : goal.returns-in-Category-clause-query
returns-in-Category-clause-query c =
    subst (λ (command : CodeCommand). GivesQuery (Some (command_view command)) c.category_query.result) (sym c.in-Category.is)
    c.category_query.ensures.query

pub returns-in-Range-clause-query : goal.returns-in-Range-clause-query
returns-in-Range-clause-query c =
    subst (λ (command : CodeCommand). GivesQuery (Some (command_view command)) c.range_query.result) (sym c.in-Range.is)
    c.range_query.ensures.query

pub returns-in-Select-clause-query : goal.returns-in-Select-clause-query
returns-in-Select-clause-query c =
    subst (λ (command : CodeCommand). GivesQuery (Some (command_view command)) c.select_query.result) (sym c.in-Select.is)
    c.select_query.ensures.query

pub returns-in-Message-clause-query : goal.returns-in-Message-clause-query
returns-in-Message-clause-query c =
    subst (λ (command : CodeCommand). GivesQuery (Some (command_view command)) c.message_query.result) (sym c.in-Message.is)
    c.message_query.ensures.query

pub returns-in-Print-clause-query : goal.returns-in-Print-clause-query
returns-in-Print-clause-query c =
    let query = of_document (printed_rules c.in-Print.locale.now c.in-Print.rule_type) in
    rw c.in-Print.is (refl, (tt, asked_has_no_fault query))

-- ---- Memory

pub returns-in-Category-clause-memory : goal.returns-in-Category-clause-memory
returns-in-Category-clause-memory c = λ h.
    subst (λ (command : CodeCommand). ReadingTakesMemory (Some (command_view command))) (sym c.in-Category.is)
    (c.category_query.ensures.memory h)

pub returns-in-Range-clause-memory : goal.returns-in-Range-clause-memory
returns-in-Range-clause-memory c = λ h.
    subst (λ (command : CodeCommand). ReadingTakesMemory (Some (command_view command))) (sym c.in-Range.is) (c.range_query.ensures.memory h)

pub returns-in-Select-clause-memory : goal.returns-in-Select-clause-memory
returns-in-Select-clause-memory c = λ h.
    subst (λ (command : CodeCommand). ReadingTakesMemory (Some (command_view command))) (sym c.in-Select.is)
    (c.select_query.ensures.memory h)

pub returns-in-Message-clause-memory : goal.returns-in-Message-clause-memory
returns-in-Message-clause-memory c = λ h.
    subst (λ (command : CodeCommand). ReadingTakesMemory (Some (command_view command))) (sym c.in-Message.is)
    (c.message_query.ensures.memory h)
