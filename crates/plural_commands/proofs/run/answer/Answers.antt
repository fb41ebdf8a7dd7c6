use Rattle.std.proofs.Common.{Ok, sym, subst, ap}
use Rattle.plural_commands.specs.Answer.{AnswersQuery}
use Rattle.plural_queries.specs.CallAnswers.{GivesTextAfterReading, IsOfDocument}
use Rattle.plural_queries.specs.QueryViews.{lookup_view, query_view}
use Rattle.plural_queries.specs.Queries.{of_document}
use Rattle.plural_queries.specs.declared.query.Query.{Query as CodeQuery}
use Rattle.plural_commands.proofs.Lengths.{answer_not_usage}
use Rattle.plural_documents.proofs.InputLemmas.{some_input}
use Rattle.plural_commands.proofs.run.answer.Goals as goal

pub returns-in-Test-clause-answers : goal.returns-in-Test-clause-answers
returns-in-Test-clause-answers g c =
    let input = some_input (g.R.Read.remaining c.args.reader.now) in (
      input.0,
      input.1,
      rw c.in-Test.is (ap Ok c.truth_line.ensures),
    )

pub returns-in-Test-clause-reads : goal.returns-in-Test-clause-reads
returns-in-Test-clause-reads g c = λ needs. absurd (subst (λ (q : CodeQuery). IsOfDocument (query_view q)) c.in-Test.is needs)

pub returns-in-Document-clause-answers : goal.returns-in-Document-clause-answers
returns-in-Document-clause-answers g c =
    let a = c.looked_up.ensures.answers in (
      a.0,
      a.1,
      subst (λ (q : CodeQuery). GivesTextAfterReading (AnswersQuery (query_view q) a.0) c.looked_up.result) (sym c.in-Document.is) a.2,
    )

pub returns-in-Document-clause-reads_nothing : goal.returns-in-Document-clause-reads_nothing
returns-in-Document-clause-reads_nothing g c = λ settled.
    absurd (settled (subst (λ (q : CodeQuery). IsOfDocument (query_view q)) (sym c.in-Document.is) tt))

pub returns-in-Document-clause-not_usage : goal.returns-in-Document-clause-not_usage
returns-in-Document-clause-not_usage g c = λ h.
    let a = c.looked_up.ensures.answers in
    answer_not_usage (of_document (lookup_view c.in-Document.lookup)) a.0 c.looked_up.result a.2 h

pub returns-in-Document-clause-memory : goal.returns-in-Document-clause-memory
returns-in-Document-clause-memory g c = λ h. rw c.in-Document.is tt
