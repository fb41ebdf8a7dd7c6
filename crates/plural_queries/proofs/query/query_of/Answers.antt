use Rattle.plural_queries.specs.QueryViews.{command_view}
use Rattle.plural_queries.proofs.Questions.{command_not_usage}
use Rattle.plural_queries.proofs.query.query_of.Goals as goal

pub returns-in-Some-clause-usage : goal.returns-in-Some-clause-usage
returns-in-Some-clause-usage c = (
  λ h. absurd (command_not_usage (command_view c.in-Some.command) c.read_words.result c.read_words.ensures.query h),
  λ none. let some = c.in-Some.ensures in cc,
)
