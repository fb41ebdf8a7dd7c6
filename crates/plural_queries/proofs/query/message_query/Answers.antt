use Rattle.icu_plurals.specs.Written.{CompactNumber}
use Rattle.plural_queries.specs.NumberWords.{ReadsNumberWord}
use Rattle.plural_queries.specs.Queries.{IsAsked, number_message, of_document}
use Rattle.plural_queries.proofs.Faults.{fault_of_first, same_error}
use Rattle.plural_queries.proofs.Questions.{number_asked}
use Rattle.plural_queries.proofs.query.message_query.Goals as goal

pub returns-in-Ok-clause-query : goal.returns-in-Ok-clause-query
returns-in-Ok-clause-query c =
    let query = λ (n : CompactNumber). of_document (number_message c.args.locale.now c.args.rule_type n c.args.word.now) in
    let asked = number_asked c.args.word.now query c.in-Ok.number c.in-Ok.ensures.number.0 c.in-Ok.ensures.number.1 in
    (asked.0, (tt, asked.1))

pub returns-in-Err-clause-query : goal.returns-in-Err-clause-query
returns-in-Err-clause-query c =
    let query = λ (n : CompactNumber). of_document (number_message c.args.locale.now c.args.rule_type n c.args.word.now) in
    fault_of_first (ReadsNumberWord c.args.word.now) (λ n. IsAsked (query n)) c.in-Err.fault c.in-Err.ensures.number

pub returns-in-Err-clause-memory : goal.returns-in-Err-clause-memory
returns-in-Err-clause-memory c = λ h. c.in-Err.ensures.memory (same_error h)
