use Rattle.std.proofs.Common.{Some, Ok, inl, inr}
use Rattle.std.proofs.lemmas.Result.{err_from_is_err_and}
use Rattle.icu_plurals.specs.Written.{CompactNumber}
use Rattle.plural_queries.specs.Commands.{range}
use Rattle.plural_queries.specs.NumberWords.{ReadsNumberWord}
use Rattle.plural_queries.specs.Queries.{IsAsked, of_document, range_category}
use Rattle.plural_documents.specs.Steps.{Then}
use Rattle.plural_queries.proofs.Faults.{fault_of_first, fault_of_second, handed_on, no_fault_of_both, same_fault}
use Rattle.plural_queries.proofs.Questions.{asked_has_no_fault, number_asked, refused_command}
use Rattle.plural_queries.proofs.query.range_query.Goals as goal

pub returns-in_err-start-clause-query : goal.returns-in_err-start-clause-query
returns-in_err-start-clause-query c =
    let query = λ (x y : CompactNumber). of_document (range_category c.args.locale.now c.args.rule_type x y) in
    let Next = λ (x : CompactNumber). Then (ReadsNumberWord c.args.end_word.now) (λ y. IsAsked (query x y)) in
    let e = c.in_err-start.field-0.0 in
    refused_command (Some (range c.args.locale.now c.args.rule_type c.args.start_word.now c.args.end_word.now)) e c.from_residual.result
    (handed_on _ _ (err_from_is_err_and c.from_residual.result c.from_residual.ensures.1))
    (fault_of_first (ReadsNumberWord c.args.start_word.now) Next e c.in_err-start.ensures.number)

pub returns-in_err-end-clause-query : goal.returns-in_err-end-clause-query
returns-in_err-end-clause-query c =
    let query = λ (x y : CompactNumber). of_document (range_category c.args.locale.now c.args.rule_type x y) in
    let Next = λ (x : CompactNumber). Then (ReadsNumberWord c.args.end_word.now) (λ y. IsAsked (query x y)) in
    let start = c.in_ok-start in
    let e = c.in_err-end.field-0.0 in
    refused_command (Some (range c.args.locale.now c.args.rule_type c.args.start_word.now c.args.end_word.now)) e
    c.from_residual-in_err-end.result
    (handed_on _ _ (err_from_is_err_and c.from_residual-in_err-end.result c.from_residual-in_err-end.ensures.1))
    (fault_of_second (ReadsNumberWord c.args.start_word.now) Next start.start e start.ensures.number.0
    (fault_of_first (ReadsNumberWord c.args.end_word.now) (λ y. IsAsked (query start.start y)) e c.in_err-end.ensures.number))

pub returns-clause-query : goal.returns-clause-query
returns-clause-query c =
    let query = λ (x y : CompactNumber). of_document (range_category c.args.locale.now c.args.rule_type x y) in
    let Next = λ (x : CompactNumber). Then (ReadsNumberWord c.args.end_word.now) (λ y. IsAsked (query x y)) in
    let start = c.in_ok-start in
    let end = c.in_ok-end in
    let asked = number_asked c.args.end_word.now (query start.start) end.end end.ensures.number.0 end.ensures.number.1 in
    let none = no_fault_of_both (ReadsNumberWord c.args.start_word.now) Next start.ensures.number.1
    (λ x. no_fault_of_both (ReadsNumberWord c.args.end_word.now) (λ y. IsAsked (query x y)) end.ensures.number.1
    (λ y. asked_has_no_fault (query x y))) in
    ((Ok start.start, start.ensures.number.0, asked.0), (tt, none))

-- ---- Memory

pub returns-in_err-start-clause-memory : goal.returns-in_err-start-clause-memory
returns-in_err-start-clause-memory c = λ h.
    let passed = handed_on _ _ (err_from_is_err_and c.from_residual.result c.from_residual.ensures.1) in
    inl (c.in_err-start.ensures.memory (same_fault _ _ _ passed h))

pub returns-in_err-end-clause-memory : goal.returns-in_err-end-clause-memory
returns-in_err-end-clause-memory c = λ h.
    let passed = handed_on _ _ (err_from_is_err_and c.from_residual-in_err-end.result c.from_residual-in_err-end.ensures.1) in
    inr (c.in_ok-start.ensures.number.1, c.in_err-end.ensures.memory (same_fault _ _ _ passed h))
