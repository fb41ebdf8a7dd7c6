use Rattle.std.proofs.Common.{ℕ, List, Bor, map, Result, Ok, Err, inl, inr, refl, sym, ◌∙◌, subst, rules}
use Rattle.std.proofs.lemmas.Result.{err_from_is_err_and}
use Rattle.std.specs.Cow.{cow_str_bytes}
use Rattle.std.specs.Prelude.{⊤}
use Rattle.plural_commands.specs.Answer.{AnswersQuery, AnswersWords}
use Rattle.plural_queries.specs.CallAnswers.{run_origin, Text}
use Rattle.plural_queries.specs.Commands.{command_of}
use Rattle.plural_queries.specs.QueryViews.{query_view}
use Rattle.plural_queries.specs.Queries.{Asks}
use Rattle.plural_queries.specs.declared.error.RunError.{RunError}
use Rattle.plural_queries.proofs.Faults.{fault_of_first, handed_on, no_error, same_error, same_fault}
use Rattle.plural_documents.proofs.InputLemmas.{implied, some_input, without_reading}
use Rattle.plural_queries.proofs.Questions.{needs, needs_input, settled}
use Rattle.plural_commands.proofs.Readings.{faultless, not_blamed, not_written}
use Rattle.plural_commands.proofs.run.run.Goals as goal

pub returns-in_err-query-clause-answers : goal.returns-in_err-query-clause-answers
returns-in_err-query-clause-answers g c =
    let words = map (λ (w : Bor (List ℕ)). w.now) c.args.words.now in
    let input = some_input (g.R.Read.remaining c.args.reader.now) in
    let e = c.in_err-query.field-0.0 in
    let failed : Result Text RunError = Err e in
    let IsAnswer = AnswersWords words input.0 in (
      input.0,
      input.1,
      not_written IsAnswer (g.W.Write.contents c.args.writer.now) e c.from_residual.result
          (handed_on _ _ (err_from_is_err_and c.from_residual.result c.from_residual.ensures.1))
          (without_reading run_origin cow_str_bytes IsAnswer failed
          (fault_of_first (Asks words) (λ query. AnswersQuery query input.0) e c.in_err-query.ensures.query)),
    )

pub returns-in_err-query-clause-reads : goal.returns-in_err-query-clause-reads
returns-in_err-query-clause-reads g c = λ needed.
    let words = map (λ (w : Bor (List ℕ)). w.now) c.args.words.now in
    let left = g.R.Read.remaining c.args.reader.now in
    rw (handed_on _ _ (err_from_is_err_and c.from_residual.result c.from_residual.ensures.1))
    (faultless ⊤ (λ fault. Asks words (Err fault)) left needed.1 c.in_err-query.field-0.0 c.in_err-query.ensures.query)

pub returns-in_err-query-clause-reads_nothing : goal.returns-in_err-query-clause-reads_nothing
returns-in_err-query-clause-reads_nothing g c = λ none.
    let words = map (λ (w : Bor (List ℕ)). w.now) c.args.words.now in (
      refl,
      rw (handed_on _ _ (err_from_is_err_and c.from_residual.result c.from_residual.ensures.1))
          (not_blamed ⊤ (λ fault. Asks words (Err fault)) c.in_err-query.field-0.0 c.in_err-query.ensures.query),
    )

pub returns-in_err-text-clause-answers : goal.returns-in_err-text-clause-answers
returns-in_err-text-clause-answers g c =
    let words = map (λ (w : Bor (List ℕ)). w.now) c.args.words.now in
    let query = query_view c.in_ok-query.query in
    let e = c.in_err-text.field-0.0 in
    let failed : Result Text RunError = Err e in
    let a = c.in_err-text.ensures.answers in (
      a.0,
      a.1,
      not_written (AnswersWords words a.0) (g.W.Write.contents c.args.writer.now) e c.from_residual-in_err-text.result
          (handed_on _ _ (err_from_is_err_and c.from_residual-in_err-text.result c.from_residual-in_err-text.ensures.1))
          (implied run_origin cow_str_bytes (AnswersQuery query a.0) (AnswersWords words a.0)
          (λ answer h. (Ok query, c.in_ok-query.ensures.query.0, h)) failed a.2),
    )

pub returns-in_err-text-clause-reads : goal.returns-in_err-text-clause-reads
returns-in_err-text-clause-reads g c = λ needed.
    let words = map (λ (w : Bor (List ℕ)). w.now) c.args.words.now in
    rw (handed_on _ _ (err_from_is_err_and c.from_residual-in_err-text.result c.from_residual-in_err-text.ensures.1))
    (c.in_err-text.ensures.reads (needs (command_of words) (query_view c.in_ok-query.query) c.in_ok-query.ensures.query.1 needed.0))

pub returns-in_err-text-clause-reads_nothing : goal.returns-in_err-text-clause-reads_nothing
returns-in_err-text-clause-reads_nothing g c = λ none.
    let words = map (λ (w : Bor (List ℕ)). w.now) c.args.words.now in
    let unread = c.in_err-text.ensures.reads_nothing
    (settled (command_of words) (query_view c.in_ok-query.query) c.in_ok-query.ensures.query.1 none) in (
      unread.0,
      rw (handed_on _ _ (err_from_is_err_and c.from_residual-in_err-text.result c.from_residual-in_err-text.ensures.1)) unread.1,
    )

pub returns-in-Ok-clause-answers : goal.returns-in-Ok-clause-answers
returns-in-Ok-clause-answers g c =
    let query = query_view c.in_ok-query.query in
    let a = c.in_ok-text.ensures.answers in (
      a.0,
      a.1,
      (
        c.as_bytes.result.now,
        (
          Ok query,
          c.in_ok-query.ensures.query.0,
          subst (λ (text : List ℕ). AnswersQuery query a.0 (Ok text)) (sym (c.as_bytes.ensures.value ∙ c.as_str.ensures.value)) a.2,
        ),
        search rules,
      ),
    )

pub returns-in-Ok-clause-reads : goal.returns-in-Ok-clause-reads
returns-in-Ok-clause-reads g c = λ needed.
    let words = map (λ (w : Bor (List ℕ)). w.now) c.args.words.now in
    c.in_ok-text.ensures.reads (needs (command_of words) (query_view c.in_ok-query.query) c.in_ok-query.ensures.query.1 needed.0)

pub returns-in-Ok-clause-reads_nothing : goal.returns-in-Ok-clause-reads_nothing
returns-in-Ok-clause-reads_nothing g c = λ none.
    let words = map (λ (w : Bor (List ℕ)). w.now) c.args.words.now in
    c.in_ok-text.ensures.reads_nothing (settled (command_of words) (query_view c.in_ok-query.query) c.in_ok-query.ensures.query.1 none)

pub returns-clause-answers : goal.returns-clause-answers
returns-clause-answers g c =
    let query = query_view c.in_ok-query.query in
    let a = c.in_ok-text.ensures.answers in (
      a.0,
      a.1,
      (
        c.as_bytes.result.now,
        (
          Ok query,
          c.in_ok-query.ensures.query.0,
          subst (λ (text : List ℕ). AnswersQuery query a.0 (Ok text)) (sym (c.as_bytes.ensures.value ∙ c.as_str.ensures.value)) a.2,
        ),
        search rules,
      ),
    )

pub returns-clause-reads : goal.returns-clause-reads
returns-clause-reads g c = λ needed.
    let words = map (λ (w : Bor (List ℕ)). w.now) c.args.words.now in
    c.in_ok-text.ensures.reads (needs (command_of words) (query_view c.in_ok-query.query) c.in_ok-query.ensures.query.1 needed.0)

pub returns-clause-reads_nothing : goal.returns-clause-reads_nothing
returns-clause-reads_nothing g c = λ none.
    let words = map (λ (w : Bor (List ℕ)). w.now) c.args.words.now in
    c.in_ok-text.ensures.reads_nothing (settled (command_of words) (query_view c.in_ok-query.query) c.in_ok-query.ensures.query.1 none)

-- ---- Words that are no command, and memory

pub returns-in_err-query-clause-usage : goal.returns-in_err-query-clause-usage
returns-in_err-query-clause-usage g c =
    let passed = handed_on _ _ (err_from_is_err_and c.from_residual.result c.from_residual.ensures.1) in
    (λ h. c.in_err-query.ensures.usage.0 (same_fault _ _ _ passed h), λ none. passed ∙ same_error (c.in_err-query.ensures.usage.1 none))

pub returns-in_err-query-clause-memory : goal.returns-in_err-query-clause-memory
returns-in_err-query-clause-memory g c = λ h.
    let passed = handed_on _ _ (err_from_is_err_and c.from_residual.result c.from_residual.ensures.1) in
    inl (c.in_err-query.ensures.memory (same_fault _ _ _ passed h))

pub returns-in_err-text-clause-usage : goal.returns-in_err-text-clause-usage
returns-in_err-text-clause-usage g c =
    let passed = handed_on _ _ (err_from_is_err_and c.from_residual-in_err-text.result c.from_residual-in_err-text.ensures.1) in
    (λ h. absurd (c.in_err-text.ensures.not_usage (same_fault _ _ _ passed h)), λ none. absurd (no_error (c.in_ok-query.ensures.usage.1 none)))

pub returns-in_err-text-clause-memory : goal.returns-in_err-text-clause-memory
returns-in_err-text-clause-memory g c = λ h.
    let words = map (λ (w : Bor (List ℕ)). w.now) c.args.words.now in
    let passed = handed_on _ _ (err_from_is_err_and c.from_residual-in_err-text.result c.from_residual-in_err-text.ensures.1) in
    inr (needs_input (command_of words) (query_view c.in_ok-query.query) c.in_ok-query.ensures.query.1
    (c.in_err-text.ensures.memory (same_fault _ _ _ passed h)))

pub returns-in-Ok-clause-usage : goal.returns-in-Ok-clause-usage
returns-in-Ok-clause-usage g c = (λ h. cc, λ none. absurd (no_error (c.in_ok-query.ensures.usage.1 none)))

pub returns-clause-usage : goal.returns-clause-usage
returns-clause-usage g c = (λ h. cc, λ none. absurd (no_error (c.in_ok-query.ensures.usage.1 none)))
