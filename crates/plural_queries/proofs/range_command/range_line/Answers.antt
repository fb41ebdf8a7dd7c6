use Rattle.std.proofs.Common.{ap, subst, ◌∙◌}
use Rattle.std.proofs.lemmas.Result.{err_from_is_err_and}
use Rattle.icu_plurals.specs.declared.PluralCategory.{PluralCategory}
use Rattle.icu_plurals.specs.Categories.{name_of}
use Rattle.icu_plurals.specs.DecimalChoice.{HasCategory}
use Rattle.icu_plurals.specs.FiveRules.{FiveRules}
use Rattle.plural_queries.specs.Input.{ranged_for}
use Rattle.plural_queries.specs.QueryViews.{document_view}
use Rattle.plural_queries.specs.Lines.{IsRangeLine, line}
use Rattle.plural_queries.proofs.Faults.{handed_on, lent_line, nothing_given}
use Rattle.plural_queries.proofs.range_command.range_line.Goals as goal

pub returns-in_err-ranged : goal.returns-in_err-ranged
returns-in_err-ranged c =
    nothing_given (IsRangeLine c.args.start.now c.args.end.now)
    (ranged_for c.args.rule_type c.args.locale.now (document_view c.args.document.now))
    c.in_err-ranged.field-0.0 c.from_residual.result
    (handed_on _ _ (err_from_is_err_and c.from_residual.result c.from_residual.ensures.1)) c.in_err-ranged.ensures

pub returns : goal.returns
returns c =
    let start = c.category_for_compact-start in
    let end = c.category_for_compact-end in
    lent_line (IsRangeLine c.args.start.now c.args.end.now)
    (ranged_for c.args.rule_type c.args.locale.now (document_view c.args.document.now)) c.in_ok-ranged.ranged c.line_of.result.now
    c.in_ok-ranged.ensures (
      start.result,
      end.result,
      c.line_of.ensures ∙ ap (λ (category : PluralCategory). line (name_of category)) c.resolve_range-range.ensures,
      subst (λ (rules : FiveRules). HasCategory rules c.args.start.now start.result) c.rules-rules.ensures
          (start.ensures.kept, start.ensures.exact),
      subst (λ (rules : FiveRules). HasCategory rules c.args.end.now end.result) c.rules-rules.ensures
          (end.ensures.kept, end.ensures.exact),
    )
