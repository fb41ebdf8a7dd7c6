use Rattle.std.proofs.Common.{Ok, sym, ap, ◌∙◌}
use Rattle.std.proofs.lemmas.Result.{err_from_is_err_and}
use Rattle.plural_queries.specs.Input.{rules_for}
use Rattle.plural_queries.specs.QueryViews.{document_view}
use Rattle.plural_queries.specs.Lines.{IsCategoryLine}
use Rattle.plural_queries.proofs.Faults.{handed_on, lent_line, nothing_given}
use Rattle.plural_queries.proofs.category_command.category_line.Goals as goal

pub returns-in_err-rules_for : goal.returns-in_err-rules_for
returns-in_err-rules_for c =
    nothing_given (IsCategoryLine c.args.number.now)
    (rules_for c.args.rule_type c.args.locale.now (document_view c.args.document.now))
    c.in_err-rules_for.field-0.0 c.from_residual.result
    (handed_on _ _ (err_from_is_err_and c.from_residual.result c.from_residual.ensures.1)) c.in_err-rules_for.ensures

pub returns : goal.returns
returns c =
    lent_line (IsCategoryLine c.args.number.now)
    (rules_for c.args.rule_type c.args.locale.now (document_view c.args.document.now)) c.from_data-rules.result c.line_of.result.now
    (c.in_ok-rules_for.ensures ∙ ap Ok (sym c.from_data-rules.ensures)) (
      c.category_for_compact-category.result,
      c.line_of.ensures,
      (c.category_for_compact-category.ensures.kept, c.category_for_compact-category.ensures.exact),
    )
