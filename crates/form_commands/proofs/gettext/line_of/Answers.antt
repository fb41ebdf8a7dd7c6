use Rattle.std.proofs.Common.{◌≡◌, ℕ, List, length, arith, ap, string_bytes, subst, ◌∙◌}
use Rattle.std.proofs.lemmas.Result.{IfOk-weaker}
use Rattle.icu_plurals.specs.FiveRules.{FiveRules, categories_of, rules_of}
use Rattle.icu_plurals.specs.declared.PluralCategory.{PluralCategory}
use Rattle.form_commands.specs.CExpressions.{choice_text}
use Rattle.form_commands.specs.GettextLines.{AreFormsOf, IsGettextLine, conditions_of, line_text}
use Rattle.form_commands.proofs.gettext.line_of.Goals as goal

pub returns : goal.returns
returns c =
    let rules = rules_of c.args.five.now in
    let forms = c.in_ok-forms.forms.items in
    let count : c.len.result ≡ length forms = omega arith in
    let expression : c.as_str.result.now ≡ choice_text 0 (conditions_of rules forms) =
    c.as_str.ensures.value ∙ c.in_ok-expression.ensures
    ∙ ap (λ (cs : List PluralCategory). choice_text 0 (conditions_of rules cs)) c.as_slice.ensures.value in
    let same : c.from_data-rules.result ≡ rules = c.from_data-rules.ensures ∙ ap rules_of c.as_borrowed.ensures in
    let are : AreFormsOf rules (categories_of rules) forms =
    subst (λ (r : FiveRules). AreFormsOf r (categories_of r) forms) same c.in_ok-forms.ensures in
    IfOk-weaker c.line_text.result (λ s. string_bytes s ≡ line_text c.len.result c.as_str.result.now)
    (λ s. IsGettextLine rules (string_bytes s))
    (λ s wrote. (
      forms,
      are,
      wrote ∙ ap (λ (n : ℕ). line_text n c.as_str.result.now) count ∙ ap (line_text (length forms)) expression,
    )) c.line_text.ensures
