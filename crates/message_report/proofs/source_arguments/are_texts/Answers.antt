use Rattle.std.proofs.Common.{List, ap, sym, ◌∙◌}
use Rattle.std.proofs.lemmas.List.{drop_all}
use Rattle.std.specs.Prelude.{is_some}
use Rattle.serde_json.specs.View.{items_view}
use Rattle.serde_json.specs.declared.Value.{Value}
use Rattle.message_report.specs.Inner.NeededRules.{all_pass}
use Rattle.message_report.proofs.TextLists.{one_failed, one_passed}
use Rattle.message_report.proofs.source_arguments.are_texts.Goals as goal

pub loop-value-preserved : goal.loop-value-preserved
loop-value-preserved c =
    one_passed is_some c.args.values.now c.loop-value.value-index c.value-item.result c.value-item.result _ c.loop-value-test.true
    c.value-item.is (sym c.is_string.ensures ∙ c.if-not-is_string.false) c.loop-value.invariant

pub returns-then-not-is_string : goal.returns-then-not-is_string
returns-then-not-is_string c =
    one_failed is_some c.args.values.now c.loop-value.value-index c.value-item.result c.value-item.result _ c.loop-value-test.true
    c.value-item.is (sym c.is_string.ensures ∙ c.if-not-is_string.true) c.loop-value.invariant

pub returns : goal.returns
returns c =
    sym (ap (λ (values : List Value). all_pass is_some (items_view values))
    (drop_all c.loop-value.value-index c.args.values.now c.loop-value-test.false))
    ∙ c.loop-value.invariant
