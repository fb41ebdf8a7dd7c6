use Rattle.std.proofs.Common.{List, ap, sym, ◌∙◌}
use Rattle.std.proofs.lemmas.List.{drop_all}
use Rattle.serde_json.specs.View.{items_view}
use Rattle.serde_json.specs.declared.Value.{Value}
use Rattle.message_report.specs.Inner.NeededRules.{all_pass, is_other_text}
use Rattle.message_report.proofs.TextLists.{one_failed, one_passed}
use Rattle.message_report.proofs.source_arguments.are_others.Goals as goal

pub loop-value-preserved : goal.loop-value-preserved
loop-value-preserved c =
    one_passed is_other_text c.args.values.now c.loop-value.value-index c.value-item.result c.value-item.result _ c.loop-value-test.true
    c.value-item.is (sym c.is_other.ensures ∙ c.if-not-is_other.false) c.loop-value.invariant

pub returns-then-not-is_other : goal.returns-then-not-is_other
returns-then-not-is_other c =
    one_failed is_other_text c.args.values.now c.loop-value.value-index c.value-item.result c.value-item.result _ c.loop-value-test.true
    c.value-item.is (sym c.is_other.ensures ∙ c.if-not-is_other.true) c.loop-value.invariant

pub returns : goal.returns
returns c =
    sym (ap (λ (values : List Value). all_pass is_other_text (items_view values))
    (drop_all c.loop-value.value-index c.args.values.now c.loop-value-test.false))
    ∙ c.loop-value.invariant
