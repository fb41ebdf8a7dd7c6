use Rattle.std.proofs.Common.{List, ap, ◌∙◌}
use Rattle.serde_json.specs.View.{items_view, view}
use Rattle.serde_json.specs.declared.Value.{Value}
use Rattle.message_report.specs.Inner.NeededRules.{all_pass, is_other_text}
use Rattle.message_report.proofs.TextLists.{no_list, without_number_if}
use Rattle.message_report.proofs.source_arguments.is_without_number.Goals as goal

pub returns-in-Some : goal.returns-in-Some
returns-in-Some c =
    without_number_if (view c.args.value.now) (items_view c.in-Some.items.now.items) c.are_others.result c.in-Some.ensures
    (c.are_others.ensures ∙ ap (λ (values : List Value). all_pass is_other_text (items_view values)) c.as_slice.ensures.value)

pub returns-in-None : goal.returns-in-None
returns-in-None c = ((λ yes. cc), (λ list. absurd (no_list (view c.args.value.now) list.0 c.in-None.ensures list.1)))
