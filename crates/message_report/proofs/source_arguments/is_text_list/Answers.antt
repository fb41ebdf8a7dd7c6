use Rattle.std.proofs.Common.{List, ap, ◌∙◌}
use Rattle.std.specs.Prelude.{is_some}
use Rattle.serde_json.specs.View.{items_view, view}
use Rattle.serde_json.specs.declared.Value.{Value}
use Rattle.message_report.specs.Inner.NeededRules.{all_pass}
use Rattle.message_report.proofs.TextLists.{no_list, text_list_if}
use Rattle.message_report.proofs.source_arguments.is_text_list.Goals as goal

pub returns-in-Some : goal.returns-in-Some
returns-in-Some c =
    text_list_if (view c.args.value.now) (items_view c.in-Some.items.now.items) c.are_texts.result c.in-Some.ensures
    (c.are_texts.ensures ∙ ap (λ (values : List Value). all_pass is_some (items_view values)) c.as_slice.ensures.value)

pub returns-in-None : goal.returns-in-None
returns-in-None c = ((λ yes. cc), (λ list. absurd (no_list (view c.args.value.now) list.0 c.in-None.ensures list.1)))
