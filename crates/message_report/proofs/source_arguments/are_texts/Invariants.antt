use Rattle.std.proofs.Common.{◌≡◌, drop}
use Rattle.std.specs.Prelude.{is_some}
use Rattle.serde_json.specs.View.{items_view}
use Rattle.message_report.specs.Inner.NeededRules.{all_pass}
use Rattle.message_report.proofs.source_arguments.are_texts.Given as goal

-- all pass if the remaining values do
abbrev pub invariant-loop-value : goal.invariant-loop-value
invariant-loop-value l = all_pass is_some (items_view (drop l.value-index l.values)) ≡ all_pass is_some (items_view l.values)
