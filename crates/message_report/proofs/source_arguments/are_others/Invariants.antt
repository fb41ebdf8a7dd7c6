use Rattle.std.proofs.Common.{◌≡◌, drop}
use Rattle.serde_json.specs.View.{items_view}
use Rattle.message_report.specs.Inner.NeededRules.{all_pass, is_other_text}
use Rattle.message_report.proofs.source_arguments.are_others.Given as goal

-- all pass if the remaining values do
abbrev pub invariant-loop-value : goal.invariant-loop-value
invariant-loop-value l = all_pass is_other_text (items_view (drop l.value-index l.values)) ≡ all_pass is_other_text (items_view l.values)
