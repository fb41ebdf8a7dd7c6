use Rattle.std.proofs.Common.{ℕ, List, ap, refl, subst, ◌∙◌}
use Rattle.std.specs.Prelude.{Option}
use Rattle.serde_json.specs.Data.{Data}
use Rattle.serde_json.specs.Find.{get}
use Rattle.serde_json.specs.View.{view}
use Rattle.message_report.specs.FoundInMessages.{nothing_found_in_messages}
use Rattle.message_report.specs.Inner.FormSteps.{language_lent}
use Rattle.message_report.specs.Inner.NeededRules.{IsFoundInPartBy}
use Rattle.message_report.specs.MessagePlaces.{file_locale_place_view}
use Rattle.message_report.specs.SourceArguments.{source_name}
use Rattle.message_report.proofs.MessagesFound.{none_added}
use Rattle.message_report.proofs.part.add_part.Goals as goal

pub returns-in-None : goal.returns-in-None
returns-in-None c = (
  nothing_found_in_messages,
  subst (λ (part : Option Data).
      IsFoundInPartBy (language_lent c.args.language) (get source_name (view c.args.value.now)) c.args.rule_type
      (file_locale_place_view c.args.locale) part nothing_found_in_messages)
      (c.in-None.ensures ∙ ap (λ (key : List ℕ). get key (view c.args.value.now)) c.type_name.ensures) refl,
  none_added c.args.found.now,
)
