use Rattle.std.proofs.Common.{refl, subst}
use Rattle.std.specs.Prelude.{Option}
use Rattle.serde_json.specs.Data.{Data}
use Rattle.message_report.specs.FoundInMessages.{nothing_found_in_messages}
use Rattle.message_report.specs.Inner.ArgumentViews.{languages_view}
use Rattle.message_report.specs.Inner.NeededRules.{IsFoundInPatternsPartBy}
use Rattle.message_report.specs.MessagePlaces.{file_locale_place_view}
use Rattle.message_report.proofs.MessagesFound.{none_added}
use Rattle.message_report.proofs.patterns.add_patterns.Goals as goal

pub returns-in-None : goal.returns-in-None
returns-in-None c = (
  nothing_found_in_messages,
  subst (λ (part : Option Data).
      IsFoundInPatternsPartBy (languages_view c.args.languages.now) (file_locale_place_view c.args.locale) part nothing_found_in_messages)
      c.in-None.ensures refl,
  none_added c.args.found.now,
)
