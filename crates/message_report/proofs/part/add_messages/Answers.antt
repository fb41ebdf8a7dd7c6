use Rattle.std.proofs.Common.{◌≡◌, refl, subst, sym, true}
use Rattle.serde_json.specs.Data.{Members}
use Rattle.message_report.specs.FoundInMessages.{nothing_found_in_messages}
use Rattle.message_report.specs.Inner.FormSteps.{language_lent, value_lent}
use Rattle.message_report.specs.Inner.NeededRules.{IsFoundInMessagesBy}
use Rattle.message_report.specs.MessagePlaces.{file_locale_place_view}
use Rattle.message_report.proofs.EachFound.{on_ok}
use Rattle.message_report.proofs.MessagesFound.{none_added}
use Rattle.message_report.proofs.PartLemmas.{none_there, under_messages}
use Rattle.message_report.proofs.part.add_messages.Goals as goal

pub returns-then-is_empty : goal.returns-then-is_empty
returns-then-is_empty c =
    let locale = file_locale_place_view c.args.locale in (
      nothing_found_in_messages,
      subst (λ (members : Members).
          IsFoundInMessagesBy (language_lent c.args.language) (value_lent c.args.arguments) c.args.rule_type locale members nothing_found_in_messages)
          (sym (none_there c.args.members.now.entries (c.is_empty.ensures.0 c.if-is_empty.true))) refl,
      none_added c.args.found.now,
    )

pub returns : goal.returns
returns c =
    on_ok c.add_under.result
    (λ added. (
      added.0,
      under_messages c.args.rule_type (file_locale_place_view c.args.locale) c.args.members.now.entries (language_lent c.args.language)
          (value_lent c.args.arguments) added.0
          (λ none. let empty : c.is_empty.result ≡ true = c.is_empty.ensures.1 none in cc c.if-is_empty.false) added.1,
      added.2,
    ))
    c.add_under.ensures
