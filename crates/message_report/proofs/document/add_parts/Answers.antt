use Rattle.std.proofs.Common.{refl, subst}
use Rattle.std.specs.Prelude.{Option}
use Rattle.serde_json.specs.Find.{get}
use Rattle.serde_json.specs.View.{view}
use Rattle.icu_plurals.specs.declared.PluralRuleType.TheVariants.{Cardinal, Ordinal}
use Rattle.message_report.specs.FoundInMessages.{messages_together}
use Rattle.message_report.specs.FormFaults.{Language}
use Rattle.message_report.specs.Inner.NeededRules.{IsFoundInPartBy}
use Rattle.message_report.specs.MessagePlaces.{file_locale_place_view, type_name}
use Rattle.message_report.specs.SourceArguments.{source_name}
use Rattle.message_report.proofs.EachFound.{on_ok}
use Rattle.message_report.proofs.MessagesFound.{two_added}
use Rattle.message_report.proofs.document.add_parts.Goals as goal

pub returns : goal.returns
returns c =
    let value = view c.args.value.now in
    let locale = file_locale_place_view c.args.locale in
    let cardinal = c.in_ok-add_part.ensures in
    on_ok c.add_part-2.result
    (λ added. (
      messages_together cardinal.0 added.0,
      (
        cardinal.0,
        added.0,
        subst (λ (l : Option Language). IsFoundInPartBy l (get source_name value) Cardinal locale
            (get (type_name Cardinal) value) cardinal.0)
            c.of.ensures cardinal.1,
        subst (λ (l : Option Language). IsFoundInPartBy l (get source_name value) Ordinal locale (get (type_name Ordinal) value) added.0)
            c.of-2.ensures added.1,
        refl,
      ),
      two_added c.args.found.now cardinal.0 added.0 c.add_part.new.found c.add_part-2.new.found cardinal.2 added.2,
    ))
    c.add_part-2.ensures
