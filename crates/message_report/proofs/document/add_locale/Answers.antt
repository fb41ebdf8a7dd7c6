use Rattle.std.proofs.Common.{refl, subst}
use Rattle.std.specs.Prelude.{Option}
use Rattle.serde_json.specs.Data.{Data}
use Rattle.message_report.specs.FoundInMessages.{messages_together}
use Rattle.message_report.specs.MessagePlaces.{file_locale_place_view}
use Rattle.message_report.specs.MessagesReport.{IsFoundInSourcePart}
use Rattle.message_report.proofs.EachFound.{on_ok}
use Rattle.message_report.proofs.MessagesFound.{two_added}
use Rattle.message_report.proofs.document.add_locale.Goals as goal

pub returns : goal.returns
returns g c =
    let keys = c.in_ok-add_part_keys.ensures in
    let sources = c.in_ok-add_source_part.ensures in
    on_ok c.add_all.result
    (λ added. (
      messages_together keys.0 (messages_together sources.0 added.0),
      (
        keys.0,
        sources.0,
        added.0,
        keys.1,
        subst (λ (part : Option Data). IsFoundInSourcePart (file_locale_place_view c.args.locale) part sources.0) c.get.ensures sources.1,
        added.1,
        refl,
      ),
      two_added c.args.found.now keys.0 (messages_together sources.0 added.0) c.add_part_keys.new.found c.add_all.new.found keys.2
          (two_added c.add_part_keys.new.found sources.0 added.0 c.add_source_part.new.found c.add_all.new.found sources.2 added.2),
    ))
    c.add_all.ensures
