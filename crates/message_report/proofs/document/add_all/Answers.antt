use Rattle.std.proofs.Common.{refl}
use Rattle.serde_json.specs.View.{view}
use Rattle.message_report.specs.FoundInMessages.{messages_together}
use Rattle.message_report.specs.Inner.ArgumentViews.{languages_view}
use Rattle.message_report.specs.MessagePlaces.{file_locale_place_view}
use Rattle.message_report.proofs.EachFound.{on_ok}
use Rattle.message_report.proofs.MessagesFound.{two_added}
use Rattle.message_report.proofs.PartLemmas.{by_both, by_needed}
use Rattle.message_report.proofs.document.add_all.Goals as goal

pub returns : goal.returns
returns g c =
    let source = g.S.RulesOfLocales.source c.args.source.now in
    let locale = file_locale_place_view c.args.locale in
    let value = view c.args.value.now in
    let two = languages_view c.needed-languages.result in
    let both = c.in_ok-add_parts.ensures in
    on_ok c.add_patterns.result
    (λ added. (
      messages_together both.0 added.0,
      (
        both.0,
        added.0,
        by_both source locale value two both.0 c.needed-languages.ensures both.1,
        by_needed source locale value two added.0 c.needed-languages.ensures added.1,
        refl,
      ),
      two_added c.args.found.now both.0 added.0 c.add_parts.new.found c.add_patterns.new.found both.2 added.2,
    ))
    c.add_patterns.ensures
