use Rattle.std.proofs.Common.{◌≡◌, true, inl, inr, refl}
use Rattle.message_report.specs.FoundInMessages.{message_fault_at, nothing_found_in_messages}
use Rattle.message_report.specs.MessagePlaces.{at_source, file_locale_place_view}
use Rattle.message_report.specs.declared.cause.Cause.TheVariants.{NoTextList}
use Rattle.message_report.proofs.EachFound.{on_ok}
use Rattle.message_report.proofs.MessagesFound.{none_added}
use Rattle.message_report.proofs.source_part.SourceCheckMemberCheckFound.add.Goals as goal

pub returns-then-is_text_list : goal.returns-then-is_text_list
returns-then-is_text_list c = (
  nothing_found_in_messages,
  inl (c.is_text_list.ensures.0 c.if-is_text_list.true, refl),
  none_added c.args.found.now,
)

pub returns : goal.returns
returns c =
    on_ok c.add_fault.result
    (λ added. (
      message_fault_at (at_source (file_locale_place_view c.args.self.now.locale) c.args.key.now) NoTextList,
      inr (
        (λ list. let yes : c.is_text_list.result ≡ true = c.is_text_list.ensures.1 list in cc c.if-is_text_list.false),
        refl,
      ),
      added,
    ))
    c.add_fault.ensures
