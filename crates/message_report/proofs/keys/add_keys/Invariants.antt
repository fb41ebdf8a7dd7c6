use Rattle.std.proofs.Common.{◌≡◌, ◌+◌, length}
use Rattle.serde_json.specs.View.{members_view}
use Rattle.message_report.specs.FoundInMessages.{messages_together}
use Rattle.message_report.specs.MessagePlaces.{message_place_view}
use Rattle.message_report.specs.MessagesReport.{other_keys}
use Rattle.message_report.proofs.ToldLemmas.{told_from}
use Rattle.message_report.proofs.keys.add_keys.Given as goal

-- what is told of the remaining keys completes what was found so far, and their count the count so
-- far
abbrev pub invariant-loop-key : goal.invariant-loop-key
invariant-loop-key l =
    let place = message_place_view l.place in
    let left = other_keys (members_view l.key-iterator) in
    let all = other_keys (members_view l.members.entries) in
    (messages_together l.found (told_from place l.count left) ≡ messages_together l.initial.found (told_from place 0 all))
    × (l.count + length left ≡ length all)
