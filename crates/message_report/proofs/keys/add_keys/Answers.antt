use Rattle.std.proofs.Common.{ℕ, ◌+◌, List, string_bytes, length, ap, sym, ◌∙◌, arith}
use Rattle.serde_json.specs.Data.{Members}
use Rattle.serde_json.specs.View.{view, members_view}
use Rattle.message_report.specs.FoundInMessages.{messages_together}
use Rattle.message_report.specs.MessagePlaces.{message_place_view}
use Rattle.message_report.specs.MessagesReport.{other_keys}
use Rattle.message_report.specs.Inner.ToldKeys.{count_at, told_unless_form}
use Rattle.message_report.proofs.ToldLemmas.{next_count, next_key, told_from}
use Rattle.message_report.proofs.keys.add_keys.Goals as goal

pub loop-key-init : goal.loop-key-init
loop-key-init c =
    let whole = ap members_view (c.into_iter-key-iterator.ensures.into_iter_gives ∙ c.iter-key-items.ensures.rest) in (
      ap (λ (ms : Members). messages_together c.args.found.now (told_from (message_place_view c.args.place) 0 (other_keys ms))) whole,
      ap (λ (ms : Members). 0 + length (other_keys ms)) whole ∙ omega arith,
    )

pub loop-key-preserved : goal.loop-key-preserved
loop-key-preserved c =
    let key = string_bytes c.in-Some.key.now in
    let value = view c.in-Some.field-0-1.now in
    let left = members_view c.next.new.self in
    let now = c.loop-key.found in
    let count = c.loop-key.count in
    let counted = c.in_ok-count.ensures.count ∙ ap (λ (k : List ℕ). count_at count k) c.as_str.ensures.value in
    let step = ap members_view c.in-Some.ensures.steps in (
      next_key (message_place_view c.args.place) count c.in_ok-count.count key value left now c.add_key.new.found _ counted
          (c.in_ok-count.ensures.found
          ∙ ap (λ (k : List ℕ). messages_together now (told_unless_form (message_place_view c.args.place) count k)) c.as_str.ensures.value)
          (ap (λ (ms : Members). messages_together now (told_from (message_place_view c.args.place) count (other_keys ms))) (sym step)
          ∙ c.loop-key.invariant.0),
      next_count count key value left c.in_ok-count.count _ counted
          (ap (λ (ms : Members). count + length (other_keys ms)) (sym step) ∙ c.loop-key.invariant.1),
    )
