use Rattle.std.proofs.Common.{ℕ, List, Option, sym, ap, ◌∙◌, string_bytes}
use Rattle.std.specs.Prelude.{◌||◌, bytes_eq, not}
use Rattle.serde_json.specs.Data.{Data, Members}
use Rattle.serde_json.specs.Find.{get_member}
use Rattle.serde_json.specs.View.{view, members_view}
use Rattle.message_report.specs.Inner.FormValues.{first_of, under_key, value_of_form}
use Rattle.message_report.specs.MessageForms.{form_name, is_form_name}
use Rattle.message_report.specs.MessagesReport.{other_keys}
use Rattle.message_report.proofs.FormValueLemmas.{next_other, next_value}
use Rattle.message_report.proofs.form_values.FormValues.of.Goals as goal

pub loop-key-init : goal.loop-key-init
loop-key-init c =
    let whole = ap members_view (c.into_iter-key-iterator.ensures.into_iter_gives ∙ c.iter-key-items.ensures.rest) in (
      (λ form.
          ap (λ (found : Option Data). first_of found (get_member (form_name form) (members_view c.into_iter-key-iterator.result)))
          (c.none-values.ensures.values form)
          ∙ ap (λ (ms : Members). get_member (form_name form) ms) whole),
      (λ none. ap other_keys whole),
    )

pub loop-key-preserved : goal.loop-key-preserved
loop-key-preserved c =
    let key = string_bytes c.in-Some.key.now in
    let value = view c.in-Some.value.now in
    let left = members_view c.next.new.self in
    let step = ap members_view c.in-Some.ensures.steps in (
      (λ form.
          next_value (form_name form) key value left (value_of_form form c.loop-key.values) (value_of_form form c.put.new.self) _
          (c.put.ensures.values form
          ∙ ap (λ (k : List ℕ). first_of (value_of_form form c.loop-key.values) (under_key (bytes_eq (form_name form) k) value))
          c.as_str.ensures.value)
          (ap (λ (ms : Members). first_of (value_of_form form c.loop-key.values) (get_member (form_name form) ms)) (sym step)
          ∙ c.loop-key.invariant.0 form)),
      next_other key value left c.loop-key.values.has_other_keys c.put.new.self.has_other_keys _
          (c.put.ensures.keys
          ∙ ap (λ (k : List ℕ). c.loop-key.values.has_other_keys || not (is_form_name k)) c.as_str.ensures.value)
          (λ none. ap other_keys (sym step) ∙ c.loop-key.invariant.1 none),
    )
