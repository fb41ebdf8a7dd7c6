use Rattle.std.proofs.Common.{string_bytes, ap, ◌++◌, ◌∙◌, List, ℕ, refl, subst}
use Rattle.form_commands.specs.FormLines.{IsSamplesOf, wholes_text}
use Rattle.form_commands.specs.Inner.ConditionSteps.{Grows}
use Rattle.form_commands.proofs.FormLemmas.{form_grown}
use Rattle.std.specs.Prelude.{Option}
use Rattle.form_commands.proofs.list.push_form.Goals as goal

pub returns : goal.returns
returns c =
    let two = c.args.two in
    form_grown c.args.language.now c.args.category (string_bytes c.args.text.now) (string_bytes c.push_str.new.self)
    (string_bytes c.push_str-2.new.self) (string_bytes c.push_str-3.new.self) (string_bytes c.push_samples_of.new.text)
    (string_bytes c.push_str-4.new.self)
    (c.in_ok-push_str.ensures.bytes ∙ ap (λ (name : List ℕ). string_bytes c.args.text.now ++ name) c.name_of.ensures)
    c.in_ok-push_str-2.ensures.bytes (
      wholes_text two.first two.second,
      (two.first, two.second, c.requires, refl),
      c.in_ok-push_str-3.ensures.bytes
          ∙ ap (λ (bytes : List ℕ). string_bytes c.push_str-2.new.self ++ bytes) (c.as_str.ensures.value ∙ c.in_ok-wholes.ensures),
    )
    (subst (λ (rule : Option (List ℕ)). Grows (IsSamplesOf rule) (string_bytes c.push_str-3.new.self)
    (string_bytes c.push_samples_of.new.text))
    c.text_under.ensures c.in_ok-push_samples_of.ensures)
    c.in_ok-push_str-4.ensures.bytes
