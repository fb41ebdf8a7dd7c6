use Rattle.std.proofs.Common.{◌≡◌, ℕ, List, [], ◌++◌, codes, string_bytes, inl, inr, refl, sym, ap, ◌∙◌, subst, rules}
use Rattle.std.proofs.lemmas.List.{append-nil}
use Rattle.std.specs.Option.{option_copied}
use Rattle.icu_plurals.specs.Lexer.{AreTokensOf}
use Rattle.icu_plurals.specs.Serializer.{prefixed, samples_text}
use Rattle.icu_plurals.specs.declared.provider.rules.reference.ast.Samples.{Samples}
use Rattle.std.specs.Prelude.{Option}
use Rattle.form_commands.specs.FormLines.{IsSamplesText}
use Rattle.form_commands.specs.Inner.ConditionSteps.{Grows}
use Rattle.form_commands.proofs.FormLemmas.{on_ok}
use Rattle.form_commands.proofs.list.push_samples_in.Goals as goal

pub returns-in-Ok : goal.returns-in-Ok
returns-in-Ok c =
    let tokens = c.one_list_of_tokens.ensures c.as_bytes.result.now in
    let old = string_bytes c.args.text.now in
    let new = string_bytes c.push_samples.new.text in
    let text = prefixed (codes ";") samples_text c.in-Ok.rule.samples in
    let same : option_copied c.as_ref.result ≡ c.in-Ok.rule.samples = search rules in
    on_ok {P = new ≡ old ++ prefixed (codes ";") samples_text (option_copied c.as_ref.result)}
    {Q = Grows (IsSamplesText c.args.rule.now) old new}
    c.push_samples.result
    (λ grown. (
      text,
      inl (
        c.in-Ok.rule,
        (
          tokens.0,
          subst (λ (t : List ℕ). AreTokensOf t tokens.0) c.as_bytes.ensures.value tokens.1,
          c.in-Ok.ensures.only tokens.0
              tokens.1,
        ),
        refl,
      ),
      grown ∙ ap (λ (s : Option Samples). old ++ prefixed (codes ";") samples_text s) same,
    )) c.push_samples.ensures

pub returns-in-Err-Parse : goal.returns-in-Err-Parse
returns-in-Err-Parse c =
    let tokens = c.one_list_of_tokens.ensures c.as_bytes.result.now in (
      [],
      inr (
        c.in-Err-Parse.field-0-0,
        (
          tokens.0,
          subst (λ (t : List ℕ). AreTokensOf t tokens.0) c.as_bytes.ensures.value tokens.1,
          rw c.in-Err-Parse.field-0-is at (c.in-Err-Parse.ensures.only tokens.0 tokens.1),
        ),
        refl,
      ),
      sym (append-nil (string_bytes c.args.text.now)),
    )
