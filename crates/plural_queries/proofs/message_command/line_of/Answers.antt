use Rattle.std.proofs.Common.{◌≡◌, Ok, ap, refl, subst, ◌∙◌}
use Rattle.std.specs.Prelude.{string_bytes}
use Rattle.icu_plurals.specs.Elements.{IsExactElement, IsKeptElement, Elements}
use Rattle.icu_plurals.specs.PackedElements.{PackedValue, elements_of as values_of}
use Rattle.plural_message.specs.Messages.{IsMessageWith}
use Rattle.plural_queries.specs.QueryViews.{elements_view}
use Rattle.plural_queries.specs.Lines.{IsMessageLine, line}
use Rattle.plural_queries.proofs.Faults.{line_given}
use Rattle.plural_queries.proofs.message_command.line_of.Goals as goal

pub returns-in-Ok : goal.returns-in-Ok
returns-in-Ok c =
    let given = elements_view c.args.given.now in
    let x = c.args.number.now in
    let word = c.args.word.now in
    let text = string_bytes c.in-Ok.text in
    let same : c.new-message.result ≡ values_of given.elements = c.new-message.ensures ∙ ap values_of c.as_packed.ensures in
    line_given (IsMessageLine x word) (Ok given) given (line text) c.ended.result refl (
      text,
      refl,
      subst (λ (e : Elements PackedValue). IsMessageWith (IsKeptElement e given.rules) x word text) same c.in-Ok.ensures.kept,
      subst (λ (e : Elements PackedValue). IsMessageWith (IsExactElement e given.rules) x word text) same c.in-Ok.ensures.exact,
    )
    c.ended.ensures
