use Rattle.std.proofs.Common.{refl, sym, ◌∙◌}
use Rattle.document_tokens.specs.Inner.OpenBrackets.{most_open}
use Rattle.document_tokens.proofs.PlaceLemmas.{keys, no_key}
use Rattle.document_tokens.proofs.token_place.TokenPlace.pass_key.Goals as goal

pub returns : goal.returns
returns c =
    let old = c.args.self.now in (
      λ tokens. keys most_open c.args.name.now old.is_due old.«open» tokens (sym c.goes_on.ensures ∙ c.if-not-goes_on.false),
      refl,
    )

pub returns-then-not-goes_on : goal.returns-then-not-goes_on
returns-then-not-goes_on c tokens =
    let old = c.args.self.now in
    no_key most_open c.args.name.now old.is_due old.«open» tokens (sym c.goes_on.ensures ∙ c.if-not-goes_on.true)
