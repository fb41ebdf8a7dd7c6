use Rattle.std.proofs.Common.{length, sym, ◌∙◌}
use Rattle.document_tokens.specs.Inner.OpenBrackets.{most_open}
use Rattle.document_tokens.proofs.PlaceLemmas.{as_many, no_scalar, scalars}
use Rattle.document_tokens.proofs.token_place.TokenPlace.pass_scalar.Goals as goal

pub returns : goal.returns
returns c token is =
    let old = c.args.self.now in (
      λ tokens. scalars most_open token old.is_due old.«open» tokens is (sym c.may_have_value.ensures ∙ c.if-not-may_have_value.false),
      sym (as_many token (length old.«open») is),
    )

pub returns-then-not-may_have_value : goal.returns-then-not-may_have_value
returns-then-not-may_have_value c token is tokens =
    let old = c.args.self.now in
    no_scalar most_open token old.is_due old.«open» tokens is (sym c.may_have_value.ensures ∙ c.if-not-may_have_value.true)
