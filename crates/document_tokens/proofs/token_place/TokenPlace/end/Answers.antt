use Rattle.std.proofs.Common.{length, length-drop, sym, ◌∙◌}
use Rattle.document_tokens.specs.Inner.OpenBrackets.{most_open}
use Rattle.document_tokens.proofs.PlaceLemmas.{ends, no_ending, one_less}
use Rattle.document_tokens.proofs.token_place.TokenPlace.end.Goals as goal

pub returns : goal.returns
returns c =
    let old = c.args.self.now in
    rw (c.close.ensures) (
      λ tokens. ends most_open c.args.is_object old.is_due old.«open» tokens (sym c.goes_on.ensures ∙ c.if-not-goes_on.false),
      length-drop 1 old.«open» ∙ sym (one_less c.args.is_object (length old.«open»)),
    )

pub returns-then-not-goes_on : goal.returns-then-not-goes_on
returns-then-not-goes_on c tokens =
    let old = c.args.self.now in
    no_ending most_open c.args.is_object old.is_due old.«open» tokens (sym c.goes_on.ensures ∙ c.if-not-goes_on.true)
