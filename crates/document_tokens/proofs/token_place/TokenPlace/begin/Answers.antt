use Rattle.std.proofs.Common.{◌≡◌, ◌<◌, ◌≤◌, ◌∷◌, List, length, Bool, true, false, sym, ap, ◌∙◌}
use Rattle.std.specs.Bool.{MatchBool}
use Rattle.document_tokens.specs.Inner.OpenBrackets.{IsRefusedToken, PassesToken, beginning, most_open}
use Rattle.document_tokens.proofs.PlaceLemmas.{begins, no_beginning, one_more, too_deep}
use Rattle.document_tokens.proofs.token_place.TokenPlace.begin.Goals as goal

pub returns : goal.returns
returns c = by c.open.result c.open.new.self c.open.ensures
  where
    by : (opens : Bool) (new : List Bool)
        → MatchBool opens ((length c.args.self.now.«open» < most_open) × (new ≡ c.args.is_object ∷ c.args.self.now.«open»))
        (most_open ≤ length c.args.self.now.«open»)
        → MatchBool opens (PassesToken c.args.self.now (beginning c.args.is_object) record { «open» = new; is_due = false })
        (IsRefusedToken c.args.self.now (beginning c.args.is_object))
    by true new is = (
      λ tokens.
          rw (is.1)
          (begins most_open c.args.is_object c.args.self.now.is_due c.args.self.now.«open» tokens
          (sym c.may_have_value.ensures ∙ c.if-not-may_have_value.false) is.0),
      ap length is.1 ∙ sym (one_more c.args.is_object (length c.args.self.now.«open»)),
    )
    by false new deep = λ tokens comes. too_deep most_open c.args.is_object c.args.self.now.is_due c.args.self.now.«open» tokens deep comes

pub returns-then-not-may_have_value : goal.returns-then-not-may_have_value
returns-then-not-may_have_value c tokens =
    let old = c.args.self.now in
    no_beginning most_open c.args.is_object old.is_due old.«open» tokens (sym c.may_have_value.ensures ∙ c.if-not-may_have_value.true)
