use Rattle.std.proofs.Common.{◌≡◌, List, [], ◌∷◌, Bool, true, false, not, refl, sym, ap, ◌∙◌, true≢false}
use Rattle.std.specs.Bool.{MatchBool}
use Rattle.std.specs.Prelude.{is_some}
use Rattle.document_tokens.specs.Inner.OpenBrackets.{Comes, most_open}
use Rattle.document_tokens.specs.Inner.OpenKinds.{innermost}
use Rattle.document_tokens.proofs.OpenLemmas.{not_end}
use Rattle.document_tokens.proofs.token_place.TokenPlace.is_end.Goals as goal

at_end : (opened : List Bool) (is_end : Bool) → is_some (innermost opened) ≡ not is_end
    → MatchBool is_end (Comes most_open [] false opened []) (Comes most_open [] false opened [] → ⊥)
at_end [] true is = refl
at_end [] false is = absurd (true≢false (sym is))
at_end (first ∷ opened) true is = absurd (true≢false is)
at_end (first ∷ opened) false is = not_end most_open [] false (first ∷ opened) (λ due none. absurd (cc))

pub returns-then-not-self : goal.returns-then-not-self
returns-then-not-self c =
    rw (c.if-not-self.true)
    (at_end c.args.self.now.«open» c.is_none.result (ap is_some (sym c.innermost.ensures) ∙ c.is_none.ensures))

pub returns-else-not-self : goal.returns-else-not-self
returns-else-not-self c =
    rw (c.if-not-self.false)
    (not_end most_open [] true c.args.self.now.«open» (λ due none. true≢false due))
