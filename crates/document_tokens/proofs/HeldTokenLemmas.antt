-- What is held of a token that comes.
use Rattle.std.proofs.Common.{◌≡◌, Bool, true, false, Some, None}
use Rattle.std.specs.Bool.{MatchBool}
use Rattle.std.specs.Prelude.{Option, MatchOption, if◌then◌else◌}
use Rattle.json.specs.Token.{Token}
use Rattle.document_tokens.specs.Inner.HeldParts.{IsHeldAt, IsUnfit, fits}
use Rattle.document_tokens.specs.HeldTokens.{held_of, held_token}
use Rattle.document_tokens.specs.Inner.OpenBrackets.{IsRefusedToken, PassesToken}
use Rattle.document_tokens.specs.declared.held_token.HeldToken.{HeldToken}
use Rattle.document_tokens.specs.declared.token_place.TokenPlace.{TokenPlace}

pub held_if_it_comes : (comes : Bool) (old : TokenPlace) (t : Token) (new : TokenPlace) (held : HeldToken) (result : Option HeldToken)
    → MatchBool comes (PassesToken old t new) (IsRefusedToken old t) → fits t ≡ true → held_token held ≡ held_of t
    → result ≡ (if comes then Some held else None) → MatchOption result (IsUnfit old t) (λ h. IsHeldAt old t new (held_token h))
held_if_it_comes true old t new held result passes fit same is = rw (is) (passes, fit, same)
held_if_it_comes false old t new held result refused fit same is = rw (is) (λ tokens comes fits_too. refused tokens comes)
