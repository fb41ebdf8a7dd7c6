-- A text behind a space has the tokens of the text.
use Rattle.std.proofs.Common.{ℕ, List, ◌∷◌, [], None, refl}
use Rattle.plural_reference.specs.Lexer.{AreTokensOf, space}
use Rattle.plural_reference.specs.declared.token.Token.{Token}

pub behind_space : (text : List ℕ) (tokens : List Token) → AreTokensOf text tokens → AreTokensOf (32 ∷ text) tokens
behind_space text tokens (pieces, cut, are) =
    ((32 ∷ [], None) ∷ pieces, (text, refl, space refl refl, cut), are)
