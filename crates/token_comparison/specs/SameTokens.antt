-- Texts that have the same tokens.
--     HaveSameTokens text other      there is one list of tokens, which both have
--     HaveOtherTokens text other      they have different lists
use Rattle.std.specs.Prelude.{◌≢◌, ℕ, List}
use Rattle.plural_reference.specs.Lexer.{AreTokensOf}
use Rattle.plural_reference.specs.declared.token.Token.{Token}

-- the two texts have the same tokens
abbrev pub HaveSameTokens : List ℕ → List ℕ → Type 0
HaveSameTokens text other = (tokens : List Token) × AreTokensOf text tokens × AreTokensOf other tokens

-- the two texts have different tokens
abbrev pub HaveOtherTokens : List ℕ → List ℕ → Type 0
HaveOtherTokens text other =
    (tokens others : List Token) × AreTokensOf text tokens × AreTokensOf other others × (tokens ≢ others)
