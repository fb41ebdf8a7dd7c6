-- Not a definition of the subject: the token at the front of a text, for the private contracts that
-- tell it by its bytes.
use Rattle.std.specs.Prelude.{ℕ, ◌≡◌, ◌≢◌, List, ◌∷◌, Option, Some, MatchOption}
use Rattle.std.specs.Borrow.{Bor}
use Rattle.plural_reference.specs.declared.token.Token.{Token}
use Rattle.plural_reference.specs.Lexer.{blank, first}
use Rattle.plural_reference.specs.Inner.Scan.{tokens_of}

-- no space stands before the first token
abbrev pub BeginsAtToken : List ℕ → Type 0
BeginsAtToken text = first text ≢ Some blank

-- the text begins with the token, and these bytes follow it, if there are any
abbrev pub IsBehind : List ℕ → Token → Option (Bor (List ℕ)) → Type 0
IsBehind text t rest = MatchOption rest (first (tokens_of text) ≢ Some t) (λ after. tokens_of text ≡ t ∷ tokens_of after.now)
