-- What a call that reads may return: what its definition says, or out of memory.
use Rattle.std.specs.Prelude.{◌≡◌, ◌⊎◌, List, ℕ, Result, Ok, Err}
use Rattle.plural_reference.specs.declared.error.ParseError.{ParseError}
use Rattle.plural_reference.specs.declared.error.ReadError.{ReadError}
use Rattle.plural_reference.specs.declared.error.ReadError.TheVariants.{Parse, Memory}
use Rattle.plural_reference.specs.declared.token.Token.{Token}
use Rattle.plural_reference.specs.Lexer.{AreTokensOf}

-- the result is this one, unless memory ran out
abbrev pub AnswersUnlessMemory : {A : Type 0} → Result A ReadError → Result A ReadError → Type 0
AnswersUnlessMemory r answer = (r ≡ answer) ⊎ (r ≡ Err Memory)

-- the error is a fault that the text has, or out of memory
abbrev pub IsFault : (ParseError → Type 0) → ReadError → Type 0
IsFault Fault (Parse kind) = Fault kind
IsFault Fault Memory = Unit {0}

-- what is returned has been read, or the error is such a fault or out of memory
abbrev pub IsAnswer : {A : Type 0} → (A → Type 0) → (ParseError → Type 0) → Result A ReadError → Type 0
IsAnswer Read Fault (Ok x) = Read x
IsAnswer Read Fault (Err e) = IsFault Fault e

-- x is returned if and only if it is read from the tokens, and a fault if and only if they have it,
-- out of memory aside
pub record AnswersExactly {A : Type 0} (Read : List Token → A → Type 0) (Fault : List Token → ParseError → Type 0)
    (text : List ℕ) (r : Result A ReadError) : Type 0 where
  pub only : (tokens : List Token) → AreTokensOf text tokens → IsAnswer (Read tokens) (Fault tokens) r
  pub read : (tokens : List Token) (x : A) → AreTokensOf text tokens → Read tokens x → AnswersUnlessMemory r (Ok x)
  pub fault : (tokens : List Token) (kind : ParseError) → AreTokensOf text tokens → Fault tokens kind
      → AnswersUnlessMemory r (Err (Parse kind))
