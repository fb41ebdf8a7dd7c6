-- What a text says as a `Plural-Forms`, which fault it has, and what the reader may return.
--     IsPluralForms text forms
--     HasPluralFormsFault text kind place
--     ParsesExactly text r
use Rattle.std.specs.Prelude.{◌≡◌, ◌⊎◌, ℕ, ◌-◌, ◌<◌, ◌≤◌, List, [], ◌∷◌, ◌++◌, length, Bool, true, false, cond, Result, Ok, Err}
use Rattle.gettext_plural.specs.declared.error.FaultKind.{FaultKind}
use Rattle.gettext_plural.specs.declared.error.FaultKind.TheVariants.{TooLong, ExpectedOperand, ExpectedOperator, Unfinished}
use Rattle.gettext_plural.specs.declared.error.PluralFormsError as error
use Rattle.gettext_plural.specs.declared.error.PluralFormsError.TheVariants as errors
use Rattle.gettext_plural.specs.declared.forms.TheConstants.{SIZE_LIMIT}
use Rattle.gettext_plural.specs.declared.header.TheConstants.{FORMS_LIMIT}
use Rattle.gettext_plural.specs.declared.token.Token.{Token}
use Rattle.gettext_plural.specs.declared.token.Token.TheVariants.{Number, N, Close}
use Rattle.gettext_plural.specs.PluralTokens.{AreFormulaTokensOf, PassesTokens}
use Rattle.gettext_plural.specs.PluralExpressions.{Formula, Forms, IsPluralExpression, Spells}
use Rattle.gettext_plural.specs.PluralHeaders.{header}

-- the text says this: it isn't too long, and an expression follows what stands before it
pub record IsPluralForms (text : List ℕ) (forms : Forms) : Type 0 where
  pub short : length text ≤ SIZE_LIMIT
  pub rest : List ℕ
  pub begins : header text ≡ Ok (forms.count, rest)
  pub spelled : IsPluralExpression rest forms.formula

-- ---- The fault of an expression

-- an operand ends with the token
abbrev pub ends_operand : Token → Bool
ends_operand (Number k) = true
ends_operand N = true
ends_operand Close = true
ends_operand _ = false

-- the tokens end with an operand
abbrev pub end_in_operand : List Token → Bool
end_in_operand [] = false
end_in_operand (t ∷ []) = ends_operand t
end_in_operand (t ∷ u ∷ ts) = end_in_operand (u ∷ ts)

-- what is missing behind the tokens, before what follows
abbrev pub behind_operand : List Token → FaultKind
behind_operand [] = Unfinished
behind_operand (t ∷ ts) = ExpectedOperator

abbrev pub missing : List Token → List Token → FaultKind
missing before more = cond (end_in_operand before) (behind_operand more) ExpectedOperand

-- no expression begins with these tokens and the one that follows them; or, at the end, they are none
abbrev pub NoneGoesOn : List Token → List Token → Type 0
NoneGoesOn before [] = (e : Formula) → Spells 0 before e → ⊥
NoneGoesOn before (t ∷ more) = (behind : List Token) (e : Formula) → Spells 0 (before ++ t ∷ behind) e → ⊥

-- an expression begins with these tokens
pub record BeginsExpression (before : List Token) : Type 0 where
  pub behind : List Token
  pub formula : Formula
  pub spelled : Spells 0 (before ++ behind) formula

-- the text is no expression: where so many bytes are left, it has the first token with which the
-- tokens are no longer those that an expression begins with
pub record HasExpressionFault (text : List ℕ) (kind : FaultKind) (left : ℕ) : Type 0 where
  pub before : List Token
  pub more : List Token
  pub rest : List ℕ
  pub passed : PassesTokens text before rest
  pub remains : left ≡ length rest
  pub there : AreFormulaTokensOf rest more
  pub begins : BeginsExpression before
  pub stops : NoneGoesOn before more
  pub kind_is : kind ≡ missing before more

-- ---- The fault of a text

-- an expression with a fault follows what stands before it
pub record HasFaultBehind (text : List ℕ) (kind : FaultKind) (left : ℕ) : Type 0 where
  pub count : ℕ
  pub rest : List ℕ
  pub begins : header text ≡ Ok (count, rest)
  pub fault : HasExpressionFault rest kind left

-- where so many bytes are left, the text doesn't go on as a `Plural-Forms`
abbrev pub HasFaultBefore : List ℕ → FaultKind → ℕ → Type 0
HasFaultBefore text kind left = (header text ≡ Err (record { kind = kind; left = left })) ⊎ HasFaultBehind text kind left

pub record HasFaultWithin (text : List ℕ) (kind : FaultKind) (place : ℕ) : Type 0 where
  pub short : length text ≤ SIZE_LIMIT
  pub left : ℕ
  pub stops : HasFaultBefore text kind left
  pub place_is : place ≡ length text - left

abbrev pub IsTooLong : List ℕ → FaultKind → ℕ → Type 0
IsTooLong text kind place = (SIZE_LIMIT < length text) × (kind ≡ TooLong) × (place ≡ SIZE_LIMIT)

-- the text has this fault, at this byte
abbrev pub HasPluralFormsFault : List ℕ → FaultKind → ℕ → Type 0
HasPluralFormsFault text kind place = IsTooLong text kind place ⊎ HasFaultWithin text kind place

-- ---- What is returned

abbrev pub IsFaultOf : List ℕ → error.PluralFormsError → Type 0
IsFaultOf text errors.Memory = Unit {0}
IsFaultOf text (errors.Fault kind place) = HasPluralFormsFault text kind place × (place ≤ length text)

abbrev pub IsWhatIsSaid : List ℕ → Result Forms error.PluralFormsError → Type 0
IsWhatIsSaid text (Ok forms) = IsPluralForms text forms
IsWhatIsSaid text (Err e) = IsFaultOf text e

-- what the text says is returned, and only that; a fault is returned if and only if it says nothing,
-- out of memory aside
pub record ParsesExactly (text : List ℕ) (r : Result Forms error.PluralFormsError) : Type 0 where
  pub only : IsWhatIsSaid text r
  pub read : (forms : Forms) → IsPluralForms text forms → (r ≡ Ok forms) ⊎ (r ≡ Err errors.Memory)

-- ---- Laws

-- a text says one thing at most
abbrev pub TextsSayOneThing : Type 0
TextsSayOneThing = (text : List ℕ) (a b : Forms) → IsPluralForms text a → IsPluralForms text b → a ≡ b

-- a text that says something has no fault
abbrev pub NoFaultInForms : Type 0
NoFaultInForms = (text : List ℕ) (forms : Forms) (kind : FaultKind) (place : ℕ) → IsPluralForms text forms → HasPluralFormsFault text kind place → ⊥

-- every text says something, or has a fault
abbrev pub SaysOrFails : List ℕ → Type 0
SaysOrFails text =
    ((forms : Forms) × IsPluralForms text forms) ⊎ ((kind : FaultKind) × (place : ℕ) × HasPluralFormsFault text kind place)

abbrev pub EveryTextIsTold : Type 0
EveryTextIsTold = (text : List ℕ) → SaysOrFails text

-- a text has one fault at most: one kind, at one byte
abbrev pub TextsHaveOneFault : Type 0
TextsHaveOneFault =
    (text : List ℕ) (kind other : FaultKind) (place next : ℕ) → HasPluralFormsFault text kind place → HasPluralFormsFault text other next
    → (kind ≡ other) × (place ≡ next)

-- there are from 1 to FORMS_LIMIT forms
abbrev pub CountsAreWithin : Type 0
CountsAreWithin = (text : List ℕ) (forms : Forms) → IsPluralForms text forms → (1 ≤ forms.count) × (forms.count ≤ FORMS_LIMIT)
