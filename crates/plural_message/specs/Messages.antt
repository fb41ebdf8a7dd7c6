-- The text of a message: an element's text with a number's text in the place of each `{}`. There is
-- no escape for `{}`.
--     IsFilling number text filled      the text, cut at its `{}`, is joined by the number's text
use Rattle.std.specs.Prelude.{◌≡◌, ◌↔◌, ℕ, ◌-◌, ◌^◌, ◌<◌, ◌≤◌, List, ◌++◌, codes, length, drop, min, Result, Err, IfOk, String, string_bytes}
use Rattle.std.specs.declared.alloc.Global.{Global}
use Rattle.std.specs.List.{AllByRecursion, join_by}
use Rattle.std.specs.Str.Iter.{HasSubslice}
use Rattle.icu_plurals.specs.Elements.{Elements, IsExactElement, IsKeptElement}
use Rattle.icu_plurals.specs.FiveRules.{FiveRules}
use Rattle.icu_plurals.specs.Written.{CompactNumber, WritesCompact, IsCompactOverLimit}
use Rattle.icu_plurals.specs.Places.{Places}
use Rattle.icu_plurals.specs.PackedElements.{PackedValue}
use Rattle.fixed_decimal.specs.Written.{error_text}
use Rattle.fixed_decimal.specs.declared.error.DecimalError.{DecimalError}
use Rattle.fixed_decimal.specs.declared.error.DecimalError.TheVariants as decimal
use Rattle.plural_message.specs.declared.error.MessageError.{MessageError}
use Rattle.plural_message.specs.declared.error.MessageError.TheVariants.{Number, Memory}

-- the number's place in an element's text
abbrev pub placeholder : List ℕ
placeholder = codes "{}"

-- the pieces, with a text between any two
abbrev pub pieces_joined : List ℕ → List (List ℕ) → List ℕ
pieces_joined separator pieces = join_by (λ piece. piece) separator pieces

-- The text is cut at its `{}` into pieces without one, and the pieces are joined by the number's
-- text.
pub record IsFilling (number text filled : List ℕ) : Type 0 where
  pub pieces : List (List ℕ)
  pub uncut : AllByRecursion (λ piece. ¬ (HasSubslice piece placeholder)) pieces
  pub cut : text ≡ pieces_joined placeholder pieces
  pub filled_is : filled ≡ pieces_joined number pieces

-- ---- Every text is filled in exactly one way

-- a number's text gives exactly one filling of an element's text
abbrev pub OneFilling : Type 0
OneFilling =
    (number text : List ℕ) → (filled : List ℕ) × IsFilling number text filled
    × ((other : List ℕ) → IsFilling number text other → other ≡ filled)

-- ---- The message of a number: the text of the element that the number has, filled by a text for
-- the number.
--     IsMessageWith IsChosen x text message      the filling by this text of the element that the
--         number x has
--     IsMessageOf IsChosen number message      the filling by the number's own text, which writes
--         the number
--     GivesMessage elements rules number answer      that, or why there is no message

-- An element is chosen for the number's digits and its exponent, and the message is the element's
-- text, filled by the given text.
abbrev pub IsMessageWith : (Places → ℕ → PackedValue → Type 0) → CompactNumber → List ℕ → List ℕ → Type 0
IsMessageWith IsChosen x text message =
    (element : PackedValue) × IsChosen x.significand.absolute x.exponent element × IsFilling text element.text message

-- The text writes a number, and the message is the one of that number with this text.
abbrev pub IsMessageOf : (Places → ℕ → PackedValue → Type 0) → List ℕ → List ℕ → Type 0
IsMessageOf IsChosen number message = (x : CompactNumber) × WritesCompact number x × IsMessageWith IsChosen x number message

-- The message is that of the number's element, which is the one that the number itself has within
-- the exactness bound. The error is `Number Syntax` if and only if the text writes no number, and
-- `Number Limit` if and only if it writes one over a limit; the number's error is never `Memory`.
pub record GivesMessage (elements : Elements PackedValue) (rules : FiveRules) (number : List ℕ) (answer : Result (String Global) MessageError) : Type 0 where
  pub kept : IfOk answer (λ text. IsMessageOf (IsKeptElement elements rules) number (string_bytes text))
  pub exact : IfOk answer (λ text. IsMessageOf (IsExactElement elements rules) number (string_bytes text))
  pub syntax : (answer ≡ Err (Number decimal.Syntax)) ↔ ((x : CompactNumber) → ¬ (WritesCompact number x))
  pub limit : (answer ≡ Err (Number decimal.Limit)) ↔ ((x : CompactNumber) × WritesCompact number x × IsCompactOverLimit x)
  pub memory : ¬ (answer ≡ Err (Number decimal.Memory))

-- ---- A message in a buffer that the caller has.
--     IsWrittenTo old new told message      the message is at the front of the buffer, if it fits,
--         and its length is told

-- If the message fits, it is at the front of the buffer, and what follows it is unchanged; else all
-- of the buffer is. A length above the greatest `usize` is told as that.
pub record IsWrittenTo (old new : List ℕ) (told : ℕ) (message : List ℕ) : Type 0 where
  pub told_is : told ≡ min (length message) (2 ^ 64 - 1)
  pub fits : length message ≤ length old → new ≡ message ++ drop (length message) old
  pub too_long : length old < length message → new ≡ old

-- ---- Why there is no message, and the texts that the errors print

-- the message error that a number error becomes: out of memory isn't a fault of the text
abbrev pub number_error : DecimalError → MessageError
number_error decimal.Syntax = Number decimal.Syntax
number_error decimal.Limit = Number decimal.Limit
number_error decimal.Memory = Memory

abbrev pub message_error_text : MessageError → List ℕ
message_error_text (Number fault) = error_text fault
message_error_text Memory = codes "out of memory"
