-- The heads of arguments and branches, or their first fault. The head of an argument is what
-- follows its brace up to its end or its branches, and that of a branch what stands before it.
use Rattle.std.specs.Prelude.{ℕ, ◌-◌, ◌==◌, List, [], ◌∷◌, Bool, true, false, ◌&&◌, ◌||◌, not, Option, Some, None, is_none, Result, Ok, Err, length, take, codes, if◌then◌else◌}
use Rattle.std.specs.Str.{str_eq_ignore_ascii_case}
use Rattle.pattern_bytes.specs.declared.bytes.Class.TheVariants.{Name, Number, Digit, Letter}
use Rattle.message_pattern.specs.declared.error.Fault.{Fault}
use Rattle.message_pattern.specs.declared.error.FaultKind.{FaultKind}
use Rattle.message_pattern.specs.declared.error.FaultKind.TheVariants.{Unclosed, ExpectedName, BadNumber, ExpectedEnd, ExpectedType, UnsupportedType, ExpectedStyle, ExpectedOffset, ExpectedSelector, ExpectedValue, ExpectedBranch, MissingOther}
use Rattle.message_pattern.specs.declared.head.Formats.{Formats}
use Rattle.message_pattern.specs.declared.head.Formats.TheVariants.{Refused, Allowed}
use Rattle.message_pattern.specs.declared.part.ArgumentKind.{ArgumentKind}
use Rattle.message_pattern.specs.declared.part.ArgumentKind.TheVariants.{Plural, Ordinal, Select}
use Rattle.pattern_bytes.specs.PatternBytes.{comma, minus_sign, decimal_point, equals, opening, closing, is_empty_text, class_front, behind_run, after_white, after_word}
use Rattle.message_pattern.specs.PatternParts.{Selector, Exactly, Keyword}
use Rattle.message_pattern.specs.PatternStyles.{behind_style}

-- what follows a value; a fault is the result
abbrev pub head_and_then : {A B : Type 0} → Result A Fault → (A → Result B Fault) → Result B Fault
head_and_then (Ok x) f = f x
head_and_then (Err e) f = Err e

-- ---- faults

-- the fault of this kind in front of s
abbrev pub pattern_fault_at : FaultKind → List ℕ → Fault
pattern_fault_at kind s = record { kind = kind; left = length s }

-- the text ends where more has to come
abbrev pub unclosed : Fault
unclosed = record { kind = Unclosed; left = 0 }

-- what is expected isn't in front of s
abbrev pub missing_front_fault : FaultKind → List ℕ → Fault
missing_front_fault kind [] = unclosed
missing_front_fault kind (b ∷ s) = pattern_fault_at kind (b ∷ s)

-- ---- the head of an argument

-- what follows the brace that begins an argument
pub data Head : Type 0 where
  -- an argument that is shown as it is, or by a simple format: what stands between its braces
  Plain : List ℕ → Head
  -- an argument that chooses among branches: its kind, its name, and the digits of its offset
  Choice : ArgumentKind → List ℕ → Option (List ℕ) → Head

-- a number with a zero before other digits, which is no name
abbrev pub is_bad_number : List ℕ → Bool
is_bad_number [] = false
is_bad_number (a ∷ s) = (a == 48 && not (is_empty_text s)) && is_empty_text (behind_run Digit s)

-- the name in front of s, and what follows it and white space
abbrev pub name_front : List ℕ → Result (List ℕ × List ℕ) Fault
name_front s =
    if is_empty_text (class_front Name s) then Err (missing_front_fault ExpectedName s)
    else if is_bad_number (class_front Name s) then Err (pattern_fault_at BadNumber s)
    else Ok (class_front Name s, after_white (behind_run Name s))

-- the kind that a type names, in letters of any case
abbrev pub kind_named : List ℕ → Option ArgumentKind
kind_named word =
    if str_eq_ignore_ascii_case word (codes "plural") then Some Plural
    else if str_eq_ignore_ascii_case word (codes "selectordinal") then Some Ordinal
    else if str_eq_ignore_ascii_case word (codes "select") then Some Select
    else None

-- a comma is in front of s, and then the argument's style
abbrev pub style_front : ArgumentKind → List ℕ → Result (ArgumentKind × List ℕ) Fault
style_front kind [] = Err unclosed
style_front kind (b ∷ s) = if b == comma then Ok (kind, s) else Err (pattern_fault_at ExpectedStyle (b ∷ s))

-- a type is in front of s, which is followed by rest
abbrev pub kind_before : List ℕ → Option ArgumentKind → List ℕ → Result (ArgumentKind × List ℕ) Fault
kind_before s None rest = Err (pattern_fault_at UnsupportedType s)
kind_before s (Some kind) rest = style_front kind rest

-- the type in front of s, which chooses, and what follows it and its comma
abbrev pub kind_front : List ℕ → Result (ArgumentKind × List ℕ) Fault
kind_front s =
    if is_empty_text (class_front Letter s) then Err (missing_front_fault ExpectedType s)
    else kind_before s (kind_named (class_front Letter s)) (after_white (behind_run Letter s))

-- the digits in front of s
abbrev pub digits_front : List ℕ → Result (Option (List ℕ) × List ℕ) Fault
digits_front s =
    if is_empty_text (class_front Digit s) then Err (missing_front_fault ExpectedOffset s)
    else Ok (Some (class_front Digit s), behind_run Digit s)

-- the offset behind `offset:`, if that is in front of s
abbrev pub offset_behind : Option (List ℕ) → List ℕ → Result (Option (List ℕ) × List ℕ) Fault
offset_behind None s = Ok (None, s)
offset_behind (Some rest) s = digits_front (after_white rest)

-- the offset in front of s: a select has none
abbrev pub offset_front : ArgumentKind → List ℕ → Result (Option (List ℕ) × List ℕ) Fault
offset_front Select s = Ok (None, s)
offset_front _ s = offset_behind (after_word (codes "offset:") (after_white s)) (after_white s)

-- the argument with this name chooses: its type and its offset are in front of s
abbrev pub choice_front : List ℕ → List ℕ → Result (Head × List ℕ) Fault
choice_front name s =
    head_and_then (kind_front (after_white s)) (λ kind. head_and_then (offset_front kind.0 kind.1) (λ offset.
    Ok (Choice kind.0 name offset.0, offset.1)))

-- the word is the type of a simple format: any but those that choose, and `choice`, in letters of
-- any case
abbrev pub is_simple_type : List ℕ → Bool
is_simple_type word =
    not (is_empty_text word) && (is_none (kind_named word) && not (str_eq_ignore_ascii_case word (codes "choice")))

-- what stands in s before the brace that the rest follows
abbrev pub text_before : List ℕ → List ℕ → List ℕ
text_before s rest = take (length s - length rest - 1) s

-- the argument s ends with a style, and the rest follows its brace
abbrev pub styled_front : List ℕ → Option (List ℕ) → Result (Head × List ℕ) Fault
styled_front s None = Err unclosed
styled_front s (Some rest) = Ok (Plain (text_before s rest), rest)

-- the argument s has a simple format, of which t follows the type
abbrev pub simple_front : List ℕ → List ℕ → Result (Head × List ℕ) Fault
simple_front s [] = Err unclosed
simple_front s (b ∷ t) =
    if b == closing then Ok (Plain (text_before s t), t)
    else if b == comma then styled_front s (behind_style 0 false t)
    else Err (pattern_fault_at ExpectedEnd (b ∷ t))

-- the argument s has a type, of which t follows the comma
abbrev pub typed_front : Formats → List ℕ → List ℕ → List ℕ → Result (Head × List ℕ) Fault
typed_front Refused s name t = choice_front name t
typed_front Allowed s name t =
    if is_simple_type (class_front Letter (after_white t)) then simple_front s (after_white (behind_run Letter (after_white t)))
    else choice_front name t

-- what follows the name of the argument s
abbrev pub behind_name : Formats → List ℕ → List ℕ → List ℕ → Result (Head × List ℕ) Fault
behind_name formats s name [] = Err unclosed
behind_name formats s name (b ∷ t) =
    if b == closing then Ok (Plain name, t)
    else if b == comma then typed_front formats s name t
    else Err (pattern_fault_at ExpectedEnd (b ∷ t))

-- the head of an argument in front of s
abbrev pub head_front : Formats → List ℕ → Result (Head × List ℕ) Fault
head_front formats s = head_and_then (name_front (after_white s)) (λ name. behind_name formats (after_white s) name.0 name.1)

-- ---- what stands before a branch

-- a branch begins, or the argument ends
pub data BranchFront : Type 0 where
  Closes : List ℕ → BranchFront
  Opens : Selector → List ℕ → BranchFront

-- a plural or an ordinal
abbrev pub is_counting : ArgumentKind → Bool
is_counting Select = false
is_counting _ = true

-- a point and digits
abbrev pub is_fraction : List ℕ → Bool
is_fraction [] = false
is_fraction (b ∷ s) = (b == decimal_point && not (is_empty_text s)) && is_empty_text (behind_run Digit s)

-- digits, with a fraction or none
abbrev pub is_unsigned : List ℕ → Bool
is_unsigned s =
    not (is_empty_text (class_front Digit s)) && (is_empty_text (behind_run Digit s) || is_fraction (behind_run Digit s))

-- a number, with a minus or none
abbrev pub is_number : List ℕ → Bool
is_number [] = false
is_number (b ∷ s) = if b == minus_sign then is_unsigned s else is_unsigned (b ∷ s)

-- the number behind `=`
abbrev pub exact_front : List ℕ → Result (Selector × List ℕ) Fault
exact_front s =
    if is_number (class_front Number s) then Ok (Exactly (class_front Number s), behind_run Number s)
    else Err (missing_front_fault ExpectedValue s)

-- the keyword in front of s
abbrev pub keyword_front : List ℕ → Result (Selector × List ℕ) Fault
keyword_front s =
    if is_empty_text (class_front Name s) then Err (missing_front_fault ExpectedSelector s)
    else Ok (Keyword (class_front Name s), behind_run Name s)

-- the selector in front of a text: an argument that counts may compare with a number
abbrev pub selector_front : ArgumentKind → ℕ → List ℕ → Result (Selector × List ℕ) Fault
selector_front kind b s = if b == equals && is_counting kind then exact_front s else keyword_front (b ∷ s)

-- the brace that begins the branch of a selector is in front of s
abbrev pub branch_opens : Selector → List ℕ → Result BranchFront Fault
branch_opens selector [] = Err unclosed
branch_opens selector (b ∷ s) =
    if b == opening then Ok (Opens selector s) else Err (pattern_fault_at ExpectedBranch (b ∷ s))

-- in front of a text is the next branch, or the end: a branch `other` has to stand before it
abbrev pub next_branch : ArgumentKind → Bool → List ℕ → Result BranchFront Fault
next_branch kind has_other [] = Err unclosed
next_branch kind has_other (b ∷ s) =
    if b == closing then (if has_other then Ok (Closes s) else Err (pattern_fault_at MissingOther (b ∷ s)))
    else head_and_then (selector_front kind b s) (λ x. branch_opens x.0 (after_white x.1))

abbrev pub branch_front : ArgumentKind → Bool → List ℕ → Result BranchFront Fault
branch_front kind has_other s = next_branch kind has_other (after_white s)

-- the word `other`
abbrev pub is_other_word : Option (List ℕ) → Bool
is_other_word None = false
is_other_word (Some rest) = is_empty_text rest

abbrev pub is_other : Selector → Bool
is_other (Exactly number) = false
is_other (Keyword word) = is_other_word (after_word (codes "other") word)
