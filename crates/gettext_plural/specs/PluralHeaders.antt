-- The number of forms, and where the expression begins: behind the first `nplurals=` and the first
-- `plural=` of a text, wherever they are.
--     header text      the number, and what follows `plural=`; or the first fault
use Rattle.std.specs.Prelude.{ℕ, ◌-◌, List, [], ◌∷◌, Bool, ◌&&◌, cond, nat_eq, nat_le, Option, Some, None, Result, Ok, Err, codes, length}
use Rattle.gettext_plural.specs.declared.error.Fault.{Fault}
use Rattle.gettext_plural.specs.declared.error.FaultKind.{FaultKind}
use Rattle.gettext_plural.specs.declared.error.FaultKind.TheVariants.{NoCount, BadCount, NoExpression}
use Rattle.gettext_plural.specs.declared.header.TheConstants.{FORMS_LIMIT}
use Rattle.gettext_plural.specs.PluralTokens.{after_blanks, is_decimal_digit, number_with}

-- a fault at the front of a text
abbrev pub fault_at : FaultKind → List ℕ → Fault
fault_at kind text = record { kind = kind; left = length text }

-- ---- Words

-- what follows a word, if it is at the front
abbrev pub after_header_word : List ℕ → List ℕ → Option (List ℕ)
after_header_word [] s = Some s
after_header_word (w ∷ word) [] = None
after_header_word (w ∷ word) (b ∷ s) = cond (nat_eq w b) (after_header_word word s) None

-- the first if there is one, else the second
abbrev pub rest_or_else : Option (List ℕ) → Option (List ℕ) → Option (List ℕ)
rest_or_else (Some rest) other = Some rest
rest_or_else None other = other

-- what follows the first such word, if there is one
abbrev pub behind_first_word : List ℕ → List ℕ → Option (List ℕ)
behind_first_word word [] = None
behind_first_word word (b ∷ s) = rest_or_else (after_header_word word (b ∷ s)) (behind_first_word word s)

abbrev pub or_fault : FaultKind → List ℕ → Option (List ℕ) → Result (List ℕ) Fault
or_fault kind text None = Err (fault_at kind text)
or_fault kind text (Some rest) = Ok rest

abbrev pub behind_word : List ℕ → FaultKind → List ℕ → Result (List ℕ) Fault
behind_word word kind text = or_fault kind text (behind_first_word word text)

-- ---- The number

abbrev pub is_count : ℕ → Bool
is_count n = nat_le 1 n && nat_le n FORMS_LIMIT

-- the number of forms at the front
abbrev pub count_front : List ℕ → Result ℕ Fault
count_front [] = Err (fault_at BadCount [])
count_front (b ∷ s) =
    cond (is_decimal_digit b && is_count (number_with (b - 48) s)) (Ok (number_with (b - 48) s)) (Err (fault_at BadCount (b ∷ s)))

-- ---- Both

-- what follows from what was read
abbrev pub and_then : {A B : Type 0} → Result A Fault → (A → Result B Fault) → Result B Fault
and_then (Ok x) next = next x
and_then (Err fault) next = Err fault

abbrev pub header : List ℕ → Result (ℕ × List ℕ) Fault
header text =
    and_then (behind_word (codes "nplurals=") NoCount text)
    (λ behind. and_then (count_front (after_blanks behind))
    (λ count. and_then (behind_word (codes "plural=") NoExpression text)
    (λ expression. Ok (count, expression))))
