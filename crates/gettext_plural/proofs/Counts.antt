-- How many forms there are.
use Rattle.std.proofs.Common.{◌≡◌, ℕ, ◌-◌, ◌≤◌, List, [], ◌∷◌, Bool, true, false, ◌&&◌, cond, Result, Ok, Err, refl, ap, ◌∙◌, subst, ⊎_elim}
use Rattle.std.proofs.lemmas.Bool.Decides.{leb_tells}
use Rattle.std.specs.Prelude.{nat_le, codes}
use Rattle.gettext_plural.specs.declared.error.Fault.{Fault}
use Rattle.gettext_plural.specs.declared.error.FaultKind.TheVariants.{NoCount, BadCount, NoExpression}
use Rattle.gettext_plural.specs.declared.header.TheConstants.{FORMS_LIMIT}
use Rattle.gettext_plural.specs.PluralTokens.{after_blanks, is_decimal_digit, number_with}
use Rattle.gettext_plural.specs.PluralExpressions.{Forms}
use Rattle.gettext_plural.specs.PluralHeaders.{and_then, behind_word, count_front, fault_at, header, is_count}
use Rattle.gettext_plural.specs.PluralAnswers.{IsPluralForms}

abbrev pub IsWithin : ℕ → Type 0
IsWithin n = (1 ≤ n) × (n ≤ FORMS_LIMIT)

is_within : (n : ℕ) → is_count n ≡ true → IsWithin n
is_within n is =
    ⊎_elim
    (λ low.
    ⊎_elim (λ high. (low.1, high.1))
    (λ no. let clash : (nat_le 1 n && nat_le n FORMS_LIMIT) ≡ (true && false) = ap (λ b. b && nat_le n FORMS_LIMIT) low.0
    ∙ ap (λ b. true && b) no.0 in absurd cc)
    (leb_tells n FORMS_LIMIT))
    (λ no. let clash : (nat_le 1 n && nat_le n FORMS_LIMIT)
    ≡ (false && nat_le n FORMS_LIMIT) = ap (λ b. b && nat_le n FORMS_LIMIT) no.0 in absurd cc)
    (leb_tells 1 n)

abbrev counted_as : ℕ → Result ℕ Fault
counted_as n = Ok n

by_test : (b : Bool) (n count : ℕ) (f : Fault) → is_count n ≡ b → cond b (counted_as n) (Err f) ≡ Ok count → IsWithin count
by_test true n count f passes is = let same : n ≡ count = cc in subst IsWithin same (is_within n passes)
by_test false n count f fails is = absurd cc

counted : (d : Bool) (n count : ℕ) (f : Fault) → cond (d && is_count n) (counted_as n) (Err f) ≡ Ok count → IsWithin count
counted false n count f is = absurd cc
counted true n count f is = by_test (is_count n) n count f refl is

counts : (text : List ℕ) (count : ℕ) → count_front text ≡ Ok count → IsWithin count
counts [] count is = absurd cc
counts (b ∷ s) count is = counted (is_decimal_digit b) (number_with (b - 48) s) count (fault_at BadCount (b ∷ s)) is

-- of steps that succeed, the first does
record Succeeds {A B : Type 0} (r : Result A Fault) (next : A → Result B Fault) (end : B) : Type 0 where
  value : A
  first : r ≡ Ok value
  behind : next value ≡ Ok end

succeeds : {A B : Type 0} (r : Result A Fault) (next : A → Result B Fault) (end : B) → and_then r next ≡ Ok end → Succeeds r next end
succeeds (Ok x) next end is = record { value = x; first = refl; behind = is }
succeeds (Err f) next end is = absurd cc

header_count : (text : List ℕ) (count : ℕ) (rest : List ℕ) → header text ≡ Ok (count, rest) → IsWithin count
header_count text count rest is =
    let a = succeeds (behind_word (codes "nplurals=") NoCount text) _ (count, rest) is in
    let b = succeeds (count_front (after_blanks a.value)) _ (count, rest) a.behind in
    let c = succeeds (behind_word (codes "plural=") NoExpression text) _ (count, rest) b.behind in
    let A : Type 0 = ℕ × List ℕ in
    let first : A = (b.value, c.value) in
    let second : A = (count, rest) in
    let one : Result A Fault = Ok first in
    let other : Result A Fault = Ok second in
    let e : one ≡ other = c.behind in
    let pair : first ≡ second = cc in
    let same : b.value ≡ count = ap (λ (it : ℕ × List ℕ). it.0) pair in
    subst IsWithin same (counts (after_blanks a.value) b.value b.first)

-- a text never says that there are none, or too many
pub counts_within : (text : List ℕ) (forms : Forms) → IsPluralForms text forms → IsWithin forms.count
counts_within text forms h = header_count text forms.count h.rest h.begins
