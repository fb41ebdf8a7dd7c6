-- Plain samples, from the last of them to the first: what stands before further ones.
use Rattle.std.proofs.Common.{◌≡◌, ◌≢◌, ◌*◌, ◌+◌, ℕ, Bool, true, false, List, [], ◌∷◌, ◌++◌, Some, None, refl, sym, ap, ◌∙◌}
use Rattle.std.proofs.Common.{append_assoc, ◌⊎◌, inl, inr, cond, subst, nat_le}
use Rattle.std.proofs.lemmas.Bool.Decides.{eqb_tells}
use Rattle.std.proofs.lemmas.List.{append-nil}
use Rattle.std.specs.Char.{is_ascii_digit, digit_value}
use Rattle.std.specs.List.{flat_map}
use Rattle.plural_reference.specs.declared.ast.SampleRange.{SampleRange}
use Rattle.plural_reference.specs.declared.parser.samples.plain.Next.{Next}
use Rattle.plural_reference.specs.declared.parser.samples.plain.Next.TheVariants as next
use Rattle.plural_reference.specs.declared.token.Token.{Token}
use Rattle.plural_reference.specs.declared.token.Token.TheVariants.{Number, Comma, At, Ellipsis, Tilde, Junk}
use Rattle.plural_reference.specs.Lexer.{max_number}
use Rattle.plural_reference.specs.Parser.{Separated}
use Rattle.plural_reference.specs.Samples.{IsExponent, IsSample, IsSampleRange, IsSampleType, samples_of, token_text}
use Rattle.plural_reference.specs.Inner.Scan.{tokens_of, tokens_from, in_number, number_token}
use Rattle.plural_reference.specs.Inner.SampleReading.PlainSamples.{Begins, BeginsWithDigit, IsNumber, IsType, AreLists, HasSamples, IsListThenLists, FollowsComma, LeadsTo}
use Rattle.plural_reference.proofs.tokens.ScanComplete.{begin_digit}
use Rattle.plural_reference.proofs.samples.SampleComplete.{reads_samples_run}
use Rattle.plural_reference.proofs.plain.PlainBytes.{comma_front, tilde_front, at_front, ellipsis_front, no_bytes}

-- ---- aims

-- what leads to an aim leads to what follows from it
pub leads_on : (A B : Type 0) (n : Next) → (A → B) → LeadsTo A n → LeadsTo B n
leads_on A B (next.Sample rest) f h = λ k. f (h k)
leads_on A B next.End f h = f h
leads_on A B next.Other f h = tt

-- ---- samples and ranges

not_empty : (a b : List Token) → a ≢ [] → a ++ b ≢ []
not_empty [] b some e = some refl
not_empty (t ∷ ts) b some e = cc

-- a number and an exponent or none are a sample
pub number_sample : (n e : List Token) → IsNumber n → IsExponent e → IsSample (n ++ e) (flat_map token_text (n ++ e))
number_sample n e (whole, fraction, is, (some, digits), f) k = (
  record { integer = whole; fraction = fraction; exponent = e },
  (
    ap (λ l. l ++ e) is,
    digits,
    f,
    k,
    not_empty n e (λ z. not_empty whole fraction some (sym is ∙ z)),
  ),
  refl,
)

-- the range of a sample alone
abbrev alone : List Token → SampleRange
alone ts = record { lower_val = flat_map token_text ts; upper_val = None }

-- a sample alone is a range
pub one_sample : (n e : List Token) → IsNumber n → IsExponent e → IsSampleRange (n ++ e) (alone (n ++ e))
one_sample n e h k = (n ++ e, [], sym (append-nil (n ++ e)), number_sample n e h k, refl)

-- the range from one sample to another
abbrev between : List Token → List Token → SampleRange
between a b = record { lower_val = flat_map token_text a; upper_val = Some (flat_map token_text b) }

-- so are two samples with Tilde between them
pub two_samples : (n e m f : List Token) → IsNumber n → IsExponent e → IsNumber m → IsExponent f
    → IsSampleRange ((n ++ e) ++ Tilde ∷ (m ++ f)) (between (n ++ e) (m ++ f))
two_samples n e m f h k l g = (n ++ e, Tilde ∷ (m ++ f), refl, number_sample n e h k, (m ++ f, refl, number_sample m f l g))

-- ---- lists

-- a range that ends a list
last_range : (r more : List Token) (x : SampleRange) → IsSampleRange r x → AreLists more → IsListThenLists (r ++ more)
last_range r more x h k =
    (r, more, record { sample_ranges = x ∷ []; ellipsis = false }, refl, (r, [], sym (append-nil r), h, refl), k)

-- a range before others
more_ranges : (r left : List Token) (x : SampleRange) (xs : List SampleRange)
    → IsSampleRange r x → Separated Comma IsSampleRange left xs → Separated Comma IsSampleRange (r ++ Comma ∷ left) (x ∷ xs)
more_ranges r left x [] h k = absurd k
more_ranges r left x (y ∷ ys) h k = (r, left, refl, h, k)

-- a range and a comma
comma_range : (r ts : List Token) (x : SampleRange) → IsSampleRange r x → FollowsComma ts → IsListThenLists (r ++ Comma ∷ ts)
comma_range r ts x h (inl (more, e, lists)) = (
  r ++ Comma ∷ Ellipsis ∷ [],
  more,
  record { sample_ranges = x ∷ []; ellipsis = true },
  ap (λ l. r ++ Comma ∷ l) e ∙ sym (append_assoc r (Comma ∷ Ellipsis ∷ []) more),
  (r, Comma ∷ Ellipsis ∷ [], refl, h, refl),
  lists,
)
comma_range r ts x h (inr (list, more, l, e, (left, right, f, ranges, ellipsis), lists)) = (
  r ++ Comma ∷ list,
  more,
  record { sample_ranges = x ∷ l.sample_ranges; ellipsis = l.ellipsis },
  ap (λ k. r ++ Comma ∷ k) e ∙ sym (append_assoc r (Comma ∷ list) more),
  (
    r ++ Comma ∷ left,
    right,
    ap (λ k. r ++ Comma ∷ k) f ∙ sym (append_assoc r (Comma ∷ left) right),
    more_ranges r left x l.sample_ranges h ranges,
    ellipsis,
  ),
  lists,
)

-- At, a type and a list
typed_list : (t : Token) (ts : List Token) → IsSampleType t → IsListThenLists ts → AreLists (At ∷ t ∷ ts)
typed_list t ts h (list, more, l, e, is, (ss, lists)) =
    ((record { type = t; list = l }) ∷ ss, (list, more, ap (λ k. At ∷ t ∷ k) e, h, is, lists))

-- ---- what begins with a digit isn't an ellipsis

-- the token of a number isn't an ellipsis
number_first : (n : ℕ) (rest more : List Token) → number_token n ∷ rest ≢ Ellipsis ∷ more
number_first n rest more e = by (nat_le n max_number) e
  where
    by : (b : Bool) → cond b (Number n) Junk ∷ rest ≢ Ellipsis ∷ more
    by true e = cc
    by false e = cc

-- nor is the first token in a number
in_number_first : (n : ℕ) (bs : List ℕ) (more : List Token) → tokens_from (in_number n) bs ≢ Ellipsis ∷ more
unfolding tokens_from
in_number_first n [] more e = number_first n [] more e
in_number_first n (b ∷ bs) more e = elim (digit_test b) [
  | inl digit ↦ in_number_first (n * 10 + digit_value b) bs more (rw digit at e)
  | inr other ↦ number_first n _ more (rw other at e)
]
  where
    digit_test : (b : ℕ) → (is_ascii_digit b ≡ true) ⊎ (is_ascii_digit b ≡ false)
    digit_test b = by (is_ascii_digit b) refl
      where
        by : (t : Bool) → is_ascii_digit b ≡ t → (is_ascii_digit b ≡ true) ⊎ (is_ascii_digit b ≡ false)
        by true h = inl h
        by false h = inr h

-- so a text that begins with a digit doesn't
digit_first : (text : List ℕ) (more : List Token) → BeginsWithDigit text → tokens_of text ≢ Ellipsis ∷ more
unfolding tokens_from
digit_first [] more h e = absurd h
digit_first (d ∷ ds) more h e = elim (eqb_tells d 48) [
  | inl byte ↦ let same : tokens_of (48 ∷ ds) ≡ Ellipsis ∷ more = ap (λ b. tokens_of (b ∷ ds)) (sym byte.1) ∙ e in cc
  | inr other ↦ in_number_first (0 * 10 + digit_value d) ds more (rw (begin_digit d h other.1) at e)
]

-- ---- lists are samples

-- lists of samples are read to their end
pub lists_are_samples : (ts : List Token) → AreLists ts → HasSamples ts
lists_are_samples ts (sections, lists) = (
  samples_of sections,
  [],
  record {
    sections = sections;
    run_is = reads_samples_run ts sections [] (ts, sym (append-nil ts), lists, tt);
    samples_are = refl;
  },
)

-- ---- the steps of the walk

-- a type and a first sample that begins with a digit
pub front_leads : (text list : List ℕ) → Begins IsType text list → BeginsWithDigit list → FollowsComma (tokens_of list)
    → AreLists (At ∷ tokens_of text)
front_leads text list (ts, (t, e, h), f) digit (inl (more, g, lists)) = absurd (digit_first list more digit g)
front_leads text list (ts, (t, e, h), f) digit (inr k) =
    subst (λ l. AreLists (At ∷ l)) (sym (f ∙ ap (λ l. l ++ tokens_of list) e)) (typed_list t (tokens_of list) h k)

-- no further list
pub end_leads : (text : List ℕ) → text ≡ [] → AreLists (tokens_of text)
end_leads text e = ([], ap tokens_of e ∙ no_bytes)

-- a further list
pub list_leads : (text list : List ℕ) (n : Next) → text ≡ 32 ∷ 64 ∷ list → LeadsTo (AreLists (At ∷ tokens_of list)) n
    → LeadsTo (AreLists (tokens_of text)) n
list_leads text list n e = leads_on _ _ n (subst AreLists (sym (ap tokens_of e ∙ at_front list)))

-- an ellipsis
pub ellipsis_leads : (text rest : List ℕ) (n : Next) → text ≡ 0xe2 ∷ 0x80 ∷ 0xa6 ∷ rest → LeadsTo (AreLists (tokens_of rest)) n
    → LeadsTo (FollowsComma (tokens_of text)) n
ellipsis_leads text rest n e = leads_on _ _ n (λ k. inl (tokens_of rest, ap tokens_of e ∙ ellipsis_front rest, k))

-- a range before a comma
pub comma_leads : (text after : List ℕ) → text ≡ 44 ∷ 32 ∷ after
    → (r : List Token) (x : SampleRange) → IsSampleRange r x → FollowsComma (tokens_of after) → IsListThenLists (r ++ tokens_of text)
comma_leads text after e r x h k =
    subst (λ l. IsListThenLists (r ++ l)) (sym (ap tokens_of e ∙ comma_front after)) (comma_range r (tokens_of after) x h k)

-- a range before further lists
pub range_leads : (text : List ℕ) (n : Next) → LeadsTo (AreLists (tokens_of text)) n
    → (r : List Token) (x : SampleRange) → IsSampleRange r x → LeadsTo (IsListThenLists (r ++ tokens_of text)) n
range_leads text n h r x k = leads_on _ _ n (last_range r (tokens_of text) x k) h

-- what stands behind a range leads to the list
abbrev RangeLeads : List ℕ → Next → Type 0
RangeLeads text n = (r : List Token) (x : SampleRange) → IsSampleRange r x → LeadsTo (IsListThenLists (r ++ tokens_of text)) n

-- a number with its exponent or none
pub single_leads : (text lower : List ℕ) (n : Next) → Begins IsExponent text lower → RangeLeads lower n
    → (ts : List Token) → IsNumber ts → LeadsTo (IsListThenLists (ts ++ tokens_of text)) n
single_leads text lower n (e, k, f) h ts is =
    leads_on _ _ n (subst IsListThenLists (append_assoc ts e (tokens_of lower) ∙ ap (λ l. ts ++ l) (sym f)))
    (h (ts ++ e) (alone (ts ++ e)) (one_sample ts e is k))

-- two numbers with Tilde between them
pub double_leads : (text lower upper number rest : List ℕ) (n : Next) → Begins IsExponent text lower → lower ≡ 126 ∷ upper
    → Begins IsNumber upper number → Begins IsExponent number rest → RangeLeads rest n
    → (ts : List Token) → IsNumber ts → LeadsTo (IsListThenLists (ts ++ tokens_of text)) n
double_leads text lower upper number rest n (e, k, f) t (m, l, g) (o, j, q) h ts is =
    let all : tokens_of text ≡ e ++ Tilde ∷ (m ++ (o ++ tokens_of rest))
    = f ∙ ap (λ x. e ++ x) (ap tokens_of t ∙ tilde_front upper ∙ ap (λ x. Tilde ∷ x) (g ∙ ap (λ x. m ++ x) q)) in
    let joined : ((ts ++ e) ++ Tilde ∷ (m ++ o)) ++ tokens_of rest ≡ ts ++ tokens_of text
    = append_assoc (ts ++ e) (Tilde ∷ (m ++ o)) (tokens_of rest)
    ∙ append_assoc ts e (Tilde ∷ ((m ++ o) ++ tokens_of rest))
    ∙ ap (λ x. ts ++ (e ++ Tilde ∷ x)) (append_assoc m o (tokens_of rest))
    ∙ ap (λ x. ts ++ x) (sym all) in
    leads_on _ _ n (subst IsListThenLists joined)
    (h ((ts ++ e) ++ Tilde ∷ (m ++ o)) (between (ts ++ e) (m ++ o)) (two_samples ts e m o is k l j))

-- a number before a comma
pub number_comma : (text number after : List ℕ) → Begins IsNumber text number → number ≡ 44 ∷ 32 ∷ after
    → FollowsComma (tokens_of after) → FollowsComma (tokens_of text)
number_comma text number after (ts, is, e) f k =
    let range : IsSampleRange (ts ++ []) (alone (ts ++ [])) = one_sample ts [] is tt in
    let whole : IsSampleRange ts (alone (ts ++ [])) = subst (λ l. IsSampleRange l (alone (ts ++ []))) (append-nil ts) range in
    inr (subst IsListThenLists (sym e) (comma_leads number after f ts (alone (ts ++ [])) whole k))

-- a number before what leads to the list
pub number_leads : (text number : List ℕ) (n : Next) → Begins IsNumber text number
    → ((ts : List Token) → IsNumber ts → LeadsTo (IsListThenLists (ts ++ tokens_of number)) n) → LeadsTo (FollowsComma (tokens_of text)) n
number_leads text number n (ts, is, e) h = leads_on _ _ n (λ k. inr (subst IsListThenLists (sym e) k)) (h ts is)
