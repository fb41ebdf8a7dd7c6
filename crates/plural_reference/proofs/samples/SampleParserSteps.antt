-- The steps of the parser in samples.
use Rattle.std.proofs.Common.{◌≡◌, ◌≢◌, ◌/◌, ◌%◌, ℕ, zero, suc, Bool, true, false, List, [], ◌∷◌, ◌++◌, Option, Some, None, Ok, Err, refl}
use Rattle.std.proofs.Common.{sym, ap, ◌∙◌, inl, inr, cond, nat_eq}
use Rattle.std.proofs.lemmas.Bool.{true≢false}
use Rattle.std.specs.Prelude.{IfSome, ◌||◌, fold}
use Rattle.std.specs.Fmt.{decimal, digits, digits_onto, digit_glyph}
use Rattle.std.specs.List.{list_any}
use Rattle.plural_operands.specs.declared.operand.Operand.TheVariants.{C}
use Rattle.plural_reference.specs.declared.ast.DecimalValue.{DecimalValue}
use Rattle.plural_reference.specs.declared.ast.SampleList.{SampleList}
use Rattle.plural_reference.specs.declared.ast.SampleRange.{SampleRange}
use Rattle.plural_reference.specs.declared.ast.Samples as samples
use Rattle.plural_reference.specs.declared.ast.Value.{Value}
use Rattle.plural_reference.specs.declared.error.ParseError.{ParseError}
use Rattle.plural_reference.specs.declared.error.ParseError.TheVariants.{ExpectedValue, ExpectedSampleType}
use Rattle.plural_reference.specs.declared.parser.samples.SampleType.{SampleType}
use Rattle.plural_reference.specs.declared.parser.samples.SampleType.TheVariants as types
use Rattle.plural_reference.specs.declared.token.Token.{Token}
use Rattle.plural_reference.specs.declared.token.Token.TheVariants.{Operand, Number, Zero, Dot, Comma, At, Ellipsis, Tilde, E}
use Rattle.plural_reference.specs.Lexer.{first}
use Rattle.plural_reference.specs.Parser.{token_value}
use Rattle.plural_reference.specs.Inner.Reader.{TakesValue}
use Rattle.plural_reference.specs.Samples.{Section, IsDigits, IsExponentMark, IsSampleType, Takes, token_text, has_exponent, has_point}
use Rattle.plural_reference.specs.Samples.{type_fault, sample_fault, samples_of, with_list}
use Rattle.plural_reference.specs.Inner.SampleReading.SampleReader.{Partial, after_sections, behind_at, awaits_sample, behind_comma, in_sample}
use Rattle.plural_reference.specs.Inner.SampleReading.SampleReader.{behind_mark, with_sections, ranges_with, begin_list, run_samples, type_token}
use Rattle.plural_reference.specs.Inner.SampleReading.SampleReader.{sample_at, joined_list, TakesText, NoDigits, NoMark, ReadsDigits, ReadsNumber}
use Rattle.plural_reference.specs.Inner.SampleReading.SampleReader.{JoinsExponent, ReadsExponent, ReadsSample, ReadsRange, ReadsRanges, ReadsSampleList}
use Rattle.plural_reference.specs.Inner.SampleReading.SampleReader.{ReadsLists, ReadsAllSamples}
use Rattle.plural_reference.proofs.samples.SampleSound.{left_false, right_false}
use Rattle.plural_reference.proofs.samples.SampleComplete.{any-append, digits_no_mark, digits_no_point, digit_run, point_run, mark_run}
use Rattle.plural_reference.proofs.samples.SampleComplete.{after_mark_run, first_digit_run, first_point_run}
use Rattle.plural_reference.proofs.samples.SampleComplete.{first_mark_run, at_start, tilde_run}
use Rattle.plural_reference.proofs.samples.SampleComplete.{comma_run, ellipsis_run, type_run, joins_ends, tilde_ends, type_stop, mark_stop}
use Rattle.plural_reference.specs.Inner.SampleReading.SampleReader.{FailsInSample, FailsAtSample, FailsAtRange, FailsAtList}

-- ---- texts

-- the text of a token of digits is that of its number
pub digit_again : (t : Token) (n : ℕ) → token_value t ≡ Some (record { 0 = n }) → IsDigits t × (token_text t ≡ decimal n)
unfolding digits
digit_again Zero n e = let v : record { 0 = 0 } ≡ record { 0 = n } = cc in (tt, ap (λ (x : Value). decimal x.0) v)
digit_again (Number m) n e = let v : record { 0 = m } ≡ record { 0 = n } = cc in (tt, ap (λ (x : Value). decimal x.0) v)
digit_again _ n e = cc

-- a number that the parser took is a token of digits with its text
pub takes_digits : (n : ℕ) (old new : List Token) → TakesValue old (record { 0 = n }) new → TakesText IsDigits old (decimal n) new
takes_digits n old new (t, e, v) = let d = digit_again t n v in (t, e, d.0, d.1)

abbrev IsNotEmpty : List ℕ → Type 0
IsNotEmpty [] = ⊥
IsNotEmpty (b ∷ bs) = Unit {0}

-- of two such texts either is one
either : (c : Bool) (x y : List ℕ) → IsNotEmpty x → IsNotEmpty y → IsNotEmpty (cond c x y)
either true x y h k = h
either false x y h k = k

-- the digits of a number come before a text
onto_not_empty : (k n : ℕ) (acc : List ℕ) → IsNotEmpty acc → IsNotEmpty (digits_onto k 10 false n acc)
onto_not_empty zero n acc h = h
onto_not_empty (suc k) n acc h = either (nat_eq (n / 10) 0) _ _ tt (onto_not_empty k (n / 10) (digit_glyph false (n % 10) ∷ acc) tt)

-- a number in decimal has a digit
decimal_not_empty : (n : ℕ) → IsNotEmpty (decimal n)
unfolding digits
decimal_not_empty n = either (nat_eq (n / 10) 0) _ _ tt (onto_not_empty 63 (n / 10) (digit_glyph false (n % 10) ∷ []) tt)

-- the text of a token of digits has one
digits_not_empty : (t : Token) → IsDigits t → IsNotEmpty (token_text t)
digits_not_empty Zero h = tt
digits_not_empty (Number n) h = decimal_not_empty n
digits_not_empty _ h = absurd h

or_false : (a b : Bool) → b ≡ false → (a || b) ≡ a
or_false true b h = refl
or_false false b h = h

-- a test that the second part meets
or_true : (a b : Bool) → b ≡ true → (a || b) ≡ true
or_true true b h = refl
or_true false b h = h

-- what the second part doesn't have is had by the first
any-append_none : (p : ℕ → Bool) (u v : List ℕ) → list_any p v ≡ false → list_any p (u ++ v) ≡ list_any p u
any-append_none p [] v h = h
any-append_none p (x ∷ u) v h = ap (λ b. p x || b) (any-append_none p u v h)

-- what the second part has, the whole has
any-append_second : (p : ℕ → Bool) (u v : List ℕ) → list_any p v ≡ true → list_any p (u ++ v) ≡ true
any-append_second p [] v h = h
any-append_second p (x ∷ u) v h = or_true (p x) (list_any p (u ++ v)) (any-append_second p u v h)

-- the text of a mark is that of an exponent
mark_has_exponent : (t : Token) → IsExponentMark t → has_exponent (token_text t) ≡ true
mark_has_exponent E h = refl
mark_has_exponent (Operand C) h = refl
mark_has_exponent _ h = absurd h

-- ---- one token more in a sample

-- a text that isn't empty stands in a sample
at_text : (p : Partial) (text : List ℕ) → IsNotEmpty text → sample_at p text ≡ in_sample p text
at_text p [] h = absurd h
at_text p (b ∷ bs) h = refl

-- digits join a sample that has no exponent
digits_join : (p : Partial) (before : List ℕ) (t : Token) (rest : List Token)
    → IsDigits t → has_exponent before ≡ false
    → run_samples (sample_at p before) (t ∷ rest) ≡ run_samples (sample_at p (before ++ token_text t)) rest
digits_join p [] t rest d h =
    first_digit_run (awaits_sample p) p t rest (at_start p) d
    ∙ ap (λ s. run_samples s rest) (sym (at_text p (token_text t) (digits_not_empty t d)))
digits_join p (b ∷ bs) t rest d h = digit_run p (b ∷ bs) t rest d h

-- a point joins a sample that has neither exponent nor point
point_joins : (p : Partial) (before : List ℕ) (rest : List Token)
    → has_exponent before ≡ false → has_point before ≡ false
    → run_samples (sample_at p before) (Dot ∷ rest) ≡ run_samples (sample_at p (before ++ 46 ∷ [])) rest
point_joins p [] rest h k = first_point_run (awaits_sample p) p rest (at_start p)
point_joins p (b ∷ bs) rest h k = point_run p (b ∷ bs) rest h k

-- a mark joins a sample that has no exponent, and digits are expected
mark_joins : (p : Partial) (before : List ℕ) (t : Token) (rest : List Token)
    → IsExponentMark t → has_exponent before ≡ false
    → run_samples (sample_at p before) (t ∷ rest) ≡ run_samples (behind_mark p (before ++ token_text t)) rest
mark_joins p [] t rest m h = first_mark_run (awaits_sample p) p t rest (at_start p) m
mark_joins p (b ∷ bs) t rest m h = mark_run p (b ∷ bs) t rest m h

-- ---- digits

-- before any digits the text is as it was
pub no_digits_yet : (text : List ℕ) (old : List Token) → has_exponent text ≡ false → ReadsDigits text old text old
no_digits_yet text old h = record { run_is = λ p. refl; no_mark = h; same_point = refl; nothing = λ e. refl }

-- a text that was joined by another that isn't empty
joined_not_empty : (u v : List ℕ) → IsNotEmpty v → u ++ v ≢ []
joined_not_empty [] [] h e = h
joined_not_empty [] (x ∷ v) h e = cc
joined_not_empty (x ∷ u) v h e = cc

-- a token of digits joins the text
pub more_digits : (before after : List ℕ) (n : ℕ) (old middle new : List Token)
    → ReadsDigits before old after middle → TakesText IsDigits middle (decimal n) new → ReadsDigits before old (after ++ decimal n) new
more_digits before after n old middle new h (t, e, d, w) = record {
  run_is = λ p. h.run_is p ∙ ap (run_samples (sample_at p after)) e ∙ digits_join p after t new d h.no_mark
      ∙ ap (λ x. run_samples (sample_at p (after ++ x)) new) w;
  no_mark = ap (λ x. has_exponent (after ++ x)) (sym w) ∙ any-append _ after (token_text t) h.no_mark (digits_no_mark t d);
  same_point = ap (λ x. has_point (after ++ x)) (sym w) ∙ any-append_none _ after (token_text t) (digits_no_point t d) ∙ h.same_point;
  nothing = λ none. absurd (joined_not_empty after (decimal n) (decimal_not_empty n) none);
}

-- a point isn't a mark of an exponent
pub point_has_no_mark : (text : List ℕ) → has_exponent text ≡ false → has_exponent (text ++ 46 ∷ []) ≡ false
point_has_no_mark text h = any-append _ text (46 ∷ []) h refl

-- digits that no point follows are a number
pub number_alone : (text : List ℕ) (old middle new : List Token)
    → ReadsDigits [] old text middle → NoDigits middle → first middle ≢ Some Dot → new ≡ middle → ReadsNumber old text new
number_alone text old middle new h d n e = record {
  run_is = λ p. h.run_is p ∙ ap (run_samples (sample_at p text)) (sym e);
  no_mark = h.no_mark;
  no_digits = rw e d;
  no_point = λ k. absurd (n (rw e at k));
  nothing = λ k. e ∙ h.nothing k;
}

-- so are digits, a point and digits
pub number_with_point : (first_text text : List ℕ) (old middle after new : List Token)
    → ReadsDigits [] old first_text middle → middle ≡ Dot ∷ after → ReadsDigits (first_text ++ 46 ∷ []) after text new → NoDigits new
    → ReadsNumber old text new
number_with_point first_text text old middle after new h e k d = record {
  run_is = λ p. h.run_is p ∙ ap (run_samples (sample_at p first_text)) e ∙ point_joins p first_text after h.no_mark h.same_point
      ∙ k.run_is p;
  no_mark = k.no_mark;
  no_digits = d;
  no_point = λ _. k.same_point ∙ any-append_second _ first_text (46 ∷ []) refl;
  nothing = λ none. absurd (true≢false (sym (k.same_point ∙ any-append_second _ first_text (46 ∷ []) refl) ∙ ap has_point none));
}

-- ---- exponents

-- a mark and digits after it are an exponent
pub exponent_joins : (before mark : List ℕ) (n : ℕ) (old middle new : List Token)
    → has_exponent before ≡ false → TakesText IsExponentMark old mark middle → TakesText IsDigits middle (decimal n) new
    → JoinsExponent before old (before ++ mark ++ decimal n) new
exponent_joins before mark n old middle new h (m, e, i, w) (t, f, d, v) = record {
  run_is = λ p.
      ap (run_samples (sample_at p before)) e ∙ mark_joins p before m middle i h
      ∙ ap (run_samples (behind_mark p (before ++ token_text m))) f ∙ after_mark_run p (before ++ token_text m) t new d
      ∙ ap (λ x. run_samples (in_sample p (before ++ x ++ token_text t)) new) w
      ∙ ap (λ x. run_samples (in_sample p (before ++ mark ++ x)) new) v;
  a_mark = ap (λ x. has_exponent (x ++ decimal n)) (ap (λ x. before ++ x) (sym w))
      ∙ ap (λ x. has_exponent (before ++ token_text m ++ x)) (sym v)
      ∙ any-append_none _ (before ++ token_text m) (token_text t) (digits_no_mark t d)
      ∙ any-append_second _ before (token_text m) (mark_has_exponent m i);
}

-- a mark without digits is a fault
pub no_exponent_value : (before mark : List ℕ) (old middle new : List Token)
    → has_exponent before ≡ false → TakesText IsExponentMark old mark middle → NoDigits middle → new ≡ middle
    → FailsInSample before old new ExpectedValue
no_exponent_value before mark old middle new h (m, e, i, w) d s p =
    rw s
    (ap (run_samples (sample_at p before)) e ∙ mark_joins p before m middle i h
    ∙ mark_stop p (before ++ token_text m) middle ExpectedValue d)

-- ---- samples

-- nothing of a sample comes next
nothing_next : (rest : List Token)
    → NoDigits rest → (first rest ≡ Some Dot → false ≡ true) → NoMark rest → sample_fault (first rest) ≡ Some ExpectedValue
nothing_next [] d p m = d
nothing_next (Dot ∷ ts) d p m = absurd (true≢false (sym (p refl)))
nothing_next (E ∷ ts) d p m = absurd (m tt)
nothing_next (Operand C ∷ ts) d p m = absurd (m tt)
nothing_next (_ ∷ ts) d p m = d

none_is_not_some : {A : Type 0} {x : A} → None ≢ Some x
none_is_not_some e = cc

-- a sample without an exponent can't take what comes next
takes_nothing : (text : List ℕ) (rest : List Token)
    → NoDigits rest → (first rest ≡ Some Dot → has_point text ≡ true) → NoMark rest → IfSome (first rest) (λ t. ¬ (Takes text t))
takes_nothing text [] d p m = tt
takes_nothing text (Dot ∷ ts) d p m = λ k. true≢false (sym (p refl) ∙ k.1)
takes_nothing text (E ∷ ts) d p m = absurd (m tt)
takes_nothing text (Operand C ∷ ts) d p m = absurd (m tt)
takes_nothing text (Zero ∷ ts) d p m = absurd (none_is_not_some d)
takes_nothing text (Number n ∷ ts) d p m = absurd (none_is_not_some d)
takes_nothing text (_ ∷ ts) d p m = λ k. elim k.1 [ inl x ↦ x | inr x ↦ x ]

-- and one with an exponent takes nothing
takes_no_more : (text : List ℕ) (rest : List Token) → has_exponent text ≡ true → IfSome (first rest) (λ t. ¬ (Takes text t))
takes_no_more text [] h = tt
takes_no_more text (Dot ∷ ts) h = λ k. true≢false (sym h ∙ k.0)
takes_no_more text (_ ∷ ts) h = λ k. true≢false (sym h ∙ k.0)

-- a text that isn't empty stands in a sample
not_empty_at : (p : Partial) (text : List ℕ) → text ≢ [] → sample_at p text ≡ in_sample p text
not_empty_at p [] h = absurd (h refl)
not_empty_at p (b ∷ bs) h = refl

-- a sample that has begun isn't empty
pub begun_not_empty : (before text : List ℕ) (old middle new : List Token)
    → sample_fault (first old) ≡ None → ReadsNumber old before middle → ReadsExponent before middle text new → text ≢ []
begun_not_empty before text old middle new b h (inl (e, f, m)) w =
    let none : before ≡ [] = sym e ∙ w in
    let fault = nothing_next middle h.no_digits (λ k. ap has_point (sym none) ∙ h.no_point k) m in
    none_is_not_some (sym b ∙ ap (λ x. sample_fault (first x)) (sym (h.nothing none)) ∙ fault)
begun_not_empty before text old middle new b h (inr k) w = true≢false (sym k.a_mark ∙ ap has_exponent w)

-- a number and its exponent are a sample that can't take what comes next
pub a_sample : (before text : List ℕ) (old middle new : List Token)
    → ReadsNumber old before middle → ReadsExponent before middle text new → text ≢ [] → ReadsSample old text new
a_sample before text old middle new h (inl (e, f, m)) w = record {
  run_is = λ p. h.run_is p ∙ ap (λ x. run_samples (sample_at p x) middle) (sym e) ∙ ap (run_samples (sample_at p text)) (sym f)
      ∙ ap (λ s. run_samples s new) (not_empty_at p text w);
  whole = rw (e, f) (takes_nothing before middle h.no_digits h.no_point m);
}
a_sample before text old middle new h (inr k) w = record { run_is = λ p. h.run_is p ∙ k.run_is p; whole = takes_no_more text new k.a_mark }

-- ---- ranges

-- a sample that no Tilde follows is a range
pub range_alone : (text : List ℕ) (old middle new : List Token)
    → ReadsSample old text middle → first middle ≢ Some Tilde → new ≡ middle
    → ReadsRange old (record { lower_val = text; upper_val = None }) new
range_alone text old middle new h n e = record {
  lower = None;
  text = text;
  range_is = refl;
  run_is = λ p k. h.run_is p ∙ ap (λ (o : Option DecimalValue). run_samples (in_sample (record p { lower = o }) text) middle) k
      ∙ ap (run_samples (in_sample (record p { lower = None }) text)) (sym e);
  whole = rw e h.whole;
  no_tilde = λ _. rw e n;
}

-- so are two samples with Tilde between them
pub range_to : (lower upper : List ℕ) (old middle after new : List Token)
    → ReadsSample old lower middle → middle ≡ Tilde ∷ after → ReadsSample after upper new
    → ReadsRange old (record { lower_val = lower; upper_val = Some upper }) new
range_to lower upper old middle after new h e k = record {
  lower = Some lower;
  text = upper;
  range_is = refl;
  run_is = λ p n. h.run_is p ∙ ap (run_samples (in_sample p lower)) e ∙ tilde_run p lower after n
      ∙ k.run_is (record p { lower = Some lower });
  whole = k.whole;
  no_tilde = λ n. cc;
}

-- a fault of the sample after Tilde is a fault of the range
pub no_upper : (lower : List ℕ) (old middle after new : List Token) (kind : ParseError)
    → ReadsSample old lower middle → middle ≡ Tilde ∷ after → FailsAtSample after new kind → FailsAtRange old new kind
no_upper lower old middle after new kind h e k p n =
    h.run_is p ∙ ap (run_samples (in_sample p lower)) e ∙ tilde_run p lower after n ∙ k (record p { lower = Some lower })

-- ---- lists

-- a range begins a list
pub one_range : (old new : List Token) (r : SampleRange) → ReadsRange old r new → ReadsRanges old (r ∷ []) new
one_range old new r h = record {
  front = [];
  lower = h.lower;
  text = h.text;
  ranges_are = ap (λ (x : SampleRange). x ∷ []) h.range_is;
  run_is = λ sections type. h.run_is (begin_list sections type) refl;
  whole = h.whole;
  no_tilde = h.no_tilde;
}

-- a list with these ranges, after its last comma
abbrev with_ranges : List Section → Token → List SampleRange → Partial
with_ranges sections type rs = record { sections = sections; type = type; ranges = rs; lower = None }

-- Comma after ranges leads to the place of a range or of an ellipsis
to_comma : (old middle after : List Token) (rs : List SampleRange)
    → ReadsRanges old rs middle → middle ≡ Comma ∷ after → (sections : List Section) (type : Token)
    → run_samples (awaits_sample (begin_list sections type)) old ≡ run_samples (behind_comma (with_ranges sections type rs)) after
to_comma old middle after rs h e sections type =
    let last : Partial = record { sections = sections; type = type; ranges = h.front; lower = h.lower } in
    h.run_is sections type ∙ ap (run_samples (in_sample last h.text)) e ∙ comma_run last h.text after
    ∙ ap (λ x. run_samples (behind_comma (with_ranges sections type x)) after) (sym h.ranges_are)

-- if no ellipsis comes next, a sample is expected there
not_ellipsis : (p : Partial) (rest : List Token)
    → first rest ≢ Some Ellipsis → run_samples (behind_comma p) rest ≡ run_samples (awaits_sample p) rest
unfolding run_samples
not_ellipsis p [] n = refl
not_ellipsis p (Ellipsis ∷ ts) n = absurd (n refl)
not_ellipsis p (_ ∷ ts) n = refl

-- so Comma after ranges leads to a sample
to_sample : (old middle after behind : List Token) (rs : List SampleRange)
    → ReadsRanges old rs middle → middle ≡ Comma ∷ after → first after ≢ Some Ellipsis → behind ≡ after
    → (sections : List Section) (type : Token)
    → run_samples (awaits_sample (begin_list sections type)) old ≡ run_samples (awaits_sample (with_ranges sections type rs)) behind
to_sample old middle after behind rs h e n f sections type =
    to_comma old middle after rs h e sections type ∙ not_ellipsis (with_ranges sections type rs) after n
    ∙ ap (run_samples (awaits_sample (with_ranges sections type rs))) (sym f)

-- a range after Comma joins the list
pub more_ranges : (old middle after behind new : List Token) (rs : List SampleRange) (r : SampleRange)
    → ReadsRanges old rs middle → middle ≡ Comma ∷ after → first after ≢ Some Ellipsis → behind ≡ after → ReadsRange behind r new
    → ReadsRanges old (rs ++ r ∷ []) new
more_ranges old middle after behind new rs r h e n f k = record {
  front = rs;
  lower = k.lower;
  text = k.text;
  ranges_are = ap (λ (x : SampleRange). rs ++ x ∷ []) k.range_is;
  run_is = λ sections type. to_sample old middle after behind rs h e n f sections type ∙ k.run_is (with_ranges sections type rs) refl;
  whole = k.whole;
  no_tilde = k.no_tilde;
}

-- a fault of a range is one of the list
pub range_fault : (old middle after behind new : List Token) (rs : List SampleRange) (kind : ParseError)
    → ReadsRanges old rs middle → middle ≡ Comma ∷ after → first after ≢ Some Ellipsis → behind ≡ after
    → FailsAtRange behind new kind → FailsAtList old new kind
range_fault old middle after behind new rs kind h e n f k sections type =
    to_sample old middle after behind rs h e n f sections type ∙ k (with_ranges sections type rs) refl

-- Comma and an ellipsis end a list
pub list_with_ellipsis : (old middle after new : List Token) (rs : List SampleRange)
    → ReadsRanges old rs middle → middle ≡ Comma ∷ after → after ≡ Ellipsis ∷ new
    → ReadsSampleList old (record { sample_ranges = rs; ellipsis = true }) new
list_with_ellipsis old middle after new rs h e f sections type =
    to_comma old middle after rs h e sections type ∙ ap (run_samples (behind_comma (with_ranges sections type rs))) f
    ∙ ellipsis_run (with_ranges sections type rs) new

-- if nothing continues a list, the reader is after its sections
list_ends : (p : Partial) (text : DecimalValue) (rest : List Token)
    → IfSome (first rest) (λ t. ¬ (Takes text t)) → (p.lower ≡ None → first rest ≢ Some Tilde) → first rest ≢ Some Comma
    → run_samples (in_sample p text) rest ≡ run_samples (after_sections (with_sections p (ranges_with p text) false)) rest
unfolding run_samples
list_ends p text [] w t c = refl
list_ends p text (At ∷ ts) w t c = refl
list_ends p text (Comma ∷ ts) w t c = absurd (c refl)
list_ends p text (Tilde ∷ ts) w t c = tilde_ends p.lower p text (Tilde ∷ ts) _ (λ e. t e refl)
list_ends p text (Zero ∷ ts) w t c = joins_ends (has_exponent text) _ p text (Zero ∷ ts) _ (λ e. w (e, inl tt))
list_ends p text (Number n ∷ ts) w t c = joins_ends (has_exponent text) _ p text (Number n ∷ ts) _ (λ e. w (e, inl tt))
list_ends p text (Dot ∷ ts) w t c =
    joins_ends (has_exponent text || has_point text) _ p text (Dot ∷ ts) _ (λ e. w (left_false _ _ e, right_false _ _ e))
list_ends p text (E ∷ ts) w t c = joins_ends (has_exponent text) _ p text (E ∷ ts) _ (λ e. w (e, inr tt))
list_ends p text (Operand C ∷ ts) w t c = joins_ends (has_exponent text) _ p text (Operand C ∷ ts) _ (λ e. w (e, inr tt))
list_ends p text (_ ∷ ts) w t c = refl

-- a list that no Comma follows ends
pub list_without_ellipsis : (old middle new : List Token) (rs : List SampleRange)
    → ReadsRanges old rs middle → first middle ≢ Some Comma → new ≡ middle
    → ReadsSampleList old (record { sample_ranges = rs; ellipsis = false }) new
list_without_ellipsis old middle new rs h n e sections type =
    let last : Partial = record { sections = sections; type = type; ranges = h.front; lower = h.lower } in
    h.run_is sections type ∙ list_ends last h.text middle h.whole h.no_tilde n
    ∙ ap (λ x. run_samples (after_sections (with_sections last x false)) middle) (sym h.ranges_are)
    ∙ ap (run_samples (after_sections (with_sections last rs false))) (sym e)

-- ---- all lists

-- before any list there are no samples
pub no_lists_yet : (old : List Token) → ReadsLists old None old
no_lists_yet old = record { sections = []; run_is = refl; samples_are = refl }

abbrev add_list : samples.Samples → Section → samples.Samples
add_list old s = with_list s.type s.list old

-- one list more is joined last
fold-push : (a : samples.Samples) (ss : List Section) (s : Section) → fold add_list a (ss ++ s ∷ []) ≡ add_list (fold add_list a ss) s
fold-push a [] s = refl
fold-push a (x ∷ ss) s = fold-push (add_list a x) ss s

-- the samples of some lists, joined by one more, are those of all of them
joined_section : (ss : List Section) (s : Section) → joined_list (samples_of ss) s ≡ samples_of (ss ++ s ∷ [])
joined_section [] s = refl
joined_section (x ∷ ss) s = ap Some (sym (fold-push (add_list (record { integer = None; decimal = None }) x) ss s))

-- At after lists leads to the place of a type
at_step : (ss : List Section) (rest : List Token) → run_samples (after_sections ss) (At ∷ rest) ≡ run_samples (behind_at ss) rest
unfolding run_samples
at_step ss rest = refl

-- the token of a type is one
is_type : (kind : SampleType) → IsSampleType (type_token kind)
is_type types.Integer = tt
is_type types.Decimal = tt

-- At and a type after lists lead to the list's first sample
to_list : (old middle after behind : List Token) (given : Option samples.Samples) (kind : SampleType) (h : ReadsLists old given middle)
    → middle ≡ At ∷ after → after ≡ type_token kind ∷ behind
    → run_samples (after_sections []) old ≡ run_samples (awaits_sample (begin_list h.sections (type_token kind))) behind
to_list old middle after behind given kind h e f =
    h.run_is ∙ ap (run_samples (after_sections h.sections)) e ∙ at_step h.sections after
    ∙ ap (run_samples (behind_at h.sections)) f ∙ type_run h.sections (type_token kind) behind (is_type kind)

-- At, a type and a list join the samples
pub more_lists : (old middle after behind new : List Token) (given : Option samples.Samples) (kind : SampleType) (list : SampleList)
    (joined : samples.Samples)
    → ReadsLists old given middle → middle ≡ At ∷ after → after ≡ type_token kind ∷ behind → ReadsSampleList behind list new
    → Some joined ≡ joined_list given (record { type = type_token kind; list = list }) → ReadsLists old (Some joined) new
more_lists old middle after behind new given kind list joined h e f k j =
    let section : Section = record { type = type_token kind; list = list } in
    record {
      sections = h.sections ++ section ∷ [];
      run_is = to_list old middle after behind given kind h e f ∙ k h.sections (type_token kind);
      samples_are = j ∙ ap (λ x. joined_list x section) h.samples_are ∙ joined_section h.sections section;
    }

-- if no type follows At, that is the fault
pub no_type : (old middle after new : List Token) (given : Option samples.Samples)
    → ReadsLists old given middle → middle ≡ At ∷ after → type_fault (first after) ≡ Some ExpectedSampleType → new ≡ after
    → run_samples (after_sections []) old ≡ Err (ExpectedSampleType, new)
no_type old middle after new given h e k s =
    rw s
    (h.run_is ∙ ap (run_samples (after_sections h.sections)) e ∙ at_step h.sections after ∙ type_stop h.sections after ExpectedSampleType k)

-- a fault of a list is one of the samples
pub list_fault : (old middle after behind new : List Token) (given : Option samples.Samples) (kind : SampleType) (e : ParseError)
    → ReadsLists old given middle → middle ≡ At ∷ after → after ≡ type_token kind ∷ behind
    → FailsAtList behind new e → run_samples (after_sections []) old ≡ Err (e, new)
list_fault old middle after behind new given kind e h f g k = to_list old middle after behind given kind h f g ∙ k h.sections (type_token kind)

-- lists that no At follows end the samples
sections_end : (ss : List Section) (rest : List Token) → first rest ≢ Some At → run_samples (after_sections ss) rest ≡ Ok (ss, rest)
unfolding run_samples
sections_end ss [] n = refl
sections_end ss (At ∷ ts) n = absurd (n refl)
sections_end ss (_ ∷ ts) n = refl

-- so all samples are read
pub all_lists : (old middle new : List Token) (given : Option samples.Samples)
    → ReadsLists old given middle → first middle ≢ Some At → new ≡ middle → ReadsAllSamples old given new
all_lists old middle new given h n e = record {
  sections = h.sections;
  run_is = h.run_is ∙ sections_end h.sections middle n ∙ ap (λ x. Ok (h.sections, x)) (sym e);
  samples_are = h.samples_are;
}
