-- What the grammar says of heads is read so.
use Rattle.std.proofs.Common.{◌≡◌, ◌≢◌, ◌==◌, ℕ, List, [], ◌∷◌, ◌++◌, Bool, true, false, not, ◌&&◌, Option, Some, None, is_none, Result, Ok, Err, codes, refl, sym, ap, subst, ◌∙◌, if◌then◌else◌}
use Rattle.std.proofs.lemmas.Bool.{eqb-true}
use Rattle.std.specs.Str.{str_eq_ignore_ascii_case}
use Rattle.pattern_bytes.specs.declared.bytes.Class.TheVariants.{Name, Number, Digit, Letter}
use Rattle.message_pattern.specs.declared.error.Fault.{Fault}
use Rattle.message_pattern.specs.declared.error.FaultKind.TheVariants.{ExpectedName, BadNumber, ExpectedType, ExpectedOffset, ExpectedSelector, ExpectedValue, MissingOther}
use Rattle.message_pattern.specs.declared.head.Formats.{Formats}
use Rattle.message_pattern.specs.declared.head.Formats.TheVariants.{Refused, Allowed}
use Rattle.message_pattern.specs.declared.part.ArgumentKind.{ArgumentKind}
use Rattle.message_pattern.specs.declared.part.ArgumentKind.TheVariants.{Plural, Ordinal, Select}
use Rattle.pattern_bytes.specs.PatternBytes.{comma, equals, opening, closing, is_empty_text, begins, class_front, behind_run, after_white, after_word}
use Rattle.message_pattern.specs.PatternParts.{Selector, Exactly, Keyword}
use Rattle.message_pattern.specs.PatternHeads.{head_and_then, pattern_fault_at, missing_front_fault, Head, Plain, Choice, is_bad_number, name_front, kind_named, kind_before, kind_front, offset_behind, offset_front, choice_front, is_simple_type, styled_front, simple_front, typed_front, behind_name, head_front, is_counting, is_number, exact_front, keyword_front, selector_front, branch_opens, next_branch, branch_front, BranchFront}
use Rattle.message_pattern.specs.PatternHeads as branch
use Rattle.message_pattern.specs.PatternGrammar.{IsSimpleType, IsSimpleText, IsStyleBehind, IsLongest, IsNameOrNumber, IsArgumentType, IsOffsetValue, IsOffset, IsSelector}
use Rattle.message_pattern.proofs.Longest.{longest_run, longest_rest, longest_begins}
use Rattle.message_pattern.proofs.GrammarHeads.{empty_false}
use Rattle.message_pattern.proofs.Styles.{style_complete}
use Rattle.message_pattern.proofs.BeforeBrace.{white_before, name_ends, letters_end, longest_before}
use Rattle.message_pattern.proofs.SimpleHeads.{before_is}

abbrev after_name : List ℕ → List ℕ → List ℕ → Bool → Bool → Result (List ℕ × List ℕ) Fault
after_name s w u a b = if a then Err (missing_front_fault ExpectedName s) else if b then Err (pattern_fault_at BadNumber s) else Ok (w, after_white u)

name_again : (s name t : List ℕ) → IsNameOrNumber s name t → name_front s ≡ Ok (name, after_white t)
name_again s name t h =
    ap (λ (w : List ℕ). after_name s w (behind_run Name s) (is_empty_text w) (is_bad_number w)) (longest_run Name s name t h.bytes)
    ∙ (ap (λ (u : List ℕ). after_name s name u (is_empty_text name) (is_bad_number name)) (longest_rest Name s name t h.bytes)
    ∙ (ap (λ (a : Bool). after_name s name t a (is_bad_number name)) (empty_false name h.nonempty)
    ∙ ap (λ (b : Bool). after_name s name t false b) h.no_zeros))

abbrev after_type : List ℕ → Bool → Option ArgumentKind → List ℕ → Result (ArgumentKind × List ℕ) Fault
after_type s a k r = if a then Err (missing_front_fault ExpectedType s) else kind_before s k r

kind_again : (s : List ℕ) (kind : ArgumentKind) (v w : List ℕ) → IsArgumentType s kind v → after_white v ≡ comma ∷ w
    → kind_front s ≡ Ok (kind, w)
kind_again s kind v w h e =
    ap (λ (x : List ℕ). after_type s (is_empty_text x) (kind_named x) (after_white (behind_run Letter s)))
    (longest_run Letter s h.word v h.letters)
    ∙ (ap (λ (a : Bool). after_type s a (kind_named h.word) (after_white (behind_run Letter s))) (empty_false h.word h.nonempty)
    ∙ (ap (λ (k : Option ArgumentKind). after_type s false k (after_white (behind_run Letter s))) h.named
    ∙ (ap (λ (u : List ℕ). after_type s false (Some kind) (after_white u)) (longest_rest Letter s h.word v h.letters)
    ∙ ap (λ (r : List ℕ). after_type s false (Some kind) r) e)))

abbrev found : Option (List ℕ) → List ℕ → Result (Option (List ℕ) × List ℕ) Fault
found o r = Ok (o, r)

abbrev after_digits : List ℕ → Bool → List ℕ → List ℕ → Result (Option (List ℕ) × List ℕ) Fault
after_digits s a d r = if a then Err (missing_front_fault ExpectedOffset s) else Ok (Some d, r)

value_again : (s : List ℕ) (offset : Option (List ℕ)) (rest : List ℕ) → IsOffsetValue s offset rest
    → offset_behind (after_word (codes "offset:") s) s ≡ Ok (offset, rest)
value_again s None rest h = ap (λ (o : Option (List ℕ)). offset_behind o s) h.0 ∙ ap (λ (r : List ℕ). found None r) (sym h.1)
value_again s (Some digits) rest h =
    let u = after_white h.0 in
    ap (λ (o : Option (List ℕ)). offset_behind o s) h.1
    ∙ (ap (λ (d : List ℕ). after_digits u (is_empty_text d) d (behind_run Digit u)) (longest_run Digit u digits rest h.2)
    ∙ (ap (λ (r : List ℕ). after_digits u (is_empty_text digits) digits r) (longest_rest Digit u digits rest h.2)
    ∙ ap (λ (a : Bool). after_digits u a digits rest) (empty_false digits h.3)))

offset_again : (kind : ArgumentKind) (s : List ℕ) (offset : Option (List ℕ)) (rest : List ℕ) → IsOffset kind s offset rest
    → offset_front kind s ≡ Ok (offset, rest)
offset_again Select s offset rest h =
    ap (λ (o : Option (List ℕ)). found o s) (sym h.0) ∙ ap (λ (r : List ℕ). found offset r) (sym h.1)
offset_again Plural s offset rest h = value_again (after_white s) offset rest h
offset_again Ordinal s offset rest h = value_again (after_white s) offset rest h

pub plain_again : (formats : Formats) (s name t rest : List ℕ) → IsNameOrNumber (after_white s) name t → after_white t ≡ closing ∷ rest
    → head_front formats s ≡ Ok (Plain name, rest)
plain_again formats s name t rest h e =
    ap (λ (r : Result (List ℕ × List ℕ) Fault). head_and_then r (λ n. behind_name formats (after_white s) n.0 n.1))
    (name_again (after_white s) name t h)
    ∙ ap (λ (r : List ℕ). behind_name formats (after_white s) name r) e

-- ---- with a type

none_of : (a b : Bool) → (a && (false && b)) ≡ false
none_of true b = refl
none_of false b = refl

-- a type that chooses isn't that of a simple format
chooses : (word : List ℕ) (kind : ArgumentKind) → kind_named word ≡ Some kind → is_simple_type word ≡ false
chooses word kind e =
    ap (λ (k : Option ArgumentKind). not (is_empty_text word) && (is_none k && not (str_eq_ignore_ascii_case word (codes "choice")))) e
    ∙ none_of (not (is_empty_text word)) (not (str_eq_ignore_ascii_case word (codes "choice")))

typed_again : (formats : Formats) (argument name u : List ℕ) (kind : ArgumentKind) (v : List ℕ) → IsArgumentType (after_white u) kind v
    → typed_front formats argument name u ≡ choice_front name u
typed_again Refused argument name u kind v h = refl
typed_again Allowed argument name u kind v h =
    ap (λ (b : Bool). if b then simple_front argument (after_white (behind_run Letter (after_white u))) else choice_front name u)
    (ap is_simple_type (longest_run Letter (after_white u) h.word v h.letters) ∙ chooses h.word kind h.named)

pub choice_again : (formats : Formats) (kind : ArgumentKind) (offset : Option (List ℕ)) (s name t u v w x : List ℕ)
    → IsNameOrNumber (after_white s) name t → after_white t ≡ comma ∷ u → IsArgumentType (after_white u) kind v → after_white v ≡ comma ∷ w
    → IsOffset kind w offset x → head_front formats s ≡ Ok (Choice kind name offset, x)
choice_again formats kind offset s name t u v w x h e i f o =
    ap (λ (r : Result (List ℕ × List ℕ) Fault). head_and_then r (λ n. behind_name formats (after_white s) n.0 n.1))
    (name_again (after_white s) name t h)
    ∙ (ap (λ (r : List ℕ). behind_name formats (after_white s) name r) e
    ∙ (typed_again formats (after_white s) name u kind v i
    ∙ (ap
    (λ (r : Result (ArgumentKind × List ℕ) Fault). head_and_then r (λ k. head_and_then (offset_front k.0 k.1) (λ y. Ok (Choice k.0 name y.0, y.1))))
    (kind_again (after_white u) kind v w i f)
    ∙ ap (λ (r : Result (Option (List ℕ) × List ℕ) Fault). head_and_then r (λ y. Ok (Choice kind name y.0, y.1)))
    (offset_again kind w offset x o))))

-- ---- with a simple format

abbrev plain_of : List ℕ → List ℕ → Result (Head × List ℕ) Fault
plain_of text rest = Ok (Plain text, rest)

-- behind the type
style_again : (argument text rest s : List ℕ) (style : Option (List ℕ)) → argument ≡ text ++ closing ∷ rest → IsStyleBehind s style
    → simple_front argument (s ++ closing ∷ rest) ≡ Ok (Plain text, rest)
style_again argument text rest s None e h =
    ap (λ (l : List ℕ). simple_front argument (l ++ closing ∷ rest)) h
    ∙ ap (λ (l : List ℕ). plain_of l rest) (before_is argument text rest e)
style_again argument text rest s (Some style) e h =
    ap (λ (l : List ℕ). simple_front argument (l ++ closing ∷ rest)) h.0
    ∙ (ap (λ (o : Option (List ℕ)). styled_front argument o) (style_complete rest h.1)
    ∙ ap (λ (l : List ℕ). plain_of l rest) (before_is argument text rest e))

typed_simple : (argument name u text word v rest : List ℕ) (style : Option (List ℕ)) → argument ≡ text ++ closing ∷ rest
    → IsSimpleType (after_white u) word v → IsStyleBehind (after_white v) style
    → typed_front Allowed argument name (u ++ closing ∷ rest) ≡ Ok (Plain text, rest)
typed_simple argument name u text word v rest style e h k =
    let white = white_before u rest in
    let l = longest_before Letter letters_end (after_white u) word v rest h.letters in
    ap (λ (s : List ℕ). if is_simple_type (class_front Letter s) then simple_front argument (after_white (behind_run Letter s))
    else choice_front name (u ++ closing ∷ rest)) white
    ∙ (ap
    (λ (w : List ℕ).
    if is_simple_type w then simple_front argument (after_white (behind_run Letter (after_white u ++ closing ∷ rest)))
    else choice_front name (u ++ closing ∷ rest))
    (longest_run Letter (after_white u ++ closing ∷ rest) word (v ++ closing ∷ rest) l)
    ∙ (ap
    (λ (b : Bool). if b then simple_front argument (after_white (behind_run Letter (after_white u ++ closing ∷ rest)))
    else choice_front name (u ++ closing ∷ rest))
    h.simple
    ∙ (ap (λ (s : List ℕ). simple_front argument (after_white s))
    (longest_rest Letter (after_white u ++ closing ∷ rest) word (v ++ closing ∷ rest) l)
    ∙ (ap (λ (s : List ℕ). simple_front argument s) (white_before v rest) ∙ style_again argument text rest (after_white v) style e k))))

allowed_again : (s text name word rest : List ℕ) (style : Option (List ℕ)) → after_white s ≡ text ++ closing ∷ rest
    → IsSimpleText text name word style → head_front Allowed s ≡ Ok (Plain text, rest)
allowed_again s text name word rest style e h =
    let n : IsNameOrNumber (after_white s) name (h.behind_name ++ closing ∷ rest) =
    subst (λ (l : List ℕ). IsNameOrNumber l name (h.behind_name ++ closing ∷ rest)) (sym e)
    (record {
      bytes = longest_before Name name_ends text name h.behind_name rest h.named.bytes;
      nonempty = h.named.nonempty;
      no_zeros = h.named.no_zeros;
    }) in
    ap (λ (r : Result (List ℕ × List ℕ) Fault). head_and_then r (λ x. behind_name Allowed (after_white s) x.0 x.1))
    (name_again (after_white s) name (h.behind_name ++ closing ∷ rest) n)
    ∙ (ap (λ (r : List ℕ). behind_name Allowed (after_white s) name r)
    (white_before h.behind_name rest ∙ ap (λ (l : List ℕ). l ++ closing ∷ rest) h.comma_there)
    ∙ typed_simple (after_white s) name h.behind_comma text word h.behind_type rest style e h.typed h.styled)

pub simple_again : {formats : Formats} (s text name word rest : List ℕ) (style : Option (List ℕ)) → formats ≡ Allowed
    → after_white s ≡ text ++ closing ∷ rest
    → IsSimpleText text name word style → head_front formats s ≡ Ok (Plain text, rest)
simple_again {formats = formats} s text name word rest style a e h =
    ap (λ (f : Formats). head_front f s) a ∙ allowed_again s text name word rest style e h

-- ---- and before a branch

abbrev after_number : List ℕ → Bool → List ℕ → List ℕ → Result (Selector × List ℕ) Fault
after_number s a n r = if a then Ok (Exactly n, r) else Err (missing_front_fault ExpectedValue s)

exact_again : (s number rest : List ℕ) → IsLongest Number s number rest → is_number number ≡ true
    → exact_front s ≡ Ok (Exactly number, rest)
exact_again s number rest l n =
    ap (λ (x : List ℕ). after_number s (is_number x) x (behind_run Number s)) (longest_run Number s number rest l)
    ∙ (ap (λ (r : List ℕ). after_number s (is_number number) number r) (longest_rest Number s number rest l)
    ∙ ap (λ (a : Bool). after_number s a number rest) n)

abbrev after_keyword : List ℕ → Bool → List ℕ → List ℕ → Result (Selector × List ℕ) Fault
after_keyword s a w r = if a then Err (missing_front_fault ExpectedSelector s) else Ok (Keyword w, r)

keyword_again : (s word rest : List ℕ) → IsLongest Name s word rest → word ≢ [] → keyword_front s ≡ Ok (Keyword word, rest)
keyword_again s word rest l n =
    ap (λ (x : List ℕ). after_keyword s (is_empty_text x) x (behind_run Name s)) (longest_run Name s word rest l)
    ∙ (ap (λ (r : List ℕ). after_keyword s (is_empty_text word) word r) (longest_rest Name s word rest l)
    ∙ ap (λ (a : Bool). after_keyword s a word rest) (empty_false word n))

not_by : (b n : ℕ) (s : List ℕ) (v : Bool) → (b == n) ≡ v → begins Name (b ∷ s) ≡ true → begins Name (n ∷ s) ≡ false → (b == n) ≡ false
not_by b n s true e h k = absurd (let t : true ≡ false = sym h ∙ (ap (λ (c : ℕ). begins Name (c ∷ s)) (eqb-true b n e) ∙ k) in cc)
not_by b n s false e h k = e

-- a selector begins with a byte, and it is what is read there
pub record Begins (kind : ArgumentKind) (s : List ℕ) (sel : Selector) (t : List ℕ) : Type 0 where
  pub byte : ℕ
  pub more : List ℕ
  pub whole : s ≡ byte ∷ more
  pub no_end : (byte == closing) ≡ false
  pub reads : selector_front kind byte more ≡ Ok (sel, t)

selector_again : (kind : ArgumentKind) (s : List ℕ) (sel : Selector) (t : List ℕ) → IsSelector kind s sel t → Begins kind s sel t
selector_again kind s (Exactly number) t h = record {
  byte = equals;
  more = h.0;
  whole = h.1;
  no_end = refl;
  reads =
      ap (λ (v : Bool). if v then exact_front h.0 else keyword_front (equals ∷ h.0)) h.2
      ∙ exact_again h.0 number t h.3 h.4;
}
selector_again kind s (Keyword []) t h = absurd (h.1 refl)
selector_again kind s (Keyword (b ∷ word)) t h = record {
  byte = b;
  more = word ++ t;
  whole = h.0.whole;
  no_end = not_by b closing (word ++ t) (b == closing) refl (longest_begins Name s b word t h.0) refl;
  reads =
      ap (λ (v : Bool). if v && is_counting kind then exact_front (word ++ t) else keyword_front (b ∷ (word ++ t)))
      (not_by b equals (word ++ t) (b == equals) refl (longest_begins Name s b word t h.0) refl)
      ∙ subst (λ (u : List ℕ). keyword_front u ≡ Ok (Keyword (b ∷ word), t)) h.0.whole (keyword_again s (b ∷ word) t h.0 h.1);
}

pub opens_again : (kind : ArgumentKind) (other : Bool) (s t u : List ℕ) (sel : Selector) → IsSelector kind (after_white s) sel t
    → after_white t ≡ opening ∷ u → branch_front kind other s ≡ Ok (branch.Opens sel u)
opens_again kind other s t u sel i e =
    let b = selector_again kind (after_white s) sel t i in
    ap (λ (l : List ℕ). next_branch kind other l) b.whole
    ∙ (ap
    (λ (v : Bool).
    if v then (if other then Ok (branch.Closes b.more) else Err (pattern_fault_at MissingOther (b.byte ∷ b.more)))
    else head_and_then (selector_front kind b.byte b.more) (λ y. branch_opens y.0 (after_white y.1)))
    b.no_end
    ∙ (ap (λ (r : Result (Selector × List ℕ) Fault). head_and_then r (λ y. branch_opens y.0 (after_white y.1))) b.reads
    ∙ ap (λ (l : List ℕ). branch_opens sel l) e))

pub closes_again : (kind : ArgumentKind) (s rest : List ℕ) → after_white s ≡ closing ∷ rest
    → branch_front kind true s ≡ Ok (branch.Closes rest)
closes_again kind s rest e = ap (λ (l : List ℕ). next_branch kind true l) e
