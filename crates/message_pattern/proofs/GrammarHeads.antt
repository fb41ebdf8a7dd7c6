-- The heads of arguments and branches are those of the grammar.
use Rattle.std.proofs.Common.{◌≡◌, ◌≢◌, ◌⊎◌, inl, inr, ◌==◌, ℕ, List, [], ◌∷◌, ◌++◌, Bool, true, false, ◌&&◌, Option, Some, None, Result, Ok, Err, codes, refl, ap, subst, ◌∙◌, if◌then◌else◌}
use Rattle.std.proofs.lemmas.Bool.{eqb-true}
use Rattle.pattern_bytes.specs.declared.bytes.Class.TheVariants.{Name, Number, Digit, Letter}
use Rattle.message_pattern.specs.declared.error.Fault.{Fault}
use Rattle.message_pattern.specs.declared.error.FaultKind.TheVariants.{ExpectedName, BadNumber, ExpectedEnd, ExpectedType, ExpectedStyle, ExpectedOffset, ExpectedSelector, ExpectedValue, ExpectedBranch, MissingOther}
use Rattle.message_pattern.specs.declared.head.Formats.{Formats}
use Rattle.message_pattern.specs.declared.head.Formats.TheVariants.{Refused, Allowed}
use Rattle.message_pattern.specs.declared.part.ArgumentKind.{ArgumentKind}
use Rattle.message_pattern.specs.declared.part.ArgumentKind.TheVariants.{Plural, Ordinal, Select}
use Rattle.pattern_bytes.specs.PatternBytes.{comma, equals, opening, closing, is_empty_text, class_front}
use Rattle.pattern_bytes.specs.PatternBytes.{behind_run, after_white, after_word}
use Rattle.message_pattern.specs.PatternParts.{Selector, Exactly}
use Rattle.message_pattern.specs.PatternHeads.{head_and_then, pattern_fault_at, unclosed, missing_front_fault, Head, Plain, Choice, is_bad_number, name_front, kind_named, style_front, kind_before, kind_front, digits_front, offset_behind, offset_front, choice_front, is_simple_type, simple_front, typed_front, behind_name, head_front, is_counting, is_number, exact_front, keyword_front, selector_front, branch_opens, next_branch, branch_front, BranchFront}
use Rattle.message_pattern.specs.PatternHeads as branch
use Rattle.message_pattern.specs.PatternGrammar.{IsSimpleText, IsNameOrNumber, IsArgumentType, IsOffsetValue, IsOffset, IsSelector}
use Rattle.message_pattern.proofs.Longest.{is_longest}
use Rattle.message_pattern.proofs.SimpleHeads.{IsSimpleHead, simple_sound}

-- ---- results

abbrev ok_of : {A : Type 0} → A → Result A Fault
ok_of x = Ok x

no_ok : {A : Type 0} {d : Fault} {x : A} → Err d ≡ Ok x → ⊥
no_ok e = cc

same_ok : {A : Type 0} {x y : A} → ok_of x ≡ ok_of y → x ≡ y
same_ok e = cc

bind_ok : {A B : Type 0} (r : Result A Fault) (f : A → Result B Fault) (y : B) → head_and_then r f ≡ Ok y → (x : A) × (r ≡ Ok x) × (f x ≡ Ok y)
bind_ok (Ok x) f y e = (x, refl, e)
bind_ok (Err d) f y e = absurd (no_ok e)

guard_ok : {A : Type 0} (b : Bool) (d : Fault) (r : Result A Fault) (y : A) → (if b then Err d else r) ≡ Ok y → (b ≡ false) × (r ≡ Ok y)
guard_ok true d r y e = absurd (no_ok e)
guard_ok false d r y e = (refl, e)

nonempty_of : (w : List ℕ) → is_empty_text w ≡ false → w ≢ []
nonempty_of [] e h = let t : true ≡ false = e in cc
nonempty_of (b ∷ w) e h = cc

pub empty_false : (w : List ℕ) → w ≢ [] → is_empty_text w ≡ false
empty_false [] h = absurd (h refl)
empty_false (b ∷ w) h = refl

-- ---- what is read is in the grammar

pub name_sound : (s : List ℕ) (x : List ℕ × List ℕ) → name_front s ≡ Ok x → (t : List ℕ) × IsNameOrNumber s x.0 t × (after_white t ≡ x.1)
name_sound s x e =
    let g = guard_ok (is_empty_text (class_front Name s)) (missing_front_fault ExpectedName s) _ x e in
    let k = guard_ok (is_bad_number (class_front Name s)) (pattern_fault_at BadNumber s) _ x g.1 in
    subst (λ (y : List ℕ × List ℕ). (t : List ℕ) × IsNameOrNumber s y.0 t × (after_white t ≡ y.1)) (same_ok k.1)
    (behind_run Name s, record { bytes = is_longest Name s; nonempty = nonempty_of (class_front Name s) g.0; no_zeros = k.0 }, refl)

comma_step : (kind : ArgumentKind) (b : ℕ) (s : List ℕ) (v : Bool) (x : ArgumentKind × List ℕ) → (b == comma) ≡ v
    → (if v then Ok (kind, s) else Err (pattern_fault_at ExpectedStyle (b ∷ s))) ≡ Ok x → (kind ≡ x.0) × (b ∷ s ≡ comma ∷ x.1)
comma_step kind b s true x t e =
    let p : (kind, s) ≡ x = same_ok e in (
      ap (λ (y : ArgumentKind × List ℕ). y.0) p,
      ap (λ (c : ℕ). c ∷ s) (eqb-true b comma t)
          ∙ ap (λ (y : ArgumentKind × List ℕ). comma ∷ y.1) p,
    )
comma_step kind b s false x t e = absurd (no_ok e)

style_sound : (kind : ArgumentKind) (s : List ℕ) (x : ArgumentKind × List ℕ) → style_front kind s ≡ Ok x → (kind ≡ x.0) × (s ≡ comma ∷ x.1)
style_sound kind [] x e = absurd (no_ok e)
style_sound kind (b ∷ s) x e = comma_step kind b s (b == comma) x refl e

before_sound : (s : List ℕ) (k : Option ArgumentKind) (r : List ℕ) (x : ArgumentKind × List ℕ) → kind_before s k r ≡ Ok x
    → (k ≡ Some x.0) × (r ≡ comma ∷ x.1)
before_sound s None r x e = absurd (no_ok e)
before_sound s (Some kind) r x e = let h = style_sound kind r x e in (ap Some h.0, h.1)

pub kind_sound : (s : List ℕ) (x : ArgumentKind × List ℕ) → kind_front s ≡ Ok x
    → (t : List ℕ) × IsArgumentType s x.0 t × (after_white t ≡ comma ∷ x.1)
kind_sound s x e =
    let g = guard_ok (is_empty_text (class_front Letter s)) (missing_front_fault ExpectedType s) _ x e in
    let h = before_sound s (kind_named (class_front Letter s)) (after_white (behind_run Letter s)) x g.1 in (
      behind_run Letter s,
      record {
        word = class_front Letter s;
        letters = is_longest Letter s;
        nonempty = nonempty_of (class_front Letter s) g.0;
        named = h.0;
      },
      h.1,
    )

offset_step : (s : List ℕ) (o : Option (List ℕ)) (x : Option (List ℕ) × List ℕ) → after_word (codes "offset:") s ≡ o
    → offset_behind o s ≡ Ok x
    → IsOffsetValue s x.0 x.1
offset_step s None x h e = subst (λ (y : Option (List ℕ) × List ℕ). IsOffsetValue s y.0 y.1) (same_ok e) (h, refl)
offset_step s (Some t) x h e =
    let g = guard_ok (is_empty_text (class_front Digit (after_white t))) (missing_front_fault ExpectedOffset (after_white t)) _ x e in
    subst (λ (y : Option (List ℕ) × List ℕ). IsOffsetValue s y.0 y.1) (same_ok g.1)
    (t, h, is_longest Digit (after_white t), nonempty_of (class_front Digit (after_white t)) g.0)

pub offset_sound : (kind : ArgumentKind) (s : List ℕ) (x : Option (List ℕ) × List ℕ) → offset_front kind s ≡ Ok x → IsOffset kind s x.0 x.1
offset_sound Select s x e = subst (λ (y : Option (List ℕ) × List ℕ). (y.0 ≡ None) × (y.1 ≡ s)) (same_ok e) (refl, refl)
offset_sound Plural s x e = offset_step (after_white s) (after_word (codes "offset:") (after_white s)) x refl e
offset_sound Ordinal s x e = offset_step (after_white s) (after_word (codes "offset:") (after_white s)) x refl e

-- what the grammar says of the text between the braces of an argument
abbrev pub IsSimple : Formats → List ℕ → List ℕ → List ℕ → Type 0
IsSimple formats s text rest =
    (formats ≡ Allowed) × (s ≡ text ++ closing ∷ rest) × (name : List ℕ) × (word : List ℕ) × (style : Option (List ℕ))
    × IsSimpleText text name word style

-- what it says of the head of an argument
abbrev pub HeadIs : Formats → List ℕ → Head → List ℕ → Type 0
HeadIs formats s (Plain name) rest =
    ((t : List ℕ) × IsNameOrNumber (after_white s) name t × (after_white t ≡ closing ∷ rest)) ⊎ IsSimple formats (after_white s) name rest
HeadIs formats s (Choice kind name offset) rest =
    (t : List ℕ) × (u : List ℕ) × (v : List ℕ) × (w : List ℕ)
    × IsNameOrNumber (after_white s) name t × (after_white t ≡ comma ∷ u) × IsArgumentType (after_white u) kind v
    × (after_white v ≡ comma ∷ w)
    × IsOffset kind w offset rest

-- what it says behind the name
abbrev pub BehindName : Formats → List ℕ → List ℕ → List ℕ → Head → List ℕ → Type 0
BehindName formats argument name s (Plain n) rest = ((name ≡ n) × (s ≡ closing ∷ rest)) ⊎ IsSimple formats argument n rest
BehindName formats argument name s (Choice kind n offset) rest =
    (u : List ℕ) × (v : List ℕ) × (w : List ℕ)
    × (name ≡ n) × (s ≡ comma ∷ u) × IsArgumentType (after_white u) kind v × (after_white v ≡ comma ∷ w) × IsOffset kind w offset rest

choice_sound : (formats : Formats) (argument name : List ℕ) (c : ℕ) (s : List ℕ) (x : Head × List ℕ) → c ≡ comma
    → choice_front name s ≡ Ok x
    → BehindName formats argument name (c ∷ s) x.0 x.1
choice_sound formats argument name c s x h e =
    let k = bind_ok (kind_front (after_white s)) _ x e in
    let o = bind_ok (offset_front k.0.0 k.0.1) _ x k.2 in
    let t = kind_sound (after_white s) k.0 k.1 in
    subst (λ (y : Head × List ℕ). BehindName formats argument name (c ∷ s) y.0 y.1) (same_ok o.2)
    (s, t.0, k.0.1, refl, ap (λ (b : ℕ). b ∷ s) h, t.1, t.2, offset_sound k.0.0 k.0.1 o.0 o.1)

simple_is : (argument name s : List ℕ) (x : Head × List ℕ) → IsSimpleHead argument x.0 x.1 → BehindName Allowed argument name s x.0 x.1
simple_is argument name s (Plain text, rest) h = inr (refl, h.0, h.1, h.2, h.3, h.4)
simple_is argument name s (Choice kind n offset, rest) h = absurd h

typed_step : (argument name t : List ℕ) (c : ℕ) (s : List ℕ) (v : Bool) (x : Head × List ℕ) → IsNameOrNumber argument name t
    → after_white t ≡ c ∷ s → c ≡ comma
    → is_simple_type (class_front Letter (after_white s)) ≡ v
    → (if v then simple_front argument (after_white (behind_run Letter (after_white s))) else choice_front name s) ≡ Ok x
    → BehindName Allowed argument name (c ∷ s) x.0 x.1
typed_step argument name t c s true x i e h w k =
    simple_is argument name (c ∷ s) x (simple_sound argument name t s x i (e ∙ ap (λ (b : ℕ). b ∷ s) h) w k)
typed_step argument name t c s false x i e h w k = choice_sound Allowed argument name c s x h k

typed_sound : (formats : Formats) (argument name t : List ℕ) (c : ℕ) (s : List ℕ) (x : Head × List ℕ) → IsNameOrNumber argument name t
    → after_white t ≡ c ∷ s → c ≡ comma
    → typed_front formats argument name s ≡ Ok x → BehindName formats argument name (c ∷ s) x.0 x.1
typed_sound Refused argument name t c s x i e h k = choice_sound Refused argument name c s x h k
typed_sound Allowed argument name t c s x i e h k =
    typed_step argument name t c s (is_simple_type (class_front Letter (after_white s))) x i e h refl k

behind_comma : (formats : Formats) (argument name t : List ℕ) (b : ℕ) (s : List ℕ) (v : Bool) (x : Head × List ℕ)
    → IsNameOrNumber argument name t → after_white t ≡ b ∷ s
    → (b == comma) ≡ v → (if v then typed_front formats argument name s else Err (pattern_fault_at ExpectedEnd (b ∷ s))) ≡ Ok x
    → BehindName formats argument name (b ∷ s) x.0 x.1
behind_comma formats argument name t b s true x i w h e = typed_sound formats argument name t b s x i w (eqb-true b comma h) e
behind_comma formats argument name t b s false x i w h e = absurd (no_ok e)

behind_closing : (formats : Formats) (argument name t : List ℕ) (b : ℕ) (s : List ℕ) (v : Bool) (x : Head × List ℕ)
    → IsNameOrNumber argument name t → after_white t ≡ b ∷ s
    → (b == closing) ≡ v
    → (if v then Ok (Plain name, s) else if b == comma then typed_front formats argument name s else Err (pattern_fault_at ExpectedEnd (b ∷ s)))
    ≡ Ok x
    → BehindName formats argument name (b ∷ s) x.0 x.1
behind_closing formats argument name t b s true x i w h e =
    subst (λ (y : Head × List ℕ). BehindName formats argument name (b ∷ s) y.0 y.1) (same_ok e)
    (inl (refl, ap (λ (c : ℕ). c ∷ s) (eqb-true b closing h)))
behind_closing formats argument name t b s false x i w h e = behind_comma formats argument name t b s (b == comma) x i w refl e

behind_sound : (formats : Formats) (argument name t s : List ℕ) (x : Head × List ℕ) → IsNameOrNumber argument name t → after_white t ≡ s
    → behind_name formats argument name s ≡ Ok x → BehindName formats argument name s x.0 x.1
behind_sound formats argument name t [] x i w e = absurd (no_ok e)
behind_sound formats argument name t (b ∷ s) x i w e = behind_closing formats argument name t b s (b == closing) x i w refl e

joined : (formats : Formats) (s name t r : List ℕ) (h : Head) (rest : List ℕ) → IsNameOrNumber (after_white s) name t → after_white t ≡ r
    → BehindName formats (after_white s) name r h rest → HeadIs formats s h rest
joined formats s name t r (Plain n) rest i e (inl b) =
    inl (t, subst (λ (m : List ℕ). IsNameOrNumber (after_white s) m t) b.0 i, e ∙ b.1)
joined formats s name t r (Plain n) rest i e (inr b) = inr b
joined formats s name t r (Choice kind n offset) rest i e b =
    (t, b.0, b.1, b.2, subst (λ (m : List ℕ). IsNameOrNumber (after_white s) m t) b.3 i, e ∙ b.4, b.5, b.6, b.7)

pub head_sound : (formats : Formats) (s : List ℕ) (x : Head × List ℕ) → head_front formats s ≡ Ok x → HeadIs formats s x.0 x.1
head_sound formats s x e =
    let n = bind_ok (name_front (after_white s)) _ x e in
    let i = name_sound (after_white s) n.0 n.1 in
    joined formats s n.0.0 i.0 n.0.1 x.0 x.1 i.1 i.2 (behind_sound formats (after_white s) n.0.0 i.0 n.0.1 x i.1 i.2 n.2)

-- ---- and before a branch

exact_by : (kind : ArgumentKind) (b : ℕ) (s : List ℕ) (v : Bool) (x : Selector × List ℕ) → b ≡ equals → is_counting kind ≡ true
    → is_number (class_front Number s) ≡ v
    → (if v then Ok (Exactly (class_front Number s), behind_run Number s) else Err (missing_front_fault ExpectedValue s)) ≡ Ok x
    → IsSelector kind (b ∷ s) x.0 x.1
exact_by kind b s true x h c t e =
    subst (λ (y : Selector × List ℕ). IsSelector kind (b ∷ s) y.0 y.1) (same_ok e) (s, ap (λ (n : ℕ). n ∷ s) h, c, is_longest Number s, t)
exact_by kind b s false x h c t e = absurd (no_ok e)

exact_sound : (kind : ArgumentKind) (b : ℕ) (s : List ℕ) (x : Selector × List ℕ) → b ≡ equals → is_counting kind ≡ true
    → exact_front s ≡ Ok x
    → IsSelector kind (b ∷ s) x.0 x.1
exact_sound kind b s x h c e = exact_by kind b s (is_number (class_front Number s)) x h c refl e

keyword_sound : (kind : ArgumentKind) (s : List ℕ) (x : Selector × List ℕ) → keyword_front s ≡ Ok x → IsSelector kind s x.0 x.1
keyword_sound kind s x e =
    let g = guard_ok (is_empty_text (class_front Name s)) (missing_front_fault ExpectedSelector s) _ x e in
    subst (λ (y : Selector × List ℕ). IsSelector kind s y.0 y.1) (same_ok g.1) (is_longest Name s, nonempty_of (class_front Name s) g.0)

and_true : (a b : Bool) → (a && b) ≡ true → (a ≡ true) × (b ≡ true)
and_true true true e = (refl, refl)
and_true true false e = absurd (let t : false ≡ true = e in cc)
and_true false b e = absurd (let t : false ≡ true = e in cc)

selector_step : (kind : ArgumentKind) (b : ℕ) (s : List ℕ) (v : Bool) (x : Selector × List ℕ) → (b == equals && is_counting kind) ≡ v
    → (if v then exact_front s else keyword_front (b ∷ s)) ≡ Ok x → IsSelector kind (b ∷ s) x.0 x.1
selector_step kind b s true x t e =
    let h = and_true (b == equals) (is_counting kind) t in exact_sound kind b s x (eqb-true b equals h.0) h.1 e
selector_step kind b s false x t e = keyword_sound kind (b ∷ s) x e

-- what the grammar says of what stands before a branch
abbrev pub BranchIs : ArgumentKind → Bool → List ℕ → BranchFront → Type 0
BranchIs kind other s (branch.Closes rest) = (other ≡ true) × (s ≡ closing ∷ rest)
BranchIs kind other s (branch.Opens sel rest) = (t : List ℕ) × IsSelector kind s sel t × (after_white t ≡ opening ∷ rest)

opens_step : (kind : ArgumentKind) (other : Bool) (s t : List ℕ) (sel : Selector) (b : ℕ) (u : List ℕ) (v : Bool) (x : BranchFront)
    → IsSelector kind s sel t → after_white t ≡ b ∷ u → (b == opening) ≡ v
    → (if v then Ok (branch.Opens sel u) else Err (pattern_fault_at ExpectedBranch (b ∷ u))) ≡ Ok x → BranchIs kind other s x
opens_step kind other s t sel b u true x i w h e =
    subst (λ (y : BranchFront). BranchIs kind other s y) (same_ok e) (t, i, w ∙ ap (λ (c : ℕ). c ∷ u) (eqb-true b opening h))
opens_step kind other s t sel b u false x i w h e = absurd (no_ok e)

opens_sound : (kind : ArgumentKind) (other : Bool) (s t : List ℕ) (sel : Selector) (r : List ℕ) (x : BranchFront)
    → IsSelector kind s sel t → after_white t ≡ r → branch_opens sel r ≡ Ok x → BranchIs kind other s x
opens_sound kind other s t sel [] x i w e = absurd (no_ok e)
opens_sound kind other s t sel (b ∷ u) x i w e = opens_step kind other s t sel b u (b == opening) x i w refl e

closes_step : (kind : ArgumentKind) (other : Bool) (b : ℕ) (s : List ℕ) (x : BranchFront) → b ≡ closing
    → (if other then Ok (branch.Closes s) else Err (pattern_fault_at MissingOther (b ∷ s))) ≡ Ok x → BranchIs kind other (b ∷ s) x
closes_step kind true b s x h e =
    subst (λ (y : BranchFront). BranchIs kind true (b ∷ s) y) (same_ok e) (refl, ap (λ (c : ℕ). c ∷ s) h)
closes_step kind false b s x h e = absurd (no_ok e)

next_step : (kind : ArgumentKind) (other : Bool) (b : ℕ) (s : List ℕ) (v : Bool) (x : BranchFront) → (b == closing) ≡ v
    → (if v then (if other then Ok (branch.Closes s) else Err (pattern_fault_at MissingOther (b ∷ s)))
    else head_and_then (selector_front kind b s) (λ y. branch_opens y.0 (after_white y.1))) ≡ Ok x → BranchIs kind other (b ∷ s) x
next_step kind other b s true x h e = closes_step kind other b s x (eqb-true b closing h) e
next_step kind other b s false x h e =
    let k = bind_ok (selector_front kind b s) _ x e in
    opens_sound kind other (b ∷ s) k.0.1 k.0.0 (after_white k.0.1) x
    (selector_step kind b s (b == equals && is_counting kind) k.0 refl k.1) refl k.2

next_sound : (kind : ArgumentKind) (other : Bool) (s : List ℕ) (x : BranchFront) → next_branch kind other s ≡ Ok x → BranchIs kind other s x
next_sound kind other [] x e = absurd (no_ok e)
next_sound kind other (b ∷ s) x e = next_step kind other b s (b == closing) x refl e

pub branch_sound : (kind : ArgumentKind) (other : Bool) (s : List ℕ) (x : BranchFront) → branch_front kind other s ≡ Ok x
    → BranchIs kind other (after_white s) x
branch_sound kind other s x e = next_sound kind other (after_white s) x e
