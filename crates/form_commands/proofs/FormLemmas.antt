-- The lines of forms, one after the other.
use Rattle.std.proofs.Common.{◌≡◌, ℕ, List, [], ◌∷◌, ◌++◌, Result, Ok, Err, refl, sym, ◌∙◌, ap, subst, append_assoc}
use Rattle.std.proofs.lemmas.List.{append-nil}
use Rattle.icu_plurals.specs.declared.PluralCategory.{PluralCategory}
use Rattle.std.specs.Prelude.{codes, OnOk, ⊤}
use Rattle.std.specs.declared.alloc.AllocError.{AllocError}
use Rattle.icu_plurals.specs.Categories.{name_of}
use Rattle.icu_plurals.specs.RulesJson.{text_under}
use Rattle.serde_json.specs.View.{view}
use Rattle.form_commands.specs.FormLines.{AreForms, IsFormLine, IsSamplesOf, IsWholesText}
use Rattle.form_commands.specs.Inner.ConditionSteps.{Grows}
use Rattle.form_commands.specs.declared.language.LanguageRules.{LanguageRules}

-- what holds at Ok has a consequence there
pub on_ok : {P Q : Type 0} (r : Result ⊤ AllocError) → (P → Q) → OnOk r P → OnOk r Q
on_ok (Ok x) f h = f h
on_ok (Err e) f h = tt

-- with the lines of the categories that are left, the text has grown by the lines of all
abbrev pub Completes : LanguageRules → List PluralCategory → List PluralCategory → List ℕ → List ℕ → Type 0
Completes language all left initial text =
    (rest : List ℕ) → AreForms language left rest → (whole : List ℕ) × AreForms language all whole × (initial ++ whole ≡ text ++ rest)

-- none has a line yet
pub none_yet : (language : LanguageRules) (all : List PluralCategory) (text : List ℕ) → Completes language all all text text
none_yet language all text rest h = (rest, h, refl)

-- one more has
pub one_more : (language : LanguageRules) (category : PluralCategory) (all left after : List PluralCategory) (initial old new : List ℕ)
    → left ≡ category ∷ after → Completes language all left initial old → Grows (IsFormLine language category) old new
    → Completes language all after initial new
one_more language category all left after initial old new is so_far grown rest h =
    let line = grown.0 in
    let more =
    subst (λ (cs : List PluralCategory). Completes language all cs initial old) is so_far (line ++ rest)
    (line, rest, grown.1, h, refl) in
    (more.0, more.1, more.2 ∙ sym (append_assoc old line rest) ∙ ap (λ (t : List ℕ). t ++ rest) (sym grown.2))

-- all have
pub all_grown : (language : LanguageRules) (all left : List PluralCategory) (initial text : List ℕ) → left ≡ []
    → Completes language all left initial text → Grows (AreForms language all) initial text
all_grown language all left initial text none so_far =
    let whole = subst (λ (cs : List PluralCategory). Completes language all cs initial text) none so_far [] refl in
    (whole.0, whole.1, sym (append-nil text) ∙ sym whole.2)

-- ---- One line

five_parts : (old n k w s e : List ℕ) → ((((old ++ n) ++ k) ++ w) ++ s) ++ e ≡ old ++ ((((n ++ k) ++ w) ++ s) ++ e)
five_parts old n k w s e = simp append_assoc

-- its parts are appended one after the other
pub form_grown : (language : LanguageRules) (category : PluralCategory) (old first second third fourth new : List ℕ)
    → first ≡ old ++ name_of category → second ≡ first ++ codes ": " → Grows (IsWholesText language.rules category) second third
    → Grows (IsSamplesOf (text_under category (view language.value.now))) third fourth → new ≡ fourth ++ codes "\n"
    → Grows (IsFormLine language category) old new
form_grown language category old first second third fourth new a b w s e =
    let all : new ≡ ((((old ++ name_of category) ++ codes ": ") ++ w.0) ++ s.0) ++ codes "\n" =
    e ∙ ap (λ (t : List ℕ). t ++ codes "\n") (s.2 ∙ ap (λ (t : List ℕ). t ++ s.0) (w.2 ∙ ap (λ (t : List ℕ). t ++ w.0)
    (b ∙ ap (λ (t : List ℕ). t ++ codes ": ") a))) in (
      name_of category ++ codes ": " ++ w.0 ++ s.0 ++ codes "\n",
      (w.0, s.0, w.1, s.1, refl),
      all ∙ five_parts old (name_of category) (codes ": ") w.0 s.0 (codes "\n"),
    )
