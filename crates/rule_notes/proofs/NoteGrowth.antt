-- Lists of notes grow by one part after the other.
use Rattle.std.proofs.Common.{◌≡◌, ℕ, ◌+◌, ◌<◌, List, [], ◌∷◌, ◌++◌, length, take, get_or, refl, ap, sym, subst, ◌∙◌, append_assoc}
use Rattle.std.proofs.lemmas.List.{append-nil, take_more}
use Rattle.rule_notes.specs.ConditionCauses.{NotesBoth}
use Rattle.rule_notes.specs.Inner.CauseLists.{Adds}
use Rattle.rule_notes.specs.RuleNotes.{AreNotesOfRule, AreRuleNotes}
use Rattle.rule_notes.specs.declared.category_rule.CategoryRule.{CategoryRule}
use Rattle.rule_notes.specs.declared.note.Note.{Note}

-- two parts, one after the other
pub adds_both : {A : Type 0} (First Second : List A → Type 0) (a b c : List A) → Adds First a b → Adds Second b c
    → Adds (NotesBoth First Second) a c
adds_both First Second a b c (f, first, is) (g, second, more) =
    (f ++ g, (f, g, first, second, refl), more ∙ ap (λ l. l ++ g) is ∙ append_assoc a f g)

-- a rule more
rules_snoc : (earlier rules : List CategoryRule) (rule : CategoryRule) (a b : List Note) → AreRuleNotes earlier rules a
    → AreNotesOfRule (earlier ++ rules) rule b → AreRuleNotes earlier (rules ++ rule ∷ []) (a ++ b)
rules_snoc earlier [] rule a b none last =
    let behind : AreNotesOfRule earlier rule b = subst (λ (l : List CategoryRule). AreNotesOfRule l rule b) (append-nil earlier) last in
    (b, [], behind, refl, ap (λ l. l ++ b) none ∙ sym (append-nil b))
rules_snoc earlier (r ∷ rules) rule a b (first, rest, noted, each, is) last =
    let behind : AreNotesOfRule ((earlier ++ r ∷ []) ++ rules) rule b =
    subst (λ (l : List CategoryRule). AreNotesOfRule l rule b) (sym (append_assoc earlier (r ∷ []) rules)) last in (
      first,
      rest ++ b,
      noted,
      rules_snoc (earlier ++ r ∷ []) rules rule rest b each behind,
      ap (λ l. l ++ b) is ∙ append_assoc first rest b,
    )

pub adds_rule : (rules : List CategoryRule) (i : ℕ) (rule : CategoryRule) (old so_far new : List Note) → i < length rules
    → rule ≡ get_or rules i rule → Adds (AreRuleNotes [] (take i rules)) old so_far
    → Adds (AreNotesOfRule (take i rules) rule) so_far new → Adds (AreRuleNotes [] (take (i + 1) rules)) old new
adds_rule rules i rule old so_far new within is (a, each, before) (b, last, added) =
    let more : take (i + 1) rules ≡ take i rules ++ rule ∷ [] =
    take_more rules i rule within ∙ ap (λ r. take i rules ++ r ∷ []) (sym is) in (
      a ++ b,
      subst (λ (l : List CategoryRule). AreRuleNotes [] l (a ++ b)) (sym more) (rules_snoc [] (take i rules) rule a b each last),
      added ∙ ap (λ l. l ++ b) before ∙ append_assoc old a b,
    )

-- an empty list has grown to what is noted
pub adds_to_nothing : {A : Type 0} (Noted : List A → Type 0) (old new : List A) → old ≡ [] → Adds Noted old new → Noted new
adds_to_nothing Noted old new none (list, noted, is) = subst Noted (sym (is ∙ ap (λ l. l ++ list) none)) noted
