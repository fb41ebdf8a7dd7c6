-- Notes of a document that are gathered one after the other.
use Rattle.std.proofs.Common.{◌≡◌, List, [], ◌++◌, refl, ap, sym, ◌∙◌}
use Rattle.std.proofs.lemmas.List.{append-nil}
use Rattle.plural_fallback.specs.declared.locales.Part.TheVariants.{Cardinal, Ordinal}
use Rattle.serde_json.specs.Data.{Data}
use Rattle.document_notes.specs.DocumentNotes.{AreNotesIn, Gathers, IsNotedInPart, NoteAt}

pub gathers_nothing : (a : List NoteAt) → Gathers (λ more. more ≡ []) a a
gathers_nothing a = ([], refl, sym (append-nil a))

-- of the two parts, from nothing on
pub both_parts : (document : Data) (a b c : List NoteAt) → a ≡ [] → Gathers (IsNotedInPart document Cardinal) a b
    → Gathers (IsNotedInPart document Ordinal) b c → AreNotesIn document c
both_parts document a b c none (cardinal, first, is) (ordinal, second, more) =
    (cardinal, ordinal, first, second, more ∙ ap (λ l. l ++ ordinal) (is ∙ ap (λ l. l ++ cardinal) none))
