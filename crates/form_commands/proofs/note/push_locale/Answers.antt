use Rattle.std.proofs.Common.{Bool, string_bytes, subst}
use Rattle.plural_fallback.specs.declared.locales.Part.TheVariants.{Cardinal, Ordinal}
use Rattle.serde_json.specs.View.{view}
use Rattle.form_commands.specs.Inner.ConditionSteps.{Grows}
use Rattle.form_commands.specs.KeyNotes.{AreLocaleNotes, IsNote, IsNoteIf}
use Rattle.form_commands.proofs.NoteLemmas.{two_notes}
use Rattle.form_commands.proofs.FormLemmas.{on_ok}
use Rattle.form_commands.proofs.note.push_locale.Goals as goal

pub returns : goal.returns
returns c =
    let document = view c.args.document.now in
    let place = c.args.place.now in
    let locale = c.args.locale.now in
    let value = view c.args.value.now in
    let old = string_bytes c.args.notes.now in
    let mid = string_bytes c.push_if.new.notes in
    let new = string_bytes c.push_if-2.new.notes in
    on_ok {P = Grows (IsNoteIf c.is_asked-ordinal.result (IsNote document place Ordinal locale)) mid new}
    {Q = Grows (AreLocaleNotes document place locale value) old new} c.push_if-2.result
    (λ second. two_notes document place locale value old mid new
    (subst (λ (b : Bool). Grows (IsNoteIf b (IsNote document place Cardinal locale)) old mid) c.is_asked-cardinal.ensures
    c.in_ok-push_if.ensures)
    (subst (λ (b : Bool). Grows (IsNoteIf b (IsNote document place Ordinal locale)) mid new) c.is_asked-ordinal.ensures second))
    c.push_if-2.ensures
