use Rattle.std.proofs.Common.{◌≡◌, [], ◌++◌, inl, inr, refl, sym, string_bytes}
use Rattle.std.proofs.lemmas.List.{append-nil}
use Rattle.serde_json.specs.View.{view}
use Rattle.form_commands.specs.Inner.ConditionSteps.{Grows}
use Rattle.form_commands.specs.KeyNotes.{IsNote, key_note_text}
use Rattle.form_commands.proofs.NoteLemmas.{known_key}
use Rattle.form_commands.proofs.FormLemmas.{on_ok}
use Rattle.form_commands.proofs.note.push_note.Goals as goal

pub returns-in-Ok : goal.returns-in-Ok
returns-in-Ok c =
    let unknown = rw c.if-is_unknown_by.true at c.is_unknown_by.ensures in
    ([], inr (((c.in-Ok.key.now, c.in-Ok.ensures.ok, unknown.0), unknown.1), refl), sym (append-nil (string_bytes c.args.notes.now)))

pub returns-in-Ok-2 : goal.returns-in-Ok-2
returns-in-Ok-2 c =
    let document = view c.args.document.now in
    let locale = c.args.locale.now in
    let key = c.in-Ok.key.now in
    let old = string_bytes c.args.notes.now in
    let new = string_bytes c.push_key.new.notes in
    let known = known_key document c.args.part locale c.in-Ok.key.now c.in-Ok.ensures.ok
    (rw c.if-is_unknown_by.false at c.is_unknown_by.ensures) in
    on_ok {P = new ≡ old ++ key_note_text c.args.place.now c.args.part locale key}
    {Q = Grows (IsNote document c.args.place.now c.args.part locale) old new} c.push_key.result
    (λ grown. (key_note_text c.args.place.now c.args.part locale key, inl (known, inl (key, c.in-Ok.ensures.ok, refl)), grown))
    c.push_key.ensures

pub returns-in-Err : goal.returns-in-Err
returns-in-Err c = (
  [],
  inl (inl (inr (c.in-Err.field-0, c.in-Err.ensures.err)), inr (c.in-Err.field-0, c.in-Err.ensures.err, refl)),
  sym (append-nil (string_bytes c.args.notes.now)),
)
