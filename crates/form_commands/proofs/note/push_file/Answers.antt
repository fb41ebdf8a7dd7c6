use Rattle.std.proofs.Common.{◌≡◌, ℕ, List, [], ◌++◌, codes, refl, string_bytes, subst, sym, ◌∙◌}
use Rattle.std.specs.Prelude.{Option}
use Rattle.std.proofs.lemmas.List.{append-nil}
use Rattle.serde_json.specs.Data.{Members}
use Rattle.serde_json.specs.View.{members_view, view}
use Rattle.form_commands.specs.Inner.ConditionSteps.{Grows}
use Rattle.form_commands.specs.KeyNotes.{AreMemberNotes, AreMessageNotes, IsFileNote}
use Rattle.form_commands.proofs.FormLemmas.{on_ok}
use Rattle.form_commands.proofs.note.push_file.Goals as goal

pub returns-in_ok-place-in-Some : goal.returns-in_ok-place-in-Some
returns-in_ok-place-in-Some c =
    let document = view c.args.document.now in
    let file = c.args.file.now in
    let locales = members_view c.in-Some.locales.now.entries in
    let old = string_bytes c.args.notes.now in
    let new = string_bytes c.push_members.new.notes in
    let place : c.as_str.result.now ≡ file.name.now ++ codes ": " = c.as_str.ensures.value ∙ c.in_ok-place-in-Some.ensures in
    on_ok {P = Grows (AreMemberNotes document c.as_str.result.now locales) old new} {Q = Grows (IsFileNote document file) old new}
    c.push_members.result
    (λ grown. (
      grown.0,
      subst (λ (ms : Option Members). AreMessageNotes document (file.name.now ++ codes ": ") ms grown.0) c.in-Some.ensures
          (subst (λ (p : List ℕ). AreMemberNotes document p locales grown.0) place grown.1),
      grown.2,
    ))
    c.push_members.ensures

pub returns-in-None : goal.returns-in-None
returns-in-None c = (
  [],
  subst (λ (ms : Option Members). AreMessageNotes (view c.args.document.now) (c.args.file.now.name.now ++ codes ": ") ms []) c.in-None.ensures
      refl,
  sym (append-nil (string_bytes c.args.notes.now)),
)
