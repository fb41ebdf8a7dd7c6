use Rattle.std.proofs.Common.{[], List, subst, sym}
use Rattle.rule_notes.proofs.NoteGrowth.{adds_to_nothing}
use Rattle.rule_notes.specs.Inner.CauseLists.{Adds}
use Rattle.rule_notes.specs.RuleNotes.{AreRuleNotes}
use Rattle.rule_notes.specs.declared.category_rule.CategoryRule.{CategoryRule}
use Rattle.rule_notes.specs.declared.note.Note.{Note}
use Rattle.rule_notes.proofs.notes.notes_of.Goals as goal

pub returns : goal.returns
returns c =
    let rules = c.in_ok-rules.rules.items in
    let none = c.new-notes.result.items in
    let all = c.add_notes.new.notes.items in
    let added = subst (λ (seen : List CategoryRule). Adds (AreRuleNotes [] seen) none all) c.as_slice.ensures.value c.in_ok-add_notes.ensures in (
      rules,
      c.in_ok-rules.ensures,
      subst (λ (notes : List Note). AreRuleNotes [] rules notes) (sym c.into.ensures)
          (adds_to_nothing (AreRuleNotes [] rules) none all c.new-notes.ensures.items added),
    )
