use Rattle.std.proofs.Common.{◌∙◌, ◌≡◌, List, ℕ, ap, sym, subst, length}
use Rattle.std.proofs.lemmas.Bool.{eqb-false}
use Rattle.plural_operands.specs.Operands.{Operands}
use Rattle.plural_operands.specs.OperandText.{WritesUnsignedOperands}
use Rattle.plural_operands.specs.Inner.OperandReader.{without_sign}
use Rattle.plural_operands.proofs.numbers.OperandTexts.{not_named, unsigned_named}
use Rattle.plural_operands.proofs.operands.text.PluralOperandsFromStr.from_str.Goals as goal

pub returns-in-Some : goal.returns-in-Some
returns-in-Some c =
    let text = c.args.text.now in
    let o = c.in-Some.operands in
    let unsigned : c.behind_sign.result.now ≡ without_sign 45 text
    = c.behind_sign.ensures ∙ ap (without_sign 45) c.as_bytes-text.ensures.value in
    unsigned_named text o (subst (λ (l : List ℕ). WritesUnsignedOperands l o) unsigned c.in-Some.ensures)

pub returns-in-None : goal.returns-in-None
returns-in-None c =
    let text = c.args.text.now in
    let bytes : c.as_bytes-text.result.now ≡ text = c.as_bytes-text.ensures.value in
    let unsigned : c.behind_sign.result.now ≡ without_sign 45 text = c.behind_sign.ensures ∙ ap (without_sign 45) bytes in
    not_named text (λ e. eqb-false (length c.as_bytes-text.result.now) 0 (sym c.if-is_empty.ensures) (ap length (bytes ∙ e)))
    (subst (λ (l : List ℕ). (o : Operands) → ¬ (WritesUnsignedOperands l o)) unsigned c.in-None.ensures)
