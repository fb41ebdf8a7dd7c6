use Rattle.std.proofs.Common.{◌∙◌, arith, sym}
use Rattle.std.proofs.lemmas.Bool.{eqb-true, eqb-false}
use Rattle.plural_base.proofs.encoding.RuleItemFaults.{none_left, nothing_left, empty_left, key_left}
use Rattle.plural_base.proofs.rules.bytes.keyed.KeyedRules.fault.Goals as goal

pub returns-in_err-item-clause-none : goal.returns-in_err-item-clause-none
returns-in_err-item-clause-none c =
    rw c.from_residual.ensures (none_left c.args.self.now.list c.args.self.now.place (sym c.in_err-item.ensures))

pub returns-in_err-item-clause-fault : goal.returns-in_err-item-clause-fault
returns-in_err-item-clause-fault c = λ fault.
    let told = nothing_left c.args.self.now.list c.args.self.now.place fault (sym c.in_err-item.ensures) in
    ((λ h. told.0 h ∙ sym c.from_residual.ensures), (λ h. told.1 (h ∙ c.from_residual.ensures)))

pub returns-then-is_empty-clause-fault : goal.returns-then-is_empty-clause-fault
returns-then-is_empty-clause-fault c = λ fault.
    empty_left c.args.self.now.list c.args.self.now.place c.in_ok-item.item.now fault (sym c.in_ok-item.ensures)
    (eqb-true _ _ (sym c.if-is_empty.ensures))

pub returns-else-is_empty-clause-fault : goal.returns-else-is_empty-clause-fault
returns-else-is_empty-clause-fault c = λ fault.
    let long = eqb-false _ _ (sym c.if-is_empty.ensures) in
    key_left c.args.self.now.list c.args.self.now.place c.in_ok-item.item.now fault (sym c.in_ok-item.ensures) (omega arith)
