use Rattle.std.proofs.Common.{◌∷◌, ◌∙◌, ap, sym}
use Rattle.plural_base.proofs.encoding.RuleItemFaults.{none_has_key, empty_has_no_key, first_byte_left, other_key}
use Rattle.plural_base.proofs.rules.bytes.keyed.KeyedRules.bytes_of.Goals as goal

pub returns-in_err-item : goal.returns-in_err-item
returns-in_err-item c =
    rw c.from_residual.ensures (none_has_key c.args.key c.args.self.now.list c.args.self.now.place (sym c.in_err-item.ensures))

pub returns-in_err-first : goal.returns-in_err-first
returns-in_err-first c =
    rw c.from_residual-in_err-first.ensures
    (empty_has_no_key c.args.key c.args.self.now.list c.args.self.now.place c.in_ok-item.item.now (sym c.in_ok-item.ensures)
    c.in_err-first.ensures.cases)

pub returns-then-first-key : goal.returns-then-first-key
returns-then-first-key c =
    first_byte_left c.args.self.now.list c.args.self.now.place c.in_ok-item.item.now c.args.key c.in_ok-first.bytes.now
    (sym c.in_ok-item.ensures)
    (c.in_ok-first.ensures.cases.0 ∙ ap (λ first. first ∷ c.in_ok-first.bytes.now) c.if-first-key.true)

pub returns-else-first-key : goal.returns-else-first-key
returns-else-first-key c =
    other_key c.args.key c.args.self.now.list c.args.self.now.place c.in_ok-item.item.now c.in_ok-first.first.now
    c.in_ok-first.bytes.now (sym c.in_ok-item.ensures) c.in_ok-first.ensures.cases.0 c.if-first-key.false
