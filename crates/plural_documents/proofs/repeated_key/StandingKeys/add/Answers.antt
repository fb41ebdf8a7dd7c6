use Rattle.std.proofs.Common.{refl}
use Rattle.plural_documents.proofs.KeyLemmas.{stands_again, stands_first, was_not_there, was_there}
use Rattle.plural_documents.proofs.repeated_key.StandingKeys.add.Goals as goal

pub returns-in_ok-insert-2 : goal.returns-in_ok-insert-2
returns-in_ok-insert-2 c keys are =
    stands_again keys c.args.key c.args.self.now c.insert.new.self c.insert-then-not-branch.new.self are c.in_ok-insert.ensures.keys
    c.in_ok-insert-2.ensures.keys (was_there _ c.in_ok-insert.field-0 c.in_ok-insert.ensures.added c.if-not-branch.true)

pub returns-else-not-branch : goal.returns-else-not-branch
returns-else-not-branch c keys are =
    stands_first keys c.args.key c.args.self.now c.insert.new.self c.args.self.now.again are c.in_ok-insert.ensures.keys refl
    (was_not_there _ c.in_ok-insert.field-0 c.in_ok-insert.ensures.added c.if-not-branch.false)
