use Rattle.std.proofs.Common.{◌∙◌, sym}
use Rattle.plural_base.proofs.integers.Fractions.{by_class, no_fraction}
use Rattle.plural_base.proofs.rules.prepared.PreparedRules.told_of_fraction.Goals as goal

pub returns-in-Some : goal.returns-in-Some
returns-in-Some c =
    record {
      told = c.told_of_fractions.ensures.told c.args.operands c.in-Some.ensures.of;
      all = c.told_of_fractions.ensures.all c.args.operands c.in-Some.ensures.of
          ∙ by_class c.args.self.now c.args.operands c.in-Some.fractions c.in-Some.ensures.exact;
    }

pub returns-in-None-clause-all : goal.returns-in-None-clause-all
returns-in-None-clause-all c = sym (no_fraction c.args.self.now c.args.operands c.in-None.ensures.exact)
