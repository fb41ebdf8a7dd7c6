use Rattle.std.proofs.Common.{◌∙◌, refl, sym, inl, inr, arith}
use Rattle.plural_base.specs.FiveRules.{moduli_of}
use Rattle.plural_base.proofs.bound.Moduli.{tests_tell}
use Rattle.plural_base.proofs.rules.PluralRules.is_within_bound.Goals as goal

pub returns-then-is_long_after : goal.returns-then-is_long_after
returns-then-is_long_after c =
    let rules = c.args.self.now in
    let same = c.all_moduli_divide.ensures in (
      λ admitted. record {
        fraction = omega arith;
        whole = inr (c.if-is_long_after.ensures.0 refl, (tests_tell (moduli_of rules)).0 (sym same ∙ admitted));
      },
      λ bound. elim bound.whole [ inl short ↦ absurd (omega arith) | inr long ↦ same ∙ (tests_tell (moduli_of rules)).1 long.1 ],
    )
