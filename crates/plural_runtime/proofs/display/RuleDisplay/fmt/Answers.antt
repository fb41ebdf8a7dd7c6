use Rattle.std.proofs.Common.{sym, subst}
use Rattle.std.specs.Fmt.{HasWritten}
use Rattle.plural_runtime.proofs.texts.RuleTexts.{condition_text-is}
use Rattle.plural_runtime.proofs.display.RuleDisplay.fmt.Goals as goal

pub returns-clause-writes : goal.returns-clause-writes
returns-clause-writes g c = λ p ok. subst
    (λ bytes. HasWritten g.W.Write.write_str_gives c.args.f.now bytes c.write_relations.new.f)
    (sym (condition_text-is c.args.self.now)) (c.write_relations.ensures p ok)
