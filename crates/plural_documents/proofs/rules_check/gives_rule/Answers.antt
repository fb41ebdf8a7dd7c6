use Rattle.plural_documents.proofs.RightTokens.{rule_given}
use Rattle.plural_documents.proofs.rules_check.gives_rule.Goals.{in-Ok, in-Err-Memory, in-Err}
use Rattle.plural_documents.proofs.rules_check.gives_rule.Goals as goal

pub returns : goal.returns
returns c =
    elim c.match-from_str.branch [
      | in-Ok w ↦
          rw (w.result-is)
          (rule_given c.texts_give_one_answer.ensures c.args.text.now c.from_str.result c.from_str.ensures.gives _ w.in-Ok.is)
      | in-Err-Memory w ↦ rw (w.result-is) tt
      | in-Err w ↦ rw (w.result-is) tt
    ]
