use Rattle.form_commands.proofs.JoinLemmas.{cut_at_or}
use Rattle.form_commands.proofs.c_condition.cut_before.Goals as goal

pub returns-in_ok-end-in-Or : goal.returns-in_ok-end-in-Or
returns-in_ok-end-in-Or c = rw c.in-Or.is (λ done group is.
    cut_at_or done group c.args.ended.now c.end.new.ended c.args.current.now c.new.result (c.in_ok-end-in-Or.ensures group is.is_current)
    c.new.ensures is)
