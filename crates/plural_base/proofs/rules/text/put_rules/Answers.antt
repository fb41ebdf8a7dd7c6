use Rattle.plural_base.proofs.rules.text.put_rules.Goals as goal

pub returns-clause-ok : goal.returns-clause-ok
returns-clause-ok c =
    record {
      zero = c.in_ok-put_rule.ensures.ok;
      one = c.in_ok-put_rule-2.ensures.ok;
      two = c.in_ok-put_rule-3.ensures.ok;
      few = c.in_ok-put_rule-4.ensures.ok;
      many = c.in_ok-put_rule-5.ensures.ok;
    }
