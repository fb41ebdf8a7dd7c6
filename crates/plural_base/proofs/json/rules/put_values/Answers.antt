use Rattle.plural_base.proofs.json.rules.put_values.Goals as goal

pub returns-clause-read : goal.returns-clause-read
returns-clause-read c =
    record {
      zero = c.in_ok-put_optional.ensures.read;
      one = c.in_ok-put_optional-2.ensures.read;
      two = c.in_ok-put_optional-3.ensures.read;
      few = c.in_ok-put_optional-4.ensures.read;
      many = c.in_ok-put_optional-5.ensures.read;
    }
