use Rattle.plural_checker.proofs.read_text.fault_in.Goals as goal

pub returns : goal.returns
returns c = (c.in_ok-fault_of.ensures.fault c.unwrap.result).0 c.unwrap.ensures
