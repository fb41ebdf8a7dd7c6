use Rattle.message_report.proofs.KeywordLemmas.{is_named}
use Rattle.message_report.proofs.branch_fault.category_named.Goals as goal

pub returns : goal.returns
returns c = is_named c.args.word.now c.get_for_cldr_bytes.result c.get_for_cldr_bytes.ensures
