use Rattle.translation_files.proofs.DocumentLemmas.{none_there}
use Rattle.translation_files.proofs.json_file.document_shape.is_empty.Goals as goal

pub returns : goal.returns
returns c = none_there c.args.members.now.entries c.is_empty.result c.is_empty.ensures.1 c.is_empty.ensures.0
