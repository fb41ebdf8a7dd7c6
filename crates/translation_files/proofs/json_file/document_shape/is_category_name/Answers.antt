use Rattle.std.proofs.Common.{◌∙◌}
use Rattle.translation_files.proofs.DocumentLemmas.{named_category}
use Rattle.translation_files.proofs.json_file.document_shape.is_category_name.Goals as goal

pub returns : goal.returns
returns c =
    c.is_some.ensures ∙ named_category c.args.name.now c.get_for_cldr_string.result c.get_for_cldr_string.ensures
