use Rattle.std.proofs.Common.{sym, ◌∙◌}
use Rattle.serde_json.specs.View.{view}
use Rattle.translation_files.proofs.ReadLemmas.{document_read, texts_read}
use Rattle.translation_files.proofs.json_file.read_value.Goals as goal

pub returns-then-is_document : goal.returns-then-is_document
returns-then-is_document g c = document_read (view c.args.value) c.placed_document.result c.placed_document.ensures

pub returns : goal.returns
returns g c =
    texts_read (view c.args.value) c.read_texts-file.result (sym c.is_document.ensures ∙ c.if-is_document.false) c.read_texts-file.ensures
