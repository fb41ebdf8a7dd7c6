use Rattle.std.proofs.Common.{Err, ap}
use Rattle.serde_json.specs.declared.Value.{Value}
use Rattle.form_commands.specs.declared.error.FormsError.{FormsError}
use Rattle.form_commands.proofs.AnswerLemmas.{document_in, no_document}
use Rattle.form_commands.proofs.RulesRead.{read_on, value_read}
use Rattle.form_commands.proofs.run.document_of.Goals as goal

pub returns-in-Ok-clause-document : goal.returns-in-Ok-clause-document
returns-in-Ok-clause-document g c = (
  c.in-Ok.input.items,
  c.in-Ok.ensures.input.0,
  document_in c.in-Ok.input.items c.as_slice.result.now c.value_of.result c.as_slice.ensures.value c.in-Ok.ensures.input.1
      c.value_of.ensures,
)

pub returns-in-Err-clause-document : goal.returns-in-Err-clause-document
returns-in-Err-clause-document g c =
    no_document (g.R.Read.remaining c.args.reader.now) c.in-Err.error (Err c.from.result) (ap (λ (e : FormsError). Err e) c.from.ensures)
    c.in-Err.ensures.input

pub returns-in-Ok-clause-reads : goal.returns-in-Ok-clause-reads
returns-in-Ok-clause-reads g c =
    value_read (g.R.Read.remaining c.args.reader.now) (g.R.Read.remaining c.read_input.new.reader) c.as_slice.result.now c.value_of.result
    c.in-Ok.ensures.read c.value_of.ensures

pub returns-in-Err-clause-reads : goal.returns-in-Err-clause-reads
returns-in-Err-clause-reads g c =
    read_on {B = Value} (g.R.Read.remaining c.args.reader.now) (g.R.Read.remaining c.read_input.new.reader) c.in-Err.error
    (Err c.from.result)
    (ap (λ (e : FormsError). Err e) c.from.ensures) c.in-Err.ensures.read
