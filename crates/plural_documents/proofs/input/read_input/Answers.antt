use Rattle.plural_documents.proofs.InputLemmas.{input_given, input_read}
use Rattle.plural_documents.proofs.input.read_input.Goals as goal

pub returns-clause-input : goal.returns-clause-input
returns-clause-input g c =
    input_given (g.R.Read.remaining c.args.reader.now) (g.R.Read.remaining c.read_bytes.new.reader) c.read_bytes.result
    c.read_bytes.ensures.bytes c.read_bytes.ensures.end c.read_bytes.ensures.limit c.read_bytes.ensures.too_long

pub returns-clause-read : goal.returns-clause-read
returns-clause-read g c =
    input_read (g.R.Read.remaining c.args.reader.now) (g.R.Read.remaining c.read_bytes.new.reader) c.read_bytes.result
    c.read_bytes.ensures.bytes c.read_bytes.ensures.end c.read_bytes.ensures.limit c.read_bytes.ensures.up_to
    c.read_bytes.ensures.too_long
