use Rattle.std.proofs.Common.{Err, ap, inl}
use Rattle.rules_outline.specs.declared.outline.KeptRules.{KeptRules}
use Rattle.form_commands.specs.declared.error.FormsError.{FormsError}
use Rattle.form_commands.proofs.AnswerLemmas.{no_document}
use Rattle.form_commands.proofs.RulesRead.{read_on, rules_read}
use Rattle.form_commands.proofs.RulesServe.{rules_in}
use Rattle.form_commands.proofs.run.rules_of.Goals as goal

pub returns-in-Ok-clause-document : goal.returns-in-Ok-clause-document
returns-in-Ok-clause-document g c = (
  c.in-Ok.input.items,
  c.in-Ok.ensures.input.0,
  rules_in c.args.part c.args.locale.now c.in-Ok.input.items c.as_slice.result.now c.rules_in.result c.as_slice.ensures.value
      c.in-Ok.ensures.input.1 c.rules_in.ensures,
)

pub returns-in-Err-clause-document : goal.returns-in-Err-clause-document
returns-in-Err-clause-document g c =
    let none = no_document (g.R.Read.remaining c.args.reader.now) c.in-Err.reason (Err c.from.result)
    (ap (λ (e : FormsError). Err e) c.from.ensures) c.in-Err.ensures.input in
    (none.0, none.1, inl none.2)

pub returns-in-Ok-clause-reads : goal.returns-in-Ok-clause-reads
returns-in-Ok-clause-reads g c =
    rules_read c.args.part c.args.locale.now (g.R.Read.remaining c.args.reader.now) (g.R.Read.remaining c.read_input.new.reader)
    c.as_slice.result.now c.rules_in.result c.in-Ok.ensures.read c.rules_in.ensures

pub returns-in-Err-clause-reads : goal.returns-in-Err-clause-reads
returns-in-Err-clause-reads g c =
    read_on {B = KeptRules} (g.R.Read.remaining c.args.reader.now) (g.R.Read.remaining c.read_input.new.reader) c.in-Err.reason
    (Err c.from.result)
    (ap (λ (e : FormsError). Err e) c.from.ensures) c.in-Err.ensures.read
