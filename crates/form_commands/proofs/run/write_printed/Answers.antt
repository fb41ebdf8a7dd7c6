use Rattle.form_commands.specs.Inner.RunSteps.{result_of_lines}
use Rattle.form_commands.proofs.NumberResults.{only_writes, text_written}
use Rattle.form_commands.proofs.run.write_printed.Goals as goal

pub returns-clause-text : goal.returns-clause-text
returns-clause-text g c =
    rw c.result_of.ensures
    (text_written c.args.printed.now (g.W.Write.contents c.args.writer.now) (g.W.Write.contents c.write_to.new.writer) c.write_to.result
    c.write_to.ensures)

pub returns-clause-writes_nothing : goal.returns-clause-writes_nothing
returns-clause-writes_nothing g c =
    rw c.result_of.ensures
    (only_writes _ c.args.printed.now (g.W.Write.contents c.args.writer.now) (g.W.Write.contents c.write_to.new.writer)
    (result_of_lines c.write_to.result)
    (text_written c.args.printed.now (g.W.Write.contents c.args.writer.now) (g.W.Write.contents c.write_to.new.writer) c.write_to.result
    c.write_to.ensures))
