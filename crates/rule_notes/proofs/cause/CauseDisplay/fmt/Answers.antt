use Rattle.std.proofs.Common.{subst, sym}
use Rattle.std.specs.Fmt.{HasWritten}
use Rattle.rule_notes.specs.RuleNotes.{note_cause_text}
use Rattle.rule_notes.specs.declared.cause.Cause.{Cause}
use Rattle.rule_notes.proofs.cause.CauseDisplay.fmt.Goals as goal

pub returns-in-UpsideDown-clause-writes : goal.returns-in-UpsideDown-clause-writes
returns-in-UpsideDown-clause-writes g c plain ok =
    subst (λ (cause : Cause). HasWritten g.W.Write.write_str_gives c.args.f.now (note_cause_text cause) c.write.new.self)
    (sym c.in-UpsideDown.is) (c.write.ensures.writes plain ok)

pub returns-in-Empty-clause-writes : goal.returns-in-Empty-clause-writes
returns-in-Empty-clause-writes g c plain ok =
    subst (λ (cause : Cause). HasWritten g.W.Write.write_str_gives c.args.f.now (note_cause_text cause) c.write-in-Empty.new.self)
    (sym c.in-Empty.is) (c.write-in-Empty.ensures.writes plain ok)
