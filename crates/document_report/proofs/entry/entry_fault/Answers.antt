use Rattle.std.proofs.Common.{inl, refl}
use Rattle.serde_json.specs.View.{view}
use Rattle.plural_checker.specs.LanguageTexts.{six_texts}
use Rattle.document_report.proofs.Entries.{no_range, of_range}
use Rattle.document_report.proofs.entry.entry_fault.Goals as goal

pub returns-in-Some : goal.returns-in-Some
returns-in-Some c =
    of_range (six_texts c.args.texts.now) c.args.key.now (view c.args.value.now) c.range_fault.result c.in-Some.range
    c.start_of.result c.end_of.result ((c.in-Some.ensures c.in-Some.range).0 refl) c.start_of.ensures c.end_of.ensures
    c.range_fault.ensures

pub returns-in-None : goal.returns-in-None
returns-in-None c = inl (no_range c.args.key.now c.in-None.ensures, refl)
