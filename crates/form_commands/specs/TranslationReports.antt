-- What is written of translators' files, and the verdict.
--     told_verdict strict totals      the verdict of totals, where notes count as faults or don't
--     IsToldReport format strict old new verdict      one report in the format was written behind
--         what was there, and the verdict is that of its totals
use Rattle.std.specs.Prelude.{◌≡◌, ℕ, Bool, nat_lt, List, Option, if◌then◌else◌}
use Rattle.std.specs.Io.KnownBytes.{Appends}
use Rattle.finding_formats.specs.LocatedFindings.{Located}
use Rattle.finding_formats.specs.LocatedReport.{located_text}
use Rattle.finding_formats.specs.declared.format.Format.{Format}
use Rattle.finding_formats.specs.declared.totals.Totals.{Totals}
use Rattle.form_commands.specs.FormsErrors.{strict_verdict}
use Rattle.form_commands.specs.declared.error.Verdict.{Verdict}
use Rattle.form_commands.specs.declared.error.Verdict.TheVariants.{Complete, Noted, Faults}

-- faults, else notes, else nothing
abbrev pub verdict_told : Totals → Verdict
verdict_told totals = if nat_lt 0 totals.faults then Faults else if nat_lt 0 totals.notes then Noted else Complete

-- where notes count as faults, or don't
abbrev pub told_verdict : Bool → Totals → Verdict
told_verdict strict totals = if strict then strict_verdict (verdict_told totals) else verdict_told totals

abbrev pub IsToldReport : Format → Bool → Option (List ℕ) → Option (List ℕ) → Verdict → Type 0
IsToldReport format strict old new verdict =
    (told : List Located) × (totals : Totals) × Appends old new (located_text format told totals)
    × (verdict ≡ told_verdict strict totals)
