use Rattle.std.proofs.Common.{take}
use Rattle.std.specs.Option.{option_copied}
use Rattle.plural_checker.specs.Findings.{AddsFindings, EachFinds}
use Rattle.plural_checker.specs.TextChecks.{IsFoundInRange}
use Rattle.plural_checker.proofs.range_check.check_ranges.Given as goal

-- what the ranges so far add
abbrev pub invariant-loop-range : goal.invariant-loop-range
invariant-loop-range l =
    let Finds = IsFoundInRange (option_copied l.rules) l.category l.sample_type in
    AddsFindings (EachFinds Finds (take l.range-index l.ranges)) l.initial.report l.report
