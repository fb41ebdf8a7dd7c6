use Rattle.std.proofs.Common.{◌≡◌, drop}
use Rattle.icu_plurals.specs.Truth.{is_in_ranges}
use Rattle.icu_plurals.specs.RuleViews.{lent_relation}
use Rattle.form_commands.proofs.c_condition.holds_zero.Given as goal

-- no range so far holds 0
abbrev pub invariant-loop-place : goal.invariant-loop-place
invariant-loop-place l =
    let ranges = (lent_relation l.relation).meaning.ranges in is_in_ranges ranges 0 ≡ is_in_ranges (drop l.place ranges) 0
