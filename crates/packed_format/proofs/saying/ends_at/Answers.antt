use Rattle.std.proofs.Common.{◌+◌, drop, refl, sym, inl, inr}
use Rattle.message_pattern.specs.PatternParts.{part_view}
use Rattle.message_format.specs.FormatSteps.{Stops}
use Rattle.message_format.proofs.Walk.{at_end, at_stop, does}
use Rattle.packed_format.proofs.BehindParts.{from_place, no_place}
use Rattle.packed_format.proofs.saying.ends_at.Goals as goal

pub returns-in_default : goal.returns-in_default
returns-in_default c t arguments rules hash before =
    at_end arguments rules hash before (drop c.args.at c.args.pattern.now) (no_place c.args.pattern.now c.args.at (sym c.in_default.ensures))

pub returns-in-Branch : goal.returns-in-Branch
returns-in-Branch c t arguments rules hash before =
    let ps = c.args.pattern.now in
    let part = c.in-Some.part in
    at_stop arguments rules hash before (drop c.args.at ps) part (drop (c.args.at + 1) ps)
    (from_place ps c.args.at (part_view part) (sym c.in-Some.ensures))
    (elim c.in-Branch.is [
      | inl is ↦ does arguments rules hash part _ _ Stops is.1 refl
      | inr is ↦ does arguments rules hash part _ _ Stops is refl
    ])
