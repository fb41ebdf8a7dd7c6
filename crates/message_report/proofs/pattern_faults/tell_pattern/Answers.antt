use Rattle.std.proofs.Common.{◌-◌, length, take, drop, get_or, refl}
use Rattle.message_pattern.specs.PatternParts.{parts_view}
use Rattle.message_report.specs.Inner.ArgumentViews.{languages_view}
use Rattle.message_report.specs.MessagePlaces.{pattern_place_view}
use Rattle.message_report.proofs.BranchLemmas.{no_part}
use Rattle.message_report.proofs.PatternTold.{part_told, pattern_starts, pattern_told}
use Rattle.message_report.proofs.TellLemmas.{headed, none_left}
use Rattle.message_report.proofs.pattern_faults.tell_pattern.Goals as goal

pub loop-left-init : goal.loop-left-init
loop-left-init c = pattern_starts (languages_view c.args.languages.now) (pattern_place_view c.args.place)
    (parts_view c.args.parts.now) c.args.found.now

pub loop-left-preserved : goal.loop-left-preserved
loop-left-preserved c =
    let ps = c.loop-left.left.now in
    part_told (languages_view c.args.languages.now) (pattern_place_view c.args.place) (parts_view c.args.parts.now) ps
    (take (length ps - 1) (drop 1 ps))
    (get_or ps 0 no_part) c.args.found.now c.loop-left.count c.loop-left.found c.in_ok-count.count c.tell_part.new.found
    (headed ps no_part (length ps) c.in-len1-up.len_at_least refl) c.loop-left.invariant c.in_ok-count.ensures

pub returns : goal.returns
returns c =
    pattern_told (languages_view c.args.languages.now) (pattern_place_view c.args.place)
    (parts_view c.args.parts.now) c.loop-left.left.now c.args.found.now
    c.loop-left.count c.loop-left.found (none_left c.loop-left.left.now c.in_default.len_below) c.loop-left.invariant
