use Rattle.std.proofs.Common.{Bool, IfOk, refl, sym, subst, ◌∙◌}
use Rattle.message_pattern.specs.PatternParts.{Begin, offset_view, parts_view, piece_view}
use Rattle.message_pattern.specs.declared.part.Piece as pieces
use Rattle.message_report.specs.Inner.ArgumentViews.{plural_argument_view, languages_view}
use Rattle.message_report.specs.Inner.ToldFindings.{TellsThose}
use Rattle.message_report.specs.MessagesReport.{HasPieceFindings, argument_findings}
use Rattle.message_report.specs.PatternFaults.{IsArgumentAt, type_of_kind}
use Rattle.message_report.specs.MessagePlaces.{pattern_place_view}
use Rattle.message_report.proofs.PatternTold.{same_offset, those_told}
use Rattle.message_report.proofs.pattern_faults.tell_part.Goals as goal

pub returns : goal.returns
returns c =
    let two = languages_view c.args.languages.now in
    let place = pattern_place_view c.args.place in
    let depth = c.args.part.now.depth in
    let ps = parts_view c.args.parts.now in
    let a = plural_argument_view c.in_ok-argument.argument in
    let findings = argument_findings two place (type_of_kind c.in-Begin.kind) a in
    subst
    (λ (x : pieces.Piece).
    IfOk c.tell_argument.result
    (λ count. TellsThose (HasPieceFindings two place depth (piece_view x) ps) c.args.before c.args.found.now count
    c.tell_argument.new.found))
    (sym c.in-Begin.is)
    (those_told (HasPieceFindings two place depth (Begin c.in-Begin.kind c.in-Begin.name.now (offset_view c.in-Begin.offset)) ps)
    c.args.before c.args.found.now c.tell_argument.new.found findings
    c.tell_argument.result (
      a,
      subst (λ (o : Bool). IsArgumentAt c.in-Begin.name.now o depth ps a)
          (c.is_some.ensures ∙ same_offset c.in-Begin.offset) c.in_ok-argument.ensures,
      refl,
    )
    (rw c.type_of_kind.ensures at c.tell_argument.ensures))
