use Rattle.std.proofs.Common.{◌≡◌, ◌∙◌, ap, sym}
use Rattle.message_pattern.specs.declared.part.ArgumentKind.{ArgumentKind}
use Rattle.message_pattern.specs.declared.part.ArgumentKind.TheVariants.{Select}
use Rattle.message_pattern.specs.PatternParts.{Part, Begin, offset_view, piece_view}
use Rattle.packed_pattern.specs.Inner.PlacesAhead.{placed_view}
use Rattle.packed_format.proofs.PlacesRead.{other_there}
use Rattle.packed_format.proofs.branches.branch_other.Goals as goal

pub returns-in-Begin-Select-default-default-clause-branch : goal.returns-in-Begin-Select-default-default-clause-branch
returns-in-Begin-Select-default-default-clause-branch c =
    let b = c.in-Begin-Select-default-default in
    let kind : b.field-0 ≡ Select = rw b.is at b.field-0-is in
    let begins : piece_view c.part-part.result.piece ≡ Begin Select b.field-1.now (offset_view b.field-2) =
    rw b.is (ap (λ (k : ArgumentKind). Begin k b.field-1.now (offset_view b.field-2)) kind) in
    c.place_behind.ensures.parts
    ∙ other_there (placed_view c.args.begin.now) c.args.pattern.now c.args.index c.place.result b.field-1.now
    (offset_view b.field-2) c.requires.placed
    (sym (ap (λ (p : Part). p.piece) c.part-part.ensures) ∙ begins) c.place.ensures.place
