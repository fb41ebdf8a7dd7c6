use Rattle.std.proofs.Common.{◌≡◌, ◌∙◌, sym, ap, map, None}
use Rattle.std.specs.Prelude.{Ok, Err}
use Rattle.packed_part.specs.PackedParts.{part_items_of}
use Rattle.packed_pattern.specs.PatternBlocks.{items_fault}
use Rattle.packed_part.specs.Inner.PartReading.{part_in}
use Rattle.packed_pattern.specs.declared.error.BlockError.TheVariants as errors
use Rattle.packed_pattern.proofs.BlockFaults.{list_refused, item_refused, not_refused}
use Rattle.packed_pattern.proofs.BlockItems.{is_block, is_pattern, no_items_fault, parts_again}
use Rattle.packed_pattern.proofs.block.PackedPattern.parse_bytes.Goals as goal

pub items_fault-requires : goal.items_fault-requires
items_fault-requires c = c.in-Ok.ensures.ok.can_pack.count

pub returns-in-Err-clause-refused : goal.returns-in-Err-clause-refused
returns-in-Err-clause-refused c = λ fault.
    let told = list_refused c.args.bytes.now c.in-Err.fault
    (λ items list. let e = c.in-Err.ensures.accepted items list in cc)
    (λ other. (
      (λ h. (c.in-Err.ensures.refused other).0 (ap Err h)),
      (λ h. let e = (c.in-Err.ensures.refused other).1 h in cc),
    )) fault in
    ((λ h. let same : errors.List c.in-Err.fault ≡ fault = cc in told.0 same), (λ h. ap Err (told.1 h)))

pub returns-in-Some-clause-accepted : goal.returns-in-Some-clause-accepted
returns-in-Some-clause-accepted c = λ parts h.
    let list = c.in-Ok.ensures.accepted (part_items_of parts) h.packed in
    let same : c.in-Ok.list ≡ part_items_of parts = cc in
    let none : items_fault c.in-Ok.list ≡ None = ap items_fault same ∙ no_items_fault parts h.packable h.nested in
    cc

pub returns-in-Some-clause-refused : goal.returns-in-Some-clause-refused
returns-in-Some-clause-refused c = λ fault.
    let told = item_refused c.args.bytes.now c.in-Ok.list c.in-Some.fault c.in-Ok.ensures.ok
    (sym c.items_fault.ensures ∙ c.in-Some.is)
    (λ others list. let e = c.in-Ok.ensures.accepted others list in let same : others ≡ c.in-Ok.list = cc in same)
    (λ other h. let e = (c.in-Ok.ensures.refused other).1 h in cc) fault in
    ((λ h. let same : c.in-Some.fault ≡ fault = cc in told.0 same), (λ h. ap Err (told.1 h)))

pub invariant_of-result : goal.invariant_of-result
invariant_of-result c = is_block c.in-Ok.list (sym c.items_fault.ensures ∙ c.in_default.is)

pub returns-clause-ok : goal.returns-clause-ok
returns-clause-ok c =
    is_pattern c.in-Ok.list c.args.bytes.now (is_block c.in-Ok.list (sym c.items_fault.ensures ∙ c.in_default.is)) c.in-Ok.ensures.ok

pub returns-clause-accepted : goal.returns-clause-accepted
returns-clause-accepted c = λ parts h.
    let list = c.in-Ok.ensures.accepted (part_items_of parts) h.packed in
    let same : c.in-Ok.list ≡ part_items_of parts = cc in
    ap Ok (ap (map part_in) same ∙ parts_again parts h.packable)

pub returns-clause-refused : goal.returns-clause-refused
returns-clause-refused c = λ fault. (
  (λ h. absurd cc),
  (λ h. absurd (not_refused c.args.bytes.now c.in-Ok.list (sym c.items_fault.ensures ∙ c.in_default.is)
      (λ others list. let e = c.in-Ok.ensures.accepted others list in let same : others ≡ c.in-Ok.list = cc in same)
      (λ other h. let e = (c.in-Ok.ensures.refused other).1 h in cc) fault h)),
)
