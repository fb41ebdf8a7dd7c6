use Rattle.std.proofs.Common.{◌≡◌, ◌∙◌, ap, subst}
use Rattle.std.specs.Prelude.{Ok, Err}
use Rattle.message_catalog.specs.Inner.MessageReading.{ArePatterns, messages_in}
use Rattle.message_catalog.proofs.HeldMessages.{held_again, messages_again, values_held}
use Rattle.message_catalog.proofs.MessagesRefused.{catalog_refused, entry_refused, none_refused}
use Rattle.message_catalog.proofs.catalog.MessageCatalog.parse_bytes.Goals as goal

pub returns-in-Err-clause-accepted : goal.returns-in-Err-clause-accepted
returns-in-Err-clause-accepted c = λ messages h. let e = c.in-Err.ensures.accepted h.entries h.packed in absurd cc

pub returns-in-Err-clause-refused : goal.returns-in-Err-clause-refused
returns-in-Err-clause-refused c = λ fault.
    let told = catalog_refused c.args.bytes.now c.in-Err.fault
    (λ entries packed. let e = c.in-Err.ensures.accepted entries packed in cc)
    (λ other. (
      (λ h. (c.in-Err.ensures.refused other).0 (ap Err h)),
      (λ h. let e = (c.in-Err.ensures.refused other).1 h in cc),
    )) fault in
    ((λ h. told.0 cc), (λ h. ap Err (told.1 h)))

pub returns-in-Some-clause-accepted : goal.returns-in-Some-clause-accepted
returns-in-Some-clause-accepted c = λ messages h.
    let list = c.in-Ok.ensures.accepted h.entries h.packed in
    let same : h.entries ≡ c.in-Ok.catalog = cc in
    absurd (c.in-Some.ensures.bad (subst ArePatterns same (values_held c.read_again.ensures h.entries messages h.held)))

pub returns-in-Some-clause-refused : goal.returns-in-Some-clause-refused
returns-in-Some-clause-refused c = λ fault.
    let told = entry_refused c.args.bytes.now c.in-Ok.catalog c.in-Some.index c.in-Some.fault c.in-Ok.ensures.ok
    c.in-Some.ensures.some
    (λ others packed. let e = c.in-Ok.ensures.accepted others packed in let same : others ≡ c.in-Ok.catalog = cc in same)
    (λ other h. let e = (c.in-Ok.ensures.refused other).1 h in cc) fault in
    ((λ h. told.0 cc), (λ h. ap Err (told.1 h)))

pub invariant_of-result : goal.invariant_of-result
invariant_of-result c = c.in_default.ensures.none

pub returns-clause-ok : goal.returns-clause-ok
returns-clause-ok c =
    record { entries = c.in-Ok.catalog; packed = c.in-Ok.ensures.ok; held = held_again c.in-Ok.catalog (invariant_of-result c) }

pub returns-clause-accepted : goal.returns-clause-accepted
returns-clause-accepted c = λ messages h.
    let list = c.in-Ok.ensures.accepted h.entries h.packed in
    let same : c.in-Ok.catalog ≡ h.entries = cc in
    ap Ok (ap messages_in same ∙ messages_again c.read_again.ensures h.entries messages h.held)

pub returns-clause-refused : goal.returns-clause-refused
returns-clause-refused c = λ fault. (
  (λ h. absurd cc),
  (λ h. absurd (none_refused c.args.bytes.now c.in-Ok.catalog c.in_default.ensures.good
      (λ others packed. let e = c.in-Ok.ensures.accepted others packed in let same : others ≡ c.in-Ok.catalog = cc in same)
      (λ other g. let e = (c.in-Ok.ensures.refused other).1 g in cc) fault h)),
)
