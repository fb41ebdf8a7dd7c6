use Rattle.std.proofs.Common.{subst, sym, ◌∙◌}
use Rattle.message_catalog.specs.declared.error.PackMessagesError.{PackMessagesError}
use Rattle.message_catalog.specs.declared.error.PackMessagesError.TheVariants as packing
use Rattle.message_catalog.specs.Inner.PackedViews.{IsThis, TellsText}
use Rattle.message_catalog.proofs.PackingFaults.{TellsParts, parts_are_exact, parts_exact, parts_fault, parts_refused, parts_told}
use Rattle.message_catalog.proofs.PackingFaults.{text_exact}
use Rattle.message_catalog.proofs.packing.block_of.Goals as goal

pub returns-clause-exact : goal.returns-clause-exact
returns-clause-exact c =
    let told : TellsParts c.pack.result c.in-Ok.pattern = record {
      count_limit = c.pack.ensures.count_limit;
      part = c.pack.ensures.part;
      order = c.pack.ensures.order;
      start_limit = c.pack.ensures.start_limit;
    } in
    λ fault g. subst (λ (e : PackMessagesError). IsThis e (packing.Message c.args.index fault)) (sym c.parts_error.ensures)
    (parts_are_exact c.one_reading.ensures c.args.index c.args.text.now c.in-Ok.pattern c.in-Err-pack.error c.in-Ok.ensures.only
    (λ e h. let same = sym c.in-Err-pack.is ∙ parts_exact c.pack.result c.in-Ok.pattern told e h in cc) fault g)

pub returns-clause-refused : goal.returns-clause-refused
returns-clause-refused c =
    let told : TellsParts c.pack.result c.in-Ok.pattern = record {
      count_limit = c.pack.ensures.count_limit;
      part = c.pack.ensures.part;
      order = c.pack.ensures.order;
      start_limit = c.pack.ensures.start_limit;
    } in
    subst (λ (e : PackMessagesError). TellsText c.args.index c.args.text.now e) (sym c.parts_error.ensures)
    (parts_told c.args.index c.args.text.now c.in-Ok.pattern c.in-Err-pack.error c.in-Ok.ensures.only
    (parts_refused c.pack.result c.in-Ok.pattern told c.in-Err-pack.error c.in-Err-pack.is))

pub returns-in-Err-clause-exact : goal.returns-in-Err-clause-exact
returns-in-Err-clause-exact c =
    λ fault h. subst (λ (e : PackMessagesError). IsThis e (packing.Message c.args.index fault)) (sym c.text_error.ensures)
    (text_exact c.one_reading.ensures c.args.index c.args.text.now c.in-Err.error c.in-Err.ensures.only fault h)

pub returns-in-Ok-pack-clause-good : goal.returns-in-Ok-pack-clause-good
returns-in-Ok-pack-clause-good c =
    let told : TellsParts c.pack.result c.in-Ok.pattern = record {
      count_limit = c.pack.ensures.count_limit;
      part = c.pack.ensures.part;
      order = c.pack.ensures.order;
      start_limit = c.pack.ensures.start_limit;
    } in
    parts_fault c.one_reading.ensures c.args.text.now c.in-Ok.pattern c.in-Ok.ensures.only ⊥
    (λ error h. let e = parts_exact c.pack.result c.in-Ok.pattern told error h in absurd cc)
