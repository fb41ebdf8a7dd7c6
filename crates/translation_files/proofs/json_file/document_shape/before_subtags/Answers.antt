use Rattle.std.proofs.Common.{◌≡◌, arith}
use Rattle.std.specs.List.{position_or_len}
use Rattle.std.proofs.lemmas.Grind.{common_steps}
use Rattle.translation_files.specs.MessageDocuments.{is_between_subtags}
use Rattle.translation_files.proofs.DocumentLemmas.{before_found, before_none}
use Rattle.translation_files.proofs.json_file.document_shape.before_subtags.Goals as goal

pub returns-in-Some : goal.returns-in-Some
returns-in-Some c =
    let place : c.in-Some.place ≡ position_or_len is_between_subtags c.args.key.now =
    before_found is_between_subtags c.args.key.now c.in-Some.place c.in-Some.ensures.place in
    rw (← place) (grind (arith, common_steps))

pub returns-in-None : goal.returns-in-None
returns-in-None c = before_none is_between_subtags c.args.key.now c.in-None.ensures.place
