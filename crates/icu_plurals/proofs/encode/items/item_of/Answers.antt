use Rattle.std.proofs.Common.{arith}
use Rattle.std.proofs.lemmas.Str.{is_utf8-from_IsUtf8}
use Rattle.icu_plurals.proofs.encode.items.item_of.Goals as goal

pub returns-clause-valid : goal.returns-clause-valid
returns-clause-valid c =
    record { key = c.requires; value = record { metadata = omega arith; text = is_utf8-from_IsUtf8 c.args.text.now c.utf8.text } }
