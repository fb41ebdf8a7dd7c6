use Rattle.std.proofs.Common.{refl}
use Rattle.std.proofs.lemmas.Str.Ascii.{trim_ascii_is}
use Rattle.po_catalog.specs.Headers.{from_front}
use Rattle.po_catalog.proofs.header.trimmed.Goals as goal

pub returns : goal.returns
returns c = trim_ascii_is c.args.text.now _ (from_front c.args.text.now) refl c.trim_ascii.ensures.value
