use Rattle.std.proofs.Common.{sym}
use Rattle.plural_documents.proofs.PrintedChars.{plain_printed}
use Rattle.plural_documents.proofs.printed_key.write_char.Goals as goal

pub returns-then-is_plain : goal.returns-then-is_plain
returns-then-is_plain g c = rw (plain_printed c.args.c (sym c.if-is_plain.ensures)) c.write_char.ensures.writes
