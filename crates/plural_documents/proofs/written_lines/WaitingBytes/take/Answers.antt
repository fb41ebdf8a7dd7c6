use Rattle.std.proofs.Common.{take, drop, refl, sym, take-append-drop, arith}
use Rattle.std.proofs.lemmas.Grind.{common_steps}
use Rattle.std.proofs.Math.ListN.{drop_of_length-le}
use Rattle.plural_documents.proofs.written_lines.WaitingBytes.take.Goals as goal

pub returns : goal.returns
returns c =
    let bytes = c.args.bytes.now in
    let count = c.min-count.result in (
      record {
        taken = take count bytes;
        rest = drop count bytes;
        split = sym (take-append-drop count bytes);
        items = grind (arith, common_steps);
        whole = λ all. (c.requires, drop_of_length-le bytes (grind (arith, common_steps, all)));
        cut = λ some. grind (arith, common_steps, some);
      },
      refl,
    )
