use Rattle.std.proofs.Common.{◌≡◌, ◌∙◌, ◌++◌, ap, arith, drop, rules, subst, sym, take}
use Rattle.std.proofs.lemmas.List.{take-append-le}
use Rattle.std.proofs.lemmas.Grind.{common_steps}
use Rattle.std.specs.Io.KnownBytes.{Consumes}
use Rattle.std.proofs.KnownBytes.{Consumes-trans, Consumes-kept}
use Rattle.plural_documents.proofs.input.read_bytes.Goals.{in-Ok+else-is_err+else-len-gt-MOST_BYTES, in-Err+else-ne}
use Rattle.plural_documents.proofs.input.read_bytes.Goals as goal

pub returns-then-is_err-clause-up_to : goal.returns-then-is_err-clause-up_to
returns-then-is_err-clause-up_to g c = (
  c.loop.bytes.items ++ take c.in-Ok.count c.read.new.buf,
  Consumes-trans _ _ _ _ _ c.loop.invariant.1 c.in-Ok.ensures.bytes.0,
  grind (arith, common_steps),
)

pub loop-preserved : goal.loop-preserved
loop-preserved g c =
    elim c.match-read.branch [
      | in-Ok+else-is_err+else-len-gt-MOST_BYTES w ↦
          let bytes = c.loop.bytes.items in
          let n = w.in-Ok.count in
          let read = c.read.new.buf in
          let beyond = drop c.min-room.result c.loop.chunk in
          let all : w.extend_from_slice.new.self.items ≡ bytes ++ take n (read ++ beyond) = search rules in
          let front : take n (read ++ beyond) ≡ take n read = take-append-le n read beyond (search rules) in
          let grown : w.extend_from_slice.new.self.items ≡ bytes ++ take n read = all ∙ ap (λ l. bytes ++ l) front in
          let before : Consumes (g.R.Read.remaining c.args.reader.now) (g.R.Read.remaining c.loop.reader) c.loop.bytes.items
          = c.loop.invariant.1 in
          let first = Consumes (g.R.Read.remaining c.args.reader.now) (g.R.Read.remaining c.read.new.self) in
          rw w.bytes-is (search rules, subst first (sym grown) (Consumes-trans _ _ _ _ _ before w.in-Ok.ensures.bytes.0))
      | in-Err+else-ne w ↦ rw w.bytes-is (c.loop.invariant.0, Consumes-kept _ _ _ _ c.loop.invariant.1 w.in-Err.ensures.bytes)
    ]

pub returns-then-len-gt-MOST_BYTES-clause-up_to : goal.returns-then-len-gt-MOST_BYTES-clause-up_to
returns-then-len-gt-MOST_BYTES-clause-up_to g c = (
  c.loop.bytes.items ++ take c.in-Ok.count c.read.new.buf,
  Consumes-trans _ _ _ _ _ c.loop.invariant.1 c.in-Ok.ensures.bytes.0,
  grind (arith, common_steps),
)

pub returns-then-len-gt-MOST_BYTES-clause-too_long : goal.returns-then-len-gt-MOST_BYTES-clause-too_long
returns-then-len-gt-MOST_BYTES-clause-too_long g c = λ is. (
  c.loop.bytes.items ++ take c.in-Ok.count c.read.new.buf,
  Consumes-trans _ _ _ _ _ c.loop.invariant.1 c.in-Ok.ensures.bytes.0,
  grind (arith, common_steps),
)
