use Rattle.std.proofs.Common.{length, ap, arith}
use Rattle.plural_reference.proofs.tokens.ScanSize.{length-tokens_of}
use Rattle.plural_reference.proofs.tokens.ScanSound.{tokens_are}
use Rattle.plural_reference.proofs.parser.fault.count_tokens.Goals as goal

pub tokens-init : goal.tokens-init
tokens-init c = record {
  all = omega (arith, ap length (tokens_are c.args.text.now _ c.new-tokens.ensures.tokens));
  few = length-tokens_of c.args.text.now;
}
