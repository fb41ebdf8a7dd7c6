use Rattle.std.proofs.Common.{subst, sym}
use Rattle.plural_reference.specs.Inner.SampleReading.PlainSamples.{AreLists}
use Rattle.plural_reference.proofs.parser.Parser.is_before_plain_samples.Goals as goal

pub returns-in-Some : goal.returns-in-Some
returns-in-Some c = λ _. subst AreLists (sym c.in-Some.ensures) (c.are_plain.ensures c.if-are_plain.true)
