use Rattle.std.proofs.Common.{◌∷◌}
use Rattle.plural_reference.specs.declared.token.Token.TheVariants.{At}
use Rattle.plural_reference.specs.Inner.Scan.{tokens_of}
use Rattle.plural_reference.specs.Inner.SampleReading.PlainSamples.{AreLists, LeadsTo, bytes_left}
use Rattle.plural_reference.proofs.parser.samples.plain.are_plain.Given as goal

-- what is left leads to lists from At on
abbrev pub invariant-samples : goal.invariant-samples
invariant-samples l = LeadsTo (AreLists (At ∷ tokens_of l.text)) l.next

abbrev pub decreases-samples : goal.decreases-samples
decreases-samples l = bytes_left l.next
