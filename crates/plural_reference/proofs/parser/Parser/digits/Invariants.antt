use Rattle.std.proofs.Common.{◌≡◌, ◌≤◌, List, ℕ, false, length, string_bytes}
use Rattle.plural_reference.specs.Samples.{has_exponent}
use Rattle.plural_reference.specs.Inner.SampleReading.SampleReader.{IsStored, ReadsStored, ReadsDigits}
use Rattle.plural_reference.proofs.parser.Parser.digits.Given as goal

-- the digits so far have joined the text
abbrev pub invariant-digits : goal.invariant-digits
invariant-digits g l = record {
  read : (before : List ℕ) → has_exponent before ≡ false → IsStored g.S.Sink.keeps (string_bytes l.initial.text) before
      → ReadsStored g.S.Sink.keeps (ReadsDigits before) l.fn.self (string_bytes l.text) l.self;
  shorter : length l.self ≤ length l.fn.self;
}

abbrev pub decreases-digits : goal.decreases-digits
decreases-digits g l = length l.self
