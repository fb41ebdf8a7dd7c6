-- A fault is one that leaves some tokens. From the grammar's faults to those with their place, and
-- back; Readings, RuleReadings, Answered and the worked rows cite it.
use Rattle.std.proofs.Common.{List}
use Rattle.plural_reference.specs.declared.error.ParseError.{ParseError}
use Rattle.plural_reference.specs.declared.token.Token.{Token}
use Rattle.plural_reference.specs.Parser.{Faulty}
use Rattle.plural_reference.specs.Samples.{FaultyInSamples}
use Rattle.plural_reference.specs.FaultPlaces.{FaultyAt, FaultyInSamplesAt}

-- the tokens that a fault of a condition leaves
pub fault_place : (tokens : List Token) (kind : ParseError) (h : Faulty tokens kind) → FaultyAt tokens kind h.2
fault_place tokens kind h = (h.0, h.1, h.3, h.4, h.5)

-- what leaves tokens there is a fault
pub placed_fault : (tokens : List Token) (kind : ParseError) (rest : List Token) → FaultyAt tokens kind rest → Faulty tokens kind
placed_fault tokens kind rest h = (h.0, h.1, rest, h.2, h.3, h.4)

-- the same of samples
pub samples_fault_place : (tokens : List Token) (kind : ParseError) (h : FaultyInSamples tokens kind) → FaultyInSamplesAt tokens kind h.2
samples_fault_place tokens kind h = (h.0, h.1, h.3, h.4, h.5)

pub placed_samples_fault : (tokens : List Token) (kind : ParseError) (rest : List Token)
    → FaultyInSamplesAt tokens kind rest → FaultyInSamples tokens kind
placed_samples_fault tokens kind rest h = (h.0, h.1, rest, h.2, h.3, h.4)
