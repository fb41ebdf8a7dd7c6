-- What is read of the samples of a rule: the reader of samples and their grammar agree, and the
-- parser takes its steps.
pub mod SampleSound
pub mod SampleComplete
pub mod SampleParserSteps
pub mod SampleSinks
pub mod WorkedSamples
