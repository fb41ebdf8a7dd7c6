-- No definitions of the subject: how samples are read.
pub mod SampleReader
pub mod PlainSamples
