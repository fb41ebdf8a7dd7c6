-- what is printed, one after the other
mod PrintedLemmas
-- the lines of an input
mod LineLemmas
-- the state after some bytes
mod AfterLemmas
mod StreamLemmas
-- lines of digits
mod PlainLemmas
