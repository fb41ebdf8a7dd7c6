mod LastSeparator
mod ChainSteps
mod ExactKeys
