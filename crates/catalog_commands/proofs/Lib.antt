mod LocaleParts
mod PatternTexts
mod WordArguments
mod WordsGiven
