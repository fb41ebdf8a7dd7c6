-- The texts that the errors print.
use Rattle.std.specs.Prelude.{ℕ, List, ◌++◌, codes}
use Rattle.std.specs.Fmt.{decimal}
use Rattle.plural_reference.specs.declared.error.LexerError.{LexerError}
use Rattle.plural_reference.specs.declared.error.LexerError.TheVariants.{ExpectedByte, UnknownToken}
use Rattle.plural_reference.specs.declared.error.ParseError.{ParseError}
use Rattle.plural_reference.specs.declared.error.ParseError.TheVariants.{ExpectedAndCondition, ExpectedRelation, ExpectedOperator}
use Rattle.plural_reference.specs.declared.error.ParseError.TheVariants.{ExpectedOperand, ExpectedValue, ExpectedSampleType}
use Rattle.plural_reference.specs.declared.error.ParseError.TheVariants.{ValueTooLarge}
use Rattle.plural_reference.specs.declared.error.ReadError.{ReadError}
use Rattle.plural_reference.specs.declared.error.ReadError.TheVariants.{Parse, Memory}

-- what a fault of a rule prints
abbrev pub parse_error_text : ParseError → List ℕ
parse_error_text ExpectedAndCondition = codes "expected 'AND' condition"
parse_error_text ExpectedRelation = codes "expected relation"
parse_error_text ExpectedOperator = codes "expected operator"
parse_error_text ExpectedOperand = codes "expected operand"
parse_error_text ExpectedValue = codes "expected value"
parse_error_text ExpectedSampleType = codes "expected sample type"
parse_error_text ValueTooLarge = codes "Value too large"

-- what a refused reading prints
abbrev pub read_error_text : ReadError → List ℕ
read_error_text (Parse kind) = parse_error_text kind
read_error_text Memory = codes "out of memory"

-- what an error of the lexer prints: the byte as a number
abbrev pub lexer_error_text : LexerError → List ℕ
lexer_error_text (ExpectedByte byte) = codes "Expected byte: " ++ decimal byte
lexer_error_text (UnknownToken byte) = codes "Unknown token: " ++ decimal byte
