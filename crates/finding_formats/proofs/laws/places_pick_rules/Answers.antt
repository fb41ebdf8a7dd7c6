use Rattle.std.proofs.Common.{◌≡◌, Some, refl}
use Rattle.std.specs.Prelude.{slice_get}
use Rattle.finding_formats.specs.FindingCodes.{all_codes, code_place}
use Rattle.finding_formats.specs.declared.code.Code.{Code}
use Rattle.finding_formats.specs.declared.code.Code.TheVariants.{NoObject, NotAPart, NoTextList, NoRules, Missing, Unused, NoNumber, NoText, NotAForm, NoPattern, NotACategory, StandsTwice, More, MissingRare}
use Rattle.finding_formats.proofs.laws.places_pick_rules.Goals as goal

picks : (code : Code) → slice_get all_codes (code_place code) ≡ Some code
picks NoObject = refl
picks NotAPart = refl
picks NoTextList = refl
picks NoRules = refl
picks Missing = refl
picks Unused = refl
picks NoNumber = refl
picks NoText = refl
picks NotAForm = refl
picks NoPattern = refl
picks NotACategory = refl
picks StandsTwice = refl
picks More = refl
picks MissingRare = refl

pub returns : goal.returns
returns c = picks
