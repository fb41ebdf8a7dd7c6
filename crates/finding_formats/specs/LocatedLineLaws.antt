-- What lines of JSON tell of what is told of files.
--     IsReadAgain located      its finding has texts, and its numbers fit 64 bits
--     LinesTellLocated      the lines tell the list and the totals
use Rattle.std.specs.Prelude.{◌≡◌, All, List}
use Rattle.finding_formats.specs.JsonLineLaws.{Fits64, Fits64If, HasTexts}
use Rattle.finding_formats.specs.LocatedFindings.{Located, Told, told_finding, told_notice}
use Rattle.finding_formats.specs.LocatedObjects.{located_lines}
use Rattle.finding_formats.specs.declared.totals.Totals.{Totals}

-- as in the law of findings; a notice has whole texts
abbrev pub ToldHasTexts : Told → Type 0
ToldHasTexts (told_finding f) = HasTexts f
ToldHasTexts (told_notice n) = Unit {0}

pub record IsReadAgain (l : Located) : Type 0 where
  pub line : Fits64If l.line
  pub told : ToldHasTexts l.told

-- they fit 64 bits
pub record TotalsFit (t : Totals) : Type 0 where
  pub messages : Fits64 t.messages
  pub forms : Fits64 t.forms
  pub faults : Fits64 t.faults
  pub notes : Fits64 t.notes
  pub left_out : Fits64 t.left_out

-- the same lines are printed only for the same list, in the same order, and the same totals
abbrev pub LinesTellLocated : Type 0
LinesTellLocated =
    (ls ms : List Located) (t u : Totals) → All IsReadAgain ls → All IsReadAgain ms → TotalsFit t → TotalsFit u
    → located_lines ls t ≡ located_lines ms u → (ls ≡ ms) × (t ≡ u)
