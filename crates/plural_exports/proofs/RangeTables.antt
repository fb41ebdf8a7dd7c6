-- The table of the ranges that a document has for a locale.
use Rattle.std.proofs.Common.{◌≡◌, List, ℕ, Ok, Err, refl}
use Rattle.icu_plurals.specs.declared.provider.PluralRanges.{PluralRanges}
use Rattle.plural_exports.specs.GivenBytes.{ReadsTextBytes}
use Rattle.plural_exports.specs.GivenRanges.{AreRangesIn, HasRangesFor, IsRangeTable}
use Rattle.plural_exports.specs.Inner.GivenResults.{GivesSeen}
use Rattle.plural_exports.specs.declared.fault.Fault.{Fault}
use Rattle.plural_exports.proofs.Texts.{Block, bytes_of}

-- the locale's text is refused
pub refused_locale : (bytes locale : List ℕ) (e : Fault) (r : Block)
    → r ≡ Err e → ReadsTextBytes locale (Err e) → GivesSeen bytes_of (AreRangesIn bytes locale) r
refused_locale bytes locale e r is h = rw is (Err e, h, refl)

-- the document has no ranges
pub refused_ranges : (bytes locale text : List ℕ) (e : Fault) (r : Block)
    → r ≡ Err e → ReadsTextBytes locale (Ok text) → HasRangesFor bytes text (Err e) → GivesSeen bytes_of (AreRangesIn bytes locale) r
refused_ranges bytes locale text e r is read h = rw is (Ok text, read, (Err e, h, refl))

-- its ranges become a table, or memory runs out
pub given_table : (bytes locale text : List ℕ) (ranges : PluralRanges) (r : Block)
    → ReadsTextBytes locale (Ok text) → HasRangesFor bytes text (Ok ranges) → GivesSeen bytes_of (IsRangeTable ranges) r
    → GivesSeen bytes_of (AreRangesIn bytes locale) r
given_table bytes locale text ranges (Ok table) read given is = (Ok text, read, (Ok ranges, given, is))
given_table bytes locale text ranges (Err e) read given is = (Ok text, read, (Ok ranges, given, is))
