-- How many of so many messages of a fate are checked, noted and left out.
use Rattle.std.specs.Prelude.{ℕ}
use Rattle.translation_files.specs.declared.counts.Fate.{Fate}
use Rattle.translation_files.specs.declared.counts.Fate.TheVariants as fate

abbrev pub checked_of : Fate → ℕ → ℕ
checked_of fate.Checked count = count
checked_of fate.Noted count = 0
checked_of fate.LeftOut count = 0

abbrev pub noted_of : Fate → ℕ → ℕ
noted_of fate.Checked count = 0
noted_of fate.Noted count = count
noted_of fate.LeftOut count = 0

abbrev pub left_out_of : Fate → ℕ → ℕ
left_out_of fate.Checked count = 0
left_out_of fate.Noted count = 0
left_out_of fate.LeftOut count = count
