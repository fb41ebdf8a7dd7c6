-- Words as they are seen, and what private functions tell. Not definitions of the subject.
use Rattle.std.specs.Prelude.{◌≡◌, ℕ, List, Some, map}
use Rattle.std.specs.Borrow.{Bor}
use Rattle.std.specs.Option.{option_copied}
use Rattle.catalog_commands.specs.CatalogWords.{Packing, Saying}
use Rattle.catalog_commands.specs.GivenWords.{BeginWithGiven, first_ungiven}
use Rattle.catalog_commands.specs.declared.catalog_words.PackWords.{PackWords}
use Rattle.catalog_commands.specs.declared.catalog_words.SayWords.{SayWords}
use Rattle.catalog_commands.specs.declared.given.GivenFault.{GivenFault}
use Rattle.catalog_commands.specs.declared.given.GivenFault.TheVariants as fault

abbrev pub words_view : List (Bor (List ℕ)) → List (List ℕ)
words_view words = map (λ w. w.now) words

abbrev pub pack_view : PackWords → Packing
pack_view words = record { locale = option_copied words.locale; file = words.file.now }

abbrev pub say_view : SayWords → Saying
say_view words = record {
  locale = option_copied words.locale;
  rules = option_copied words.rules;
  catalog = words.catalog.now;
  key = words.key.now;
  given = words_view words.given.now;
}

-- the first word that gives nothing; or memory ran out, which needs one that gives something before
abbrev pub TellsUngiven : List (List ℕ) → GivenFault → Type 0
TellsUngiven words (fault.NoValue word) = first_ungiven words ≡ Some word.now
TellsUngiven words fault.Memory = BeginWithGiven words
