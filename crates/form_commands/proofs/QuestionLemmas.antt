-- The options at the front of words.
use Rattle.std.proofs.Common.{◌≡◌, refl}
use Rattle.plural_fallback.specs.declared.locales.Part.{Part}
use Rattle.plural_fallback.specs.declared.locales.Part.TheVariants.{Cardinal, Ordinal, Ranges}
use Rattle.form_commands.specs.Questions.{FileAndRest, options_after, options_with, part_of_words}

-- after a part that `--ordinal` doesn't name
pub not_ordinal : (part : Part) (found : FileAndRest) → (part ≡ Ordinal → ⊥)
    → options_after part found ≡ options_with found.file (part_of_words found.rest)
not_ordinal Ordinal found other = absurd (other refl)
not_ordinal Cardinal found other = refl
not_ordinal Ranges found other = refl
