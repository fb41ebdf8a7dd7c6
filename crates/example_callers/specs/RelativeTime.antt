-- Relative times, such as `in 5 days` and `1.5 days ago`.
--     IsPast amount shown      the amount is past, and is shown so
--     IsSaidBy time amount texts shown      these texts are used for the amount, and show this text
--         for it
--     IsRelativeTime IsChosen rules time amount text      the text for an amount
use Rattle.std.specs.Prelude.{◌≡◌, ◌⊎◌, ℕ, List, ◌++◌, codes}
use Rattle.icu_plurals.specs.Elements.{Elements}
use Rattle.icu_plurals.specs.FiveRules.{FiveRules}
use Rattle.icu_plurals.specs.PackedElements.{PackedValue}
use Rattle.icu_plurals.specs.Written.{CompactNumber, WritesCompact}
use Rattle.plural_message.specs.Messages.{IsMessageWith}
use Rattle.example_callers.specs.PackedTexts.{TextChoice}
use Rattle.example_callers.specs.declared.relative_time.RelativeTime.{RelativeTime}

-- An amount with a leading `-` is past, and is shown without the `-`.
abbrev pub IsPast : List ℕ → List ℕ → Type 0
IsPast amount shown = amount ≡ codes "-" ++ shown

-- The texts of the past are used for a past amount; any other amount is future, and is shown as it
-- is written.
abbrev pub IsSaidBy : RelativeTime → List ℕ → Elements PackedValue → List ℕ → Type 0
IsSaidBy time amount texts shown =
    (IsPast amount shown × (texts ≡ time.past))
    ⊎ (((rest : List ℕ) → ¬ (IsPast amount rest)) × (amount ≡ shown) × (texts ≡ time.future))

-- The amount writes a number, and the text is the one that this number has among the texts used for
-- the amount, with the shown text of the amount in place of each `{}`.
abbrev pub IsRelativeTime : TextChoice → FiveRules → RelativeTime → List ℕ → List ℕ → Type 0
IsRelativeTime IsChosen rules time amount text =
    (x : CompactNumber) × (texts : Elements PackedValue) × (shown : List ℕ)
    × WritesCompact amount x × IsSaidBy time amount texts shown × IsMessageWith (IsChosen texts rules) x shown text
