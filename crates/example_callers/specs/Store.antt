-- A rule and texts that are stored as bytes.
--     IsStoredIn store one texts      the bytes encode the store's rule and of its texts
--     IsTextFor IsChosen store number text      the text for a number
use Rattle.std.specs.Prelude.{◌≡◌, ℕ, List, Some, None}
use Rattle.icu_plurals.specs.Elements.{Elements}
use Rattle.icu_plurals.specs.FiveRules.{FiveRules, five}
use Rattle.icu_plurals.specs.PackedElements.{ElementsBytes, PackedValue}
use Rattle.icu_plurals.specs.PackedRelations.{PackedRelation, RuleBytes}
use Rattle.icu_plurals.specs.Written.{CompactNumber}
use Rattle.example_callers.specs.PackedTexts.{AreTextsOfPacked, TextChoice}
use Rattle.example_callers.specs.declared.store.Store.{Store}

-- the rules with a rule for `one` only
abbrev pub rules_with_one : List PackedRelation → FiveRules
rules_with_one rule = five None (Some rule) None None None

pub record IsStoredIn (store : Store) (one texts : List ℕ) : Type 0 where
  pub rule : List PackedRelation
  pub rule_bytes : RuleBytes rule one
  pub rules : store.rules ≡ rules_with_one rule
  pub texts_bytes : ElementsBytes store.texts texts

-- For all texts that the store may hold: the text is the one that the number has among them.
abbrev pub IsTextFor : TextChoice → Store → CompactNumber → List ℕ → Type 0
IsTextFor IsChosen store number text =
    (texts : Elements PackedValue) → AreTextsOfPacked store.texts texts
    → (value : PackedValue) × IsChosen texts store.rules number.significand.absolute number.exponent value
    × (text ≡ value.text)
