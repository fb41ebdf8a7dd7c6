-- The texts of a language's rules of one type: for the five rules, and for other, which has only
-- samples.
--     six_texts texts      the texts that the references refer to
--     has_rule texts category      the category is other, or its text is present
--     is_long text      the text is longer than those that are checked
--     categories_with_rule rules      the categories that have a rule
--     categories_with_value elements      the categories whose value is present in elements
--     categories_without set others      the categories of one set that are not in another
use Rattle.std.specs.Prelude.{ℕ, Bool, true, not, ◌&&◌, List, length, nat_lt, ◌||◌, Option, is_some}
use Rattle.std.specs.Option.{option_copied}
use Rattle.icu_plurals.specs.declared.PluralCategory.{PluralCategory}
use Rattle.icu_plurals.specs.declared.PluralCategory.TheVariants.{Zero, One, Two, Few, Many, Other}
use Rattle.icu_plurals.specs.declared.Five.{Five}
use Rattle.icu_plurals.specs.FiveRules.{FiveRules, passes}
use Rattle.icu_plurals.specs.RuleTexts.{texts_of}
use Rattle.icu_plurals.specs.Elements.{Elements}
use Rattle.plural_checker.specs.declared.coverage.CategorySet.{CategorySet}
use Rattle.plural_checker.specs.declared.texts.LanguageTexts.{LanguageTexts}

pub record SixTexts : Type 0 where
  pub five : Five (Option (List ℕ))
  pub other : Option (List ℕ)

abbrev pub six_texts : LanguageTexts → SixTexts
six_texts texts = record {
  five = texts_of texts.zero texts.one texts.two texts.few texts.many;
  other = option_copied texts.other;
}

abbrev pub has_rule : SixTexts → PluralCategory → Bool
has_rule texts Zero = is_some texts.five.zero
has_rule texts One = is_some texts.five.one
has_rule texts Two = is_some texts.five.two
has_rule texts Few = is_some texts.five.few
has_rule texts Many = is_some texts.five.many
has_rule texts Other = true

-- the most bytes that a text may have
abbrev pub most_text_bytes : ℕ
most_text_bytes = 1024

abbrev pub is_long : List ℕ → Bool
is_long text = nat_lt most_text_bytes (length text)

-- one of the five texts is long
abbrev pub has_long : Five (Option (List ℕ)) → Bool
has_long texts =
    passes is_long texts.zero || passes is_long texts.one || passes is_long texts.two || passes is_long texts.few
    || passes is_long texts.many

-- ---- Sets of categories. Other is left out: a message always has it, and it needs no rule.

abbrev pub categories_with_rule : FiveRules → CategorySet
categories_with_rule rules = record {
  zero = is_some rules.zero;
  one = is_some rules.one;
  two = is_some rules.two;
  few = is_some rules.few;
  many = is_some rules.many;
}

abbrev pub categories_with_value : {T : Type 0} → Elements T → CategorySet
categories_with_value elements = record {
  zero = is_some elements.zero;
  one = is_some elements.one;
  two = is_some elements.two;
  few = is_some elements.few;
  many = is_some elements.many;
}

abbrev pub categories_without : CategorySet → CategorySet → CategorySet
categories_without set others = record {
  zero = set.zero && not others.zero;
  one = set.one && not others.one;
  two = set.two && not others.two;
  few = set.few && not others.few;
  many = set.many && not others.many;
}
