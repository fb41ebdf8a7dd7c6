-- The six plural categories (UTS 35 Part 3, Language Plural Rules): their names, their orders and
-- their numbers.
use Rattle.std.specs.Prelude.{ℕ, List, [], ◌∷◌, codes}
use Rattle.plural_base.specs.declared.category.PluralCategory.{PluralCategory}
use Rattle.plural_base.specs.declared.category.PluralCategory.TheVariants.{Zero, One, Two, Few, Many, Other}
use Rattle.plural_base.specs.declared.category.raw.RawPluralCategory.{RawPluralCategory}
use Rattle.plural_base.specs.declared.category.raw.RawPluralCategory.TheVariants as raw

-- the name in lower case
abbrev pub name_of : PluralCategory → List ℕ
name_of Zero = codes "zero"
name_of One = codes "one"
name_of Two = codes "two"
name_of Few = codes "few"
name_of Many = codes "many"
name_of Other = codes "other"

-- all six, in the order of their names
abbrev pub all_categories : List PluralCategory
all_categories = Few ∷ Many ∷ One ∷ Other ∷ Two ∷ Zero ∷ []

-- its place in the order of the rules, in which other is last
abbrev pub place_of : PluralCategory → ℕ
place_of Zero = 0
place_of One = 1
place_of Two = 2
place_of Few = 3
place_of Many = 4
place_of Other = 5

-- the category of the same name
abbrev pub category_of : RawPluralCategory → PluralCategory
category_of raw.Other = Other
category_of raw.Zero = Zero
category_of raw.One = One
category_of raw.Two = Two
category_of raw.Few = Few
category_of raw.Many = Many

-- the numbered category of the same name
abbrev pub raw_category_of : PluralCategory → RawPluralCategory
raw_category_of Zero = raw.Zero
raw_category_of One = raw.One
raw_category_of Two = raw.Two
raw_category_of Few = raw.Few
raw_category_of Many = raw.Many
raw_category_of Other = raw.Other

-- its name
abbrev pub raw_name_of : RawPluralCategory → List ℕ
raw_name_of raw = name_of (category_of raw)

-- its number
abbrev pub raw_number : RawPluralCategory → ℕ
raw_number raw.Other = 0
raw_number raw.Zero = 1
raw_number raw.One = 2
raw_number raw.Two = 3
raw_number raw.Few = 4
raw_number raw.Many = 5

-- all six, in the order of their numbers
abbrev pub all_raw_categories : List RawPluralCategory
all_raw_categories = raw.Other ∷ raw.Zero ∷ raw.One ∷ raw.Two ∷ raw.Few ∷ raw.Many ∷ []
