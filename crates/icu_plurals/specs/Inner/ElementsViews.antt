-- What contracts see of packed elements, of their parts, and of borrowed values and items. Not a
-- definition of the subject.
use Rattle.std.specs.Prelude.{ℕ, List, ◌∷◌, Some, map, option_map}
use Rattle.std.specs.Borrow.{Bor}
use Rattle.icu_plurals.specs.declared.packed.PluralElementsPackedULE.{PluralElementsPackedULE}
use Rattle.icu_plurals.specs.declared.packed.metadata.FourBitMetadata.{FourBitMetadata}
use Rattle.icu_plurals.specs.declared.packed.parts.Parts.{Parts}
use Rattle.icu_plurals.specs.declared.encode.items.Item.{Item}
use Rattle.icu_plurals.specs.declared.packed.values.Values.{Values}
use Rattle.icu_plurals.specs.Elements.{Elements}
use Rattle.icu_plurals.specs.ElementsFaults.{ElementsParts}
use Rattle.icu_plurals.specs.PackedElements.{PackedValue, PackedElements, elements_of}
use Rattle.icu_plurals.specs.Inner.ElementsReading.{read_elements, read_item}

-- the number that metadata are
abbrev pub metadata_number : FourBitMetadata → ℕ
metadata_number metadata = metadata.value

-- metadata and a borrowed text
abbrev pub lent_value : FourBitMetadata × Bor (List ℕ) → PackedValue
lent_value value = record { metadata = metadata_number value.0; text = value.1.now }

-- the packed elements in checked bytes
abbrev pub lent_elements : PluralElementsPackedULE → PackedElements
lent_elements packed = read_elements packed.bytes.now

-- the values by key of a default and a list of items
abbrev pub lent_values : Values → Elements PackedValue
lent_values values = elements_of (record { default = lent_value values.default; items = Some (map read_item values.items) })

-- the parts of bytes, borrowed from them
abbrev pub lent_parts : Parts → ElementsParts
lent_parts parts = record { first = parts.first; text = parts.text.now; rest = option_map (λ rest. rest.now) parts.rest }

-- the bytes of an item that borrows its text
abbrev pub lent_item_bytes : Item → List ℕ
lent_item_bytes item = item.first ∷ item.text.now

-- the bytes of each item
abbrev pub lent_bytes : List Item → List (List ℕ)
lent_bytes items = map lent_item_bytes items
