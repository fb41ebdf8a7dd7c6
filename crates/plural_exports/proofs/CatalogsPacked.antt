-- Catalogues that are packed from documents.
use Rattle.std.proofs.Common.{◌≡◌, inl, inr, Err, None, Some}
use Rattle.std.specs.Prelude.{◌≢◌}
use Rattle.catalog_commands.specs.DocumentPatterns.{HasPatternsFault, TellsPatternsFault}
use Rattle.catalog_commands.specs.declared.fault.PatternsFault.{PatternsFault}
use Rattle.catalog_commands.specs.declared.fault.PatternsFault.TheVariants as patterns
use Rattle.message_catalog.specs.declared.error.TextFault.TheVariants as text
use Rattle.packed_catalog.specs.declared.error.PackCatalogError.TheVariants as entries
use Rattle.packed_pattern.specs.declared.error.PackPatternError.TheVariants as packing
use Rattle.plural_exports.specs.Inner.Conversions.{patterns_fault}
use Rattle.plural_exports.specs.Inner.GivenResults.{GivesSeen}
use Rattle.plural_exports.specs.PackedDocuments.{PacksPatterns}
use Rattle.plural_exports.proofs.Texts.{Block, bytes_of}
use Rattle.serde_json.specs.Data.{Data, Members}
use Rattle.serde_json.specs.Find.{as_object}

-- patterns with a fault of their members are an object
members_there : (value : Data) (members : Members) → as_object value ≡ Some members → as_object value ≢ None
members_there value found is none = cc

-- the fault of patterns, if it isn't out of memory
fault_refused : (value : Data) (reason : PatternsFault) (r : Block) → r ≡ Err (patterns_fault reason) → HasPatternsFault value reason
    → GivesSeen bytes_of (PacksPatterns value) r
fault_refused value patterns.NoObject r is has = rw is (inl has)
fault_refused value (patterns.NoText key) r is has = rw is (inr (key, has))
fault_refused value (patterns.Message key (text.Text kind place)) r is has = rw is (key, place, has)
fault_refused value (patterns.Message key (text.Pattern packing.CountLimit)) r is has = rw is (key, has)
fault_refused value (patterns.Message key (text.Pattern (packing.Part place))) r is has = rw is (key, has)
fault_refused value (patterns.Message key (text.Pattern (packing.Order place))) r is has = rw is (key, has)
fault_refused value (patterns.Message key (text.Pattern packing.StartLimit)) r is has = rw is (key, has)
fault_refused value (patterns.Message key (text.Pattern packing.Memory)) r is has = rw is (members_there value has.0 has.1)
fault_refused value (patterns.Catalog entries.TooMany) r is has = rw is has
fault_refused value (patterns.Catalog (entries.Order place)) r is has = rw is has
fault_refused value (patterns.Catalog entries.TooLong) r is has = rw is has
fault_refused value (patterns.Catalog entries.Memory) r is has = rw is (members_there value has.0 has.1)
fault_refused value patterns.Memory r is has = absurd has.2

-- the fault of patterns, or out of memory; of none that are no object
pub patterns_refused : (value : Data) (reason : PatternsFault) (r : Block) → r ≡ Err (patterns_fault reason)
    → TellsPatternsFault value reason → (as_object value ≡ None → reason ≡ patterns.NoObject) → GivesSeen bytes_of (PacksPatterns value) r
patterns_refused value patterns.Memory r is (inl same) no_object = rw is (λ none. (let clash = no_object none in cc))
patterns_refused value patterns.NoObject r is (inl same) no_object = absurd cc
patterns_refused value (patterns.NoText key) r is (inl same) no_object = absurd cc
patterns_refused value (patterns.Message key fault) r is (inl same) no_object = absurd cc
patterns_refused value (patterns.Catalog reason) r is (inl same) no_object = absurd cc
patterns_refused value reason r is (inr has) no_object = fault_refused value reason r is has
