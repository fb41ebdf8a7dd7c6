-- Patterns that are packed.
use Rattle.std.proofs.Common.{◌≡◌, ◌↔◌, List, ℕ, Result, Err, refl}
use Rattle.std.specs.Prelude.{Vec}
use Rattle.std.specs.declared.alloc.Global.{Global}
use Rattle.message_pattern.specs.PatternParts.{Part}
use Rattle.packed_pattern.specs.declared.error.PackPatternError.{PackPatternError}
use Rattle.packed_pattern.specs.declared.error.PackPatternError.TheVariants as packing
use Rattle.plural_exports.specs.GivenPatterns.{HasNoBlock, PacksParts}
use Rattle.plural_exports.specs.Inner.Conversions.{pattern_pack_fault}
use Rattle.plural_exports.specs.Inner.GivenResults.{GivesSeen}
use Rattle.plural_exports.proofs.Texts.{Block, bytes_of}

-- this is the error, and it isn't out of memory
abbrev pub IsError : PackPatternError → PackPatternError → Type 0
IsError e reason = ◌≡◌ {A = Result (Vec ℕ Global) PackPatternError} (Err e) (Err reason)

-- parts have a block if memory ran out
has_block : (parts : List Part) → IsError packing.Memory packing.CountLimit ↔ HasNoBlock parts packing.CountLimit
    → ((place : ℕ) → IsError packing.Memory (packing.Part place) ↔ HasNoBlock parts (packing.Part place))
    → ((place : ℕ) → IsError packing.Memory (packing.Order place) ↔ HasNoBlock parts (packing.Order place))
    → IsError packing.Memory packing.StartLimit ↔ HasNoBlock parts packing.StartLimit
    → (reason : PackPatternError) → ¬ (HasNoBlock parts reason)
has_block parts count part order start packing.CountLimit lacks =
    (let same : IsError packing.Memory packing.CountLimit = count.1 lacks in absurd cc)
has_block parts count part order start (packing.Part place) lacks =
    (let same : IsError packing.Memory (packing.Part place) = (part place).1 lacks in absurd cc)
has_block parts count part order start (packing.Order place) lacks =
    (let same : IsError packing.Memory (packing.Order place) = (order place).1 lacks in absurd cc)
has_block parts count part order start packing.StartLimit lacks =
    (let same : IsError packing.Memory packing.StartLimit = start.1 lacks in absurd cc)
has_block parts count part order start packing.Memory lacks = lacks

-- the fault of parts that aren't packed
pub parts_refused : (parts : List Part) (e : PackPatternError) (r : Block) → r ≡ Err (pattern_pack_fault e)
    → IsError e packing.CountLimit ↔ HasNoBlock parts packing.CountLimit
    → ((place : ℕ) → IsError e (packing.Part place) ↔ HasNoBlock parts (packing.Part place))
    → ((place : ℕ) → IsError e (packing.Order place) ↔ HasNoBlock parts (packing.Order place))
    → IsError e packing.StartLimit ↔ HasNoBlock parts packing.StartLimit
    → GivesSeen bytes_of (PacksParts parts) r
parts_refused parts packing.CountLimit r is count part order start = rw is (count.0 refl)
parts_refused parts (packing.Part place) r is count part order start = rw is ((part place).0 refl)
parts_refused parts (packing.Order place) r is count part order start = rw is ((order place).0 refl)
parts_refused parts packing.StartLimit r is count part order start = rw is (start.0 refl)
parts_refused parts packing.Memory r is count part order start = rw is (has_block parts count part order start)
