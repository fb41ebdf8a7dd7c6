-- Parts that can be packed.
use Rattle.std.proofs.Common.{◌≡◌, ℕ, ◌+◌, List, [], ◌∷◌, length, refl, true, false, Bool, Some, None}
use Rattle.std.specs.Prelude.{if◌then◌else◌}
use Rattle.std.specs.List.{list_all}
use Rattle.std.specs.Cmp.Derive.{both_true}
use Rattle.message_pattern.specs.PatternParts.{Part}
use Rattle.packed_part.specs.PackedParts.{is_packable, part_items_of}
use Rattle.packed_pattern.specs.PatternBlocks.{first_unpackable}

-- there is an item for each part
pub length-items_of : (parts : List Part) → length (part_items_of parts) ≡ length parts
length-items_of [] = refl
length-items_of (p ∷ ps) = rw (length-items_of ps) refl

-- if no part is refused, all are packable
pub all_packable : (place : ℕ) (parts : List Part) → first_unpackable place parts ≡ None → list_all is_packable parts ≡ true
all_packable place [] h = refl
all_packable place (p ∷ ps) h = this (is_packable p) refl (λ e. all_packable (place + 1) ps e) h
  where
    this : (b : Bool) → is_packable p ≡ b → (first_unpackable (place + 1) ps ≡ None → list_all is_packable ps ≡ true)
        → (if b then first_unpackable (place + 1) ps else Some place) ≡ None → list_all is_packable (p ∷ ps) ≡ true
    this true is more e = both_true is (more e)
    this false is more e = cc
