-- Private types of places, as contracts see them, and the places behind parts that were passed. No
-- definitions of the subject.
use Rattle.std.specs.Prelude.{ℕ, ◌+◌, List, nat_eq, take, if◌then◌else◌}
use Rattle.packed_part.specs.declared.places.Sought as code
use Rattle.packed_part.specs.declared.places.Sought.TheVariants as sought
use Rattle.packed_part.specs.declared.place_bytes.PlaceBytes.{PlaceBytes}
use Rattle.packed_part.specs.PartPlaces.{Sought, AnyNumber, Word}

abbrev pub sought_view : code.Sought → Sought
sought_view sought.AnyNumber = AnyNumber
sought_view (sought.Word word) = Word word.now

-- the bytes that are in use
abbrev pub places_view : PlaceBytes → List ℕ
places_view p = take p.count p.bytes

-- a place behind so many parts, if there is one
abbrev pub behind : ℕ → ℕ → ℕ
behind count place = if nat_eq place 0 then 0 else count + place
