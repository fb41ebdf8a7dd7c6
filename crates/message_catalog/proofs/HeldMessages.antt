-- Entries, and the messages that they hold.
use Rattle.std.proofs.Common.{◌≡◌, ◌∙◌, ◌⊎◌, ℕ, zero, suc, List, [], ◌∷◌, refl, ap, subst, sym, inl, inr, true, false, Bool, Some, None}
use Rattle.std.proofs.Common.{◌↔◌}
use Rattle.std.specs.Prelude.{Option, bytes_eq, option_map, slice_get, if◌then◌else◌}
use Rattle.std.proofs.lemmas.Option.{slice_get-map}
use Rattle.message_pattern.specs.PatternParts.{Part}
use Rattle.packed_catalog.specs.CatalogBytes.{Entry, value_under}
use Rattle.packed_pattern.specs.PatternBlocks.{IsPatternBlock, PatternBlock}
use Rattle.packed_pattern.specs.Inner.PartReading.{parts_in}
use Rattle.message_catalog.specs.CatalogMessages.{HoldMessages, HoldsMessage, Message, parts_under}
use Rattle.message_catalog.specs.Inner.MessageReading.{ArePatterns, message_in, messages_in}

-- the law of packed patterns that is used below
abbrev pub BlocksAgain : Type 0
BlocksAgain = (parts : List Part) (bytes : List ℕ) → PatternBlock parts bytes → parts_in bytes ≡ parts

-- the message that an entry holds is the one that is read from it
message_again : BlocksAgain → (entry : Entry) (message : Message) → HoldsMessage entry message → message_in entry ≡ message
message_again law entry message h =
    let of_key : List ℕ → Message = λ key. record { key = key; parts = parts_in entry.value } in
    let of_parts : List Part → Message = λ parts. record { key = message.key; parts = parts } in
    ap of_key h.key ∙ ap of_parts (law message.parts entry.value h.value)

pub messages_again : BlocksAgain → (entries : List Entry) (messages : List Message) → HoldMessages entries messages
    → messages_in entries ≡ messages
messages_again law [] [] h = refl
messages_again law [] (message ∷ messages) h = absurd h
messages_again law (entry ∷ entries) [] h = absurd h
messages_again law (entry ∷ entries) (message ∷ messages) h =
    ap (λ x. x ∷ messages_in entries) (message_again law entry message h.0)
    ∙ ap (λ xs. message ∷ xs) (messages_again law entries messages h.1)

-- the block of some parts is a packed pattern
pub is_pattern_block : BlocksAgain → (parts : List Part) (value : List ℕ) → PatternBlock parts value → IsPatternBlock value
is_pattern_block law parts value h = subst (λ (ps : List Part). PatternBlock ps value) (sym (law parts value h)) h

-- the values of entries that hold messages are packed patterns
pub values_held : BlocksAgain → (entries : List Entry) (messages : List Message) → HoldMessages entries messages → ArePatterns entries
values_held law [] messages h index value there = cc
values_held law (entry ∷ entries) [] h index value there = absurd h
values_held law (entry ∷ entries) (message ∷ messages) h zero value there =
    let same : entry.value ≡ value = cc in
    subst IsPatternBlock same (is_pattern_block law message.parts entry.value h.0.value)
values_held law (entry ∷ entries) (message ∷ messages) h (suc index) value there = values_held law entries messages h.1 index value there

-- entries whose values are packed patterns hold the messages that are read from them
pub held_again : (entries : List Entry) → ArePatterns entries → HoldMessages entries (messages_in entries)
held_again [] h = tt
held_again (entry ∷ entries) h =
    (record { key = refl; value = h 0 entry.value refl }, held_again entries (λ index value there. h (suc index) value there))

-- a choice, and what is read from it
parts_chosen : (b : Bool) (value : List ℕ) (rest : Option (List Part)) (other : Option (List ℕ)) → rest ≡ option_map parts_in other
    → (if b then Some (parts_in value) else rest) ≡ option_map parts_in (if b then Some value else other)
parts_chosen true value rest other h = refl
parts_chosen false value rest other h = h

-- the parts under a key are those of the value under it
pub parts_under-messages_in : (key : List ℕ) (entries : List Entry) → parts_under key (messages_in entries)
    ≡ option_map parts_in (value_under key entries)
parts_under-messages_in key [] = refl
parts_under-messages_in key (entry ∷ entries) =
    parts_chosen (bytes_eq entry.key key) entry.value (parts_under key (messages_in entries)) (value_under key entries)
    (parts_under-messages_in key entries)

-- what is chosen is the one, or comes of the rest
chosen : (b : Bool) (first value : List ℕ) (rest : Option (List ℕ)) → (if b then Some first else rest) ≡ Some value
    → (first ≡ value) ⊎ (rest ≡ Some value)
chosen true first value rest h = inl cc
chosen false first value rest h = inr h

-- the value under a key is a packed pattern, if each is
pub value_under_is : (key : List ℕ) (entries : List Entry) (value : List ℕ) → ArePatterns entries → value_under key entries ≡ Some value
    → IsPatternBlock value
value_under_is key [] value h found = cc
value_under_is key (entry ∷ entries) value h found =
    elim (chosen (bytes_eq entry.key key) entry.value value (value_under key entries) found) [
      | inl here ↦ subst IsPatternBlock here (h 0 entry.value refl)
      | inr later ↦ value_under_is key entries value (λ index other there. h (suc index) other there) later
    ]

-- the key of a message that is read
read_key : (entry : Option Entry) → option_map (λ (message : Message). message.key) (option_map message_in entry)
    ≡ option_map (λ (e : Entry). e.key) entry
read_key None = refl
read_key (Some entry) = refl

-- the key at a place is that of the entry
pub key_again : (entries : List Entry) (index : ℕ)
    → option_map (λ (message : Message). message.key) (slice_get (messages_in entries) index)
    ≡ option_map (λ (entry : Entry). entry.key) (slice_get entries index)
key_again entries index =
    ap (option_map (λ (message : Message). message.key)) (slice_get-map message_in entries index) ∙ read_key (slice_get entries index)

-- ---- one encoding

-- the law of packed patterns that is used below
abbrev pub HaveOneBlock : Type 0
HaveOneBlock = (parts others : List Part) (a b : List ℕ) → PatternBlock parts a → PatternBlock others b → (a ≡ b) ↔ (parts ≡ others)

same_entry : HaveOneBlock → (m : Message) (e f : Entry) → HoldsMessage e m → HoldsMessage f m → e ≡ f
same_entry law m e f h g =
    let of_key : List ℕ → Entry = λ key. record { key = key; value = e.value } in
    let of_value : List ℕ → Entry = λ value. record { key = f.key; value = value } in
    ap of_key (h.key ∙ sym g.key) ∙ ap of_value ((law m.parts m.parts e.value f.value h.value g.value).1 refl)

-- entries that hold the same messages are the same
pub same_entries : HaveOneBlock → (ms : List Message) (es fs : List Entry) → HoldMessages es ms → HoldMessages fs ms → es ≡ fs
same_entries law [] [] [] h g = refl
same_entries law [] [] (f ∷ fs) h g = absurd g
same_entries law [] (e ∷ es) fs h g = absurd h
same_entries law (m ∷ ms) [] fs h g = absurd h
same_entries law (m ∷ ms) (e ∷ es) [] h g = absurd g
same_entries law (m ∷ ms) (e ∷ es) (f ∷ fs) h g =
    ap (λ x. x ∷ es) (same_entry law m e f h.0 g.0) ∙ ap (λ xs. f ∷ xs) (same_entries law ms es fs h.1 g.1)
