-- What texts are packed as, text by text.
use Rattle.std.proofs.Common.{◌≡◌, ◌∙◌, ◌++◌, ◌+◌, ◌≤◌, ℕ, List, [], ◌∷◌, drop, length, get_or, refl, ap, sym, subst, Some}
use Rattle.std.specs.Prelude.{slice_get}
use Rattle.std.proofs.Math.ListN.{drop_of_length-le}
use Rattle.std.proofs.lemmas.List.{append-nil, append_assoc, drop_more}
use Rattle.std.proofs.lemmas.Option.{slice_get-get_or, slice_get_within}
use Rattle.message_pattern.specs.PatternAnswers.{AreReadOneWay}
use Rattle.message_pattern.specs.PatternParts.{Part}
use Rattle.packed_catalog.specs.CatalogBytes.{CatalogBytes, Entry}
use Rattle.message_catalog.specs.CatalogMessages.{HoldMessages, Message}
use Rattle.message_catalog.specs.MessagePacking.{ArePacked, AreRead, IsPackedText, IsReadMessage, KeyedText, PacksTo}
use Rattle.message_catalog.proofs.HeldMessages.{HaveOneBlock, same_entries}

-- one text more is packed
pub one_more : (keyed : KeyedText) (texts : List KeyedText) (value : List ℕ) (rest : List Entry) → IsPackedText keyed.text value
    → ArePacked texts rest → ArePacked (keyed ∷ texts) (record { key = keyed.key; value = value } ∷ rest)
one_more keyed texts value rest one others = record {
  messages = record { key = keyed.key; parts = one.parts } ∷ others.messages;
  read = (record { key = refl; parts = one.read }, others.read);
  held = (record { key = refl; value = one.packed }, others.held);
}

-- no text is packed as no entry
pub none_packed : (texts : List KeyedText) → texts ≡ [] → ArePacked texts []
none_packed [] h = record { messages = []; read = tt; held = tt }
none_packed (keyed ∷ texts) h = cc

-- entries of messages of texts, as a catalogue, are what the texts are packed to
pub packs_to : (texts : List KeyedText) (entries : List Entry) (bytes : List ℕ) → ArePacked texts entries → CatalogBytes entries bytes
    → PacksTo texts bytes
packs_to texts entries bytes packed block = record {
  messages = packed.messages;
  read = packed.read;
  block = record { entries = entries; packed = block; held = packed.held };
}

-- ---- texts are packed as the same entries

same_message : AreReadOneWay → (keyed : KeyedText) (m n : Message) → IsReadMessage keyed m → IsReadMessage keyed n → m ≡ n
same_message read keyed m n h g =
    let of_key : List ℕ → Message = λ key. record { key = key; parts = m.parts } in
    let of_parts : List Part → Message = λ parts. record { key = n.key; parts = parts } in
    ap of_key (h.key ∙ sym g.key) ∙ ap of_parts ((read _ keyed.text).0 m.parts n.parts h.parts g.parts)

-- texts are read as the same messages
same_messages : AreReadOneWay → (texts : List KeyedText) (ms ns : List Message) → AreRead texts ms → AreRead texts ns → ms ≡ ns
same_messages read [] [] [] h g = refl
same_messages read [] [] (n ∷ ns) h g = absurd g
same_messages read [] (m ∷ ms) ns h g = absurd h
same_messages read (t ∷ texts) [] ns h g = absurd h
same_messages read (t ∷ texts) (m ∷ ms) [] h g = absurd g
same_messages read (t ∷ texts) (m ∷ ms) (n ∷ ns) h g =
    ap (λ x. x ∷ ms) (same_message read t m n h.0 g.0) ∙ ap (λ xs. n ∷ xs) (same_messages read texts ms ns h.1 g.1)

pub packed_once : AreReadOneWay → HaveOneBlock → (texts : List KeyedText) (es fs : List Entry) → ArePacked texts es
    → ArePacked texts fs → es ≡ fs
packed_once read law texts es fs p q =
    let same = same_messages read texts q.messages p.messages q.read p.read in
    same_entries law p.messages es fs p.held (subst (λ (ms : List Message). HoldMessages fs ms) same q.held)

-- ---- text by text

-- the texts from a place on
texts_step : (texts : List KeyedText) (index : ℕ) (keyed : KeyedText) → slice_get texts index ≡ Some keyed
    → drop index texts ≡ keyed ∷ drop (index + 1) texts
texts_step texts index keyed h =
    let l = slice_get_within texts index keyed h in
    let both : Some (get_or texts index keyed) ≡ Some keyed = sym (slice_get-get_or texts index keyed l) ∙ h in
    let same : get_or texts index keyed ≡ keyed = cc in
    drop_more texts index keyed l ∙ ap (λ x. x ∷ drop (index + 1) texts) same

-- what the remaining texts are packed as stands behind one text more
pub behind_more : (texts : List KeyedText) (index : ℕ) (keyed : KeyedText) (value : List ℕ) (done : List Entry)
    → slice_get texts index ≡ Some keyed
    → IsPackedText keyed.text value → ((rest : List Entry) → ArePacked (drop index texts) rest → ArePacked texts (done ++ rest))
    → (rest : List Entry) → ArePacked (drop (index + 1) texts) rest
    → ArePacked texts ((done ++ record { key = keyed.key; value = value } ∷ []) ++ rest)
behind_more texts index keyed value done there one behind rest h =
    let entry : Entry = record { key = keyed.key; value = value } in
    let more = subst (λ (ts : List KeyedText). ArePacked ts (entry ∷ rest)) (sym (texts_step texts index keyed there))
    (one_more keyed (drop (index + 1) texts) value rest one h) in
    subst (λ (es : List Entry). ArePacked texts es) (sym (append_assoc done (entry ∷ []) rest)) (behind (entry ∷ rest) more)

-- behind all texts stands nothing
pub behind_all : (texts : List KeyedText) (index : ℕ) (done : List Entry) → length texts ≤ index
    → ((rest : List Entry) → ArePacked (drop index texts) rest → ArePacked texts (done ++ rest)) → ArePacked texts done
behind_all texts index done l behind =
    subst (λ (es : List Entry). ArePacked texts es) (append-nil done)
    (behind [] (none_packed (drop index texts) (drop_of_length-le texts l)))
