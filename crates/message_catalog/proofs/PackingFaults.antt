-- Why messages aren't packed: one fault at most, out of memory aside.
use Rattle.std.proofs.Common.{◌≡◌, ◌∙◌, ◌↔◌, ◌⊎◌, ◌++◌, ◌+◌, ◌<◌, ◌≤◌, ◌^◌, ℕ, suc, List, [], ◌∷◌, drop, length, get_or, ap, subst, sym}
use Rattle.std.proofs.Common.{refl, arith, inl, inr, Some, None, Result}
use Rattle.std.proofs.lemmas.Bool.{cases_lt}
use Rattle.std.proofs.lemmas.Option.{slice_get-get_or, slice_get-map}
use Rattle.std.specs.Prelude.{Err, IsTrue, option_map, slice_get}
use Rattle.std.specs.List.{concat}
use Rattle.message_pattern.specs.declared.error.FaultKind.{FaultKind}
use Rattle.message_pattern.specs.declared.error.PatternError.{PatternError}
use Rattle.message_pattern.specs.declared.error.PatternError.TheVariants as reading
use Rattle.message_pattern.specs.PatternAnswers.{AreReadOneWay, HasPatternFault, IsPatternFault, IsPattern}
use Rattle.message_pattern.specs.PatternParts.{Part}
use Rattle.packed_list.specs.ListBytes.{has_high_start}
use Rattle.packed_pattern.specs.PartOrder.{before_all, first_misplaced}
use Rattle.packed_pattern.specs.PackedParts.{part_items_of}
use Rattle.packed_pattern.specs.PatternBlocks.{first_unpackable}
use Rattle.packed_pattern.specs.declared.error.PackPatternError.{PackPatternError}
use Rattle.packed_pattern.specs.declared.error.PackPatternError.TheVariants as parts
use Rattle.packed_catalog.specs.CatalogBytes.{AreSorted, Entry, lent_entries, pieces_of}
use Rattle.packed_catalog.specs.declared.entry.CatalogEntry.{CatalogEntry}
use Rattle.packed_catalog.specs.CatalogFaults.{IsFirstLow}
use Rattle.packed_catalog.specs.declared.error.PackCatalogError.{PackCatalogError}
use Rattle.packed_catalog.specs.declared.error.PackCatalogError.TheVariants as catalog
use Rattle.message_catalog.specs.declared.error.TextFault.{TextFault}
use Rattle.message_catalog.specs.declared.error.TextFault.TheVariants as text
use Rattle.message_catalog.specs.declared.error.PackMessagesError.{PackMessagesError}
use Rattle.message_catalog.specs.declared.error.PackMessagesError.TheVariants as packing
use Rattle.message_catalog.specs.MessagePacking.{ArePacked, AreWithoutFault, HasEntriesFault, HasPackingFault, HasTextFault, HaveNoFault}
use Rattle.message_catalog.specs.MessagePacking.{IsErrUnlessMemory, IsPackedText, IsUnpackable, KeyedText, TellsFault, keyed_text_view}
use Rattle.message_catalog.specs.MessagePacking.{texts_view}
use Rattle.message_catalog.specs.Inner.PackedViews.{IsThis, TellsFirst, TellsText, catalog_error, packed_view, parts_error, text_error}
use Rattle.message_catalog.specs.declared.packing.PackedMessage.{PackedMessage}
use Rattle.message_catalog.specs.declared.text.MessageText.{MessageText}
use Rattle.message_catalog.proofs.TextsPacked.{behind_more}

-- ---- one text

-- a text that isn't a pattern has its first fault alone
pub one_text_fault : AreReadOneWay → (bytes : List ℕ) (kind : FaultKind) (place : ℕ) → HasPatternFault bytes kind place
    → (fault : TextFault) → HasTextFault bytes fault → text.Text kind place ≡ fault
one_text_fault law bytes kind place h (text.Text k p) g = let same = (law _ bytes).2 kind k place p h g in cc
one_text_fault law bytes kind place h (text.Pattern error) g = absurd ((law _ bytes).1 g.0 kind place g.1 h)

-- a pattern has the faults of its parts alone
pub parts_fault : AreReadOneWay → (bytes : List ℕ) (ps : List Part) → IsPattern bytes ps → (P : Type 0)
    → ((error : PackPatternError) → IsUnpackable ps error → P)
    → (fault : TextFault) → HasTextFault bytes fault → P
parts_fault law bytes ps h P told (text.Text k p) g = absurd ((law _ bytes).1 ps k p h g)
parts_fault law bytes ps h P told (text.Pattern error) g =
    let same : g.0 ≡ ps = (law _ bytes).0 g.0 ps g.1 h in
    told error (subst (λ (qs : List Part). IsUnpackable qs error) same g.2)

-- the same fault
pub one_parts_fault : AreReadOneWay → (bytes : List ℕ) (ps : List Part) → IsPattern bytes ps → (found : PackPatternError)
    → ((error : PackPatternError) → IsUnpackable ps error → found ≡ error) → (fault : TextFault) → HasTextFault bytes fault
    → text.Pattern found ≡ fault
one_parts_fault law bytes ps h found told (text.Text k p) g = absurd ((law _ bytes).1 ps k p h g)
one_parts_fault law bytes ps h found told (text.Pattern error) g =
    let same : g.0 ≡ ps = (law _ bytes).0 g.0 ps g.1 h in
    ap text.Pattern (told error (subst (λ (qs : List Part). IsUnpackable qs error) same g.2))

-- what the clauses of packed_pattern::pack say of a result
pub record TellsParts {A : Type 0} (r : Result A PackPatternError) (ps : List Part) : Type 0 where
  pub count_limit : (r ≡ Err parts.CountLimit) ↔ (65535 < length ps)
  pub part : (place : ℕ) → (r ≡ Err (parts.Part place)) ↔ ((length ps ≤ 65535) × (first_unpackable 0 ps ≡ Some place))
  pub order : (place : ℕ) → (r ≡ Err (parts.Order place))
      ↔ ((length ps ≤ 65535) × (first_unpackable 0 ps ≡ None) × (first_misplaced 0 before_all ps ≡ Some place))
  pub start_limit : (r ≡ Err parts.StartLimit)
      ↔ ((length ps ≤ 65535) × (first_unpackable 0 ps ≡ None) × (first_misplaced 0 before_all ps ≡ None)
      × IsTrue (has_high_start (part_items_of ps)))

pub parts_refused : {A : Type 0} → (r : Result A PackPatternError) (ps : List Part) → TellsParts r ps
    → (error : PackPatternError) → r ≡ Err error → (error ≡ parts.Memory) ⊎ IsUnpackable ps error
parts_refused r ps told parts.CountLimit h = inr (told.count_limit.0 h)
parts_refused r ps told (parts.Part place) h = inr ((told.part place).0 h)
parts_refused r ps told (parts.Order place) h = inr ((told.order place).0 h)
parts_refused r ps told parts.StartLimit h = inr (told.start_limit.0 h)
parts_refused r ps told parts.Memory h = inl refl

pub parts_exact : {A : Type 0} → (r : Result A PackPatternError) (ps : List Part) → TellsParts r ps
    → (error : PackPatternError) → IsUnpackable ps error → r ≡ Err error
parts_exact r ps told parts.CountLimit h = told.count_limit.1 h
parts_exact r ps told (parts.Part place) h = (told.part place).1 h
parts_exact r ps told (parts.Order place) h = (told.order place).1 h
parts_exact r ps told parts.StartLimit h = told.start_limit.1 h
parts_exact r ps told parts.Memory h = absurd h

-- the error of a text that isn't a pattern
pub text_told : (index : ℕ) (bytes : List ℕ) (error : PatternError) → IsPatternFault bytes error → TellsText index bytes (text_error index error)
text_told index bytes (reading.Fault kind place) h = inr (text.Text kind place, refl, h)
text_told index bytes reading.Memory h = inl refl

pub text_exact : AreReadOneWay → (index : ℕ) (bytes : List ℕ) (error : PatternError) → IsPatternFault bytes error
    → (fault : TextFault) → HasTextFault bytes fault → IsThis (text_error index error) (packing.Message index fault)
text_exact law index bytes (reading.Fault kind place) h fault g =
    inl (ap (packing.Message index) (one_text_fault law bytes kind place h fault g))
text_exact law index bytes reading.Memory h fault g = inr refl

-- the error of a pattern that isn't packed
unpackable_told : (index : ℕ) (bytes : List ℕ) (ps : List Part) (error : PackPatternError) → IsPattern bytes ps
    → (error ≡ parts.Memory → ⊥) → (error ≡ parts.Memory) ⊎ IsUnpackable ps error
    → TellsText index bytes (packing.Message index (text.Pattern error))
unpackable_told index bytes ps error read other (inl h) = absurd (other h)
unpackable_told index bytes ps error read other (inr h) = inr (text.Pattern error, refl, (ps, read, h))

pub parts_told : (index : ℕ) (bytes : List ℕ) (ps : List Part) (error : PackPatternError) → IsPattern bytes ps
    → (error ≡ parts.Memory) ⊎ IsUnpackable ps error → TellsText index bytes (parts_error index error)
parts_told index bytes ps parts.CountLimit read h = unpackable_told index bytes ps parts.CountLimit read (λ e. absurd cc) h
parts_told index bytes ps (parts.Part place) read h = unpackable_told index bytes ps (parts.Part place) read (λ e. absurd cc) h
parts_told index bytes ps (parts.Order place) read h = unpackable_told index bytes ps (parts.Order place) read (λ e. absurd cc) h
parts_told index bytes ps parts.StartLimit read h = unpackable_told index bytes ps parts.StartLimit read (λ e. absurd cc) h
parts_told index bytes ps parts.Memory read h = inl refl

pub parts_are_exact : AreReadOneWay → (index : ℕ) (bytes : List ℕ) (ps : List Part) (error : PackPatternError) → IsPattern bytes ps
    → ((e : PackPatternError) → IsUnpackable ps e → error ≡ e) → (fault : TextFault) → HasTextFault bytes fault
    → IsThis (parts_error index error) (packing.Message index fault)
parts_are_exact law index bytes ps parts.CountLimit read told fault h =
    inl (ap (packing.Message index) (one_parts_fault law bytes ps read parts.CountLimit told fault h))
parts_are_exact law index bytes ps (parts.Part place) read told fault h =
    inl (ap (packing.Message index) (one_parts_fault law bytes ps read (parts.Part place) told fault h))
parts_are_exact law index bytes ps (parts.Order place) read told fault h =
    inl (ap (packing.Message index) (one_parts_fault law bytes ps read (parts.Order place) told fault h))
parts_are_exact law index bytes ps parts.StartLimit read told fault h =
    inl (ap (packing.Message index) (one_parts_fault law bytes ps read parts.StartLimit told fault h))
parts_are_exact law index bytes ps parts.Memory read told fault h = inr refl

-- ---- entries

length-lent : (lending : List CatalogEntry) → length (lent_entries lending) ≡ length lending
length-lent [] = refl
length-lent (entry ∷ lending) = ap suc (length-lent lending)

-- what the clauses of packed_catalog::pack say of a result
pub record TellsEntries {A : Type 0} (r : Result A PackCatalogError) (lending : List CatalogEntry) : Type 0 where
  pub too_many : (r ≡ Err catalog.TooMany) ↔ (2 ^ 32 ≤ length lending)
  pub order : (index : ℕ) → (r ≡ Err (catalog.Order index)) ↔ ((length lending < 2 ^ 32) × IsFirstLow (lent_entries lending) index)
  pub too_long : (r ≡ Err catalog.TooLong)
      ↔ ((length lending < 2 ^ 32) × AreSorted (lent_entries lending) × (2 ^ 32 ≤ length (concat (pieces_of (lent_entries lending)))))

-- few entries, and few that are lent_entries
few : (lending : List CatalogEntry) → length lending < 2 ^ 32 → length (lent_entries lending) < 2 ^ 32
few lending h = subst (λ n. n < 2 ^ 32) (sym (length-lent lending)) h

few_lent : (lending : List CatalogEntry) → length (lent_entries lending) < 2 ^ 32 → length lending < 2 ^ 32
few_lent lending h = subst (λ n. n < 2 ^ 32) (length-lent lending) h

pub entries_refused : {A : Type 0} → (r : Result A PackCatalogError) (lending : List CatalogEntry) → TellsEntries r lending
    → (error : PackCatalogError) → r ≡ Err error → (error ≡ catalog.Memory) ⊎ HasEntriesFault (lent_entries lending) error
entries_refused r lending told catalog.TooMany h = inr (subst (λ n. 2 ^ 32 ≤ n) (sym (length-lent lending)) (told.too_many.0 h))
entries_refused r lending told (catalog.Order index) h = let t = (told.order index).0 h in inr (few lending t.0, t.1)
entries_refused r lending told catalog.TooLong h = let t = told.too_long.0 h in inr (few lending t.0, t.1, t.2)
entries_refused r lending told catalog.Memory h = inl refl

pub entries_exact : {A : Type 0} → (r : Result A PackCatalogError) (lending : List CatalogEntry) → TellsEntries r lending
    → (error : PackCatalogError) → HasEntriesFault (lent_entries lending) error → r ≡ Err error
entries_exact r lending told catalog.TooMany h = told.too_many.1 (subst (λ n. 2 ^ 32 ≤ n) (length-lent lending) h)
entries_exact r lending told (catalog.Order index) h = (told.order index).1 (few_lent lending h.0, h.1)
entries_exact r lending told catalog.TooLong h = told.too_long.1 (few_lent lending h.0, h.1, h.2)
entries_exact r lending told catalog.Memory h = absurd h

-- ---- messages

-- the result of an error
pub to_result : {A : Type 0} → (error other : PackMessagesError) → IsThis error other → IsErrUnlessMemory {A = A} (Err error) other
to_result error other (inl h) = inl (ap Err h)
to_result error other (inr h) = inr (ap Err h)

-- behind texts without a fault it is the first one
pub message_refused : (texts : List KeyedText) (index : ℕ) (keyed : KeyedText) (error : PackMessagesError)
    → slice_get texts index ≡ Some keyed
    → HaveNoFault texts (λ k. k < index) → TellsText index keyed.text error → TellsFirst texts error
message_refused texts index keyed error there good (inl h) = inl h
message_refused texts index keyed error there good (inr h) =
    inr (index, h.0, h.1, record { keyed = keyed; there = there; has = h.2; before = good })

-- it is one that the messages have
pub tells_fault : (texts : List KeyedText) (error : PackMessagesError) → TellsFirst texts error → TellsFault texts error
tells_fault texts error (inl h) = inl h
tells_fault texts error (inr h) = inr (subst (λ e. HasPackingFault texts e) (sym h.2) h.3)

-- if the text has no fault, memory ran out
no_text : (index : ℕ) (bytes : List ℕ) (error other : PackMessagesError) → ((fault : TextFault) → HasTextFault bytes fault → ⊥)
    → TellsText index bytes error → IsThis error other
no_text index bytes error other none (inl h) = inr h
no_text index bytes error other none (inr h) = absurd (none h.0 h.2)

-- each other fault of the messages is this one
pub message_exact : (texts : List KeyedText) (index : ℕ) (keyed : KeyedText) (error : PackMessagesError)
    → slice_get texts index ≡ Some keyed
    → HaveNoFault texts (λ k. k < index) → TellsText index keyed.text error
    → ((fault : TextFault) → HasTextFault keyed.text fault → IsThis error (packing.Message index fault))
    → (other : PackMessagesError) → HasPackingFault texts other → IsThis error other
message_exact texts index keyed error there good told exact (packing.Message i fault) h = elim (cases_lt i index) [
  | inl before ↦ absurd (good i h.keyed before h.there fault h.has)
  | inr after ↦ elim (cases_lt index i) [
    | inl behind ↦ no_text index keyed.text error (packing.Message i fault) (h.before index keyed behind there) told
    | inr here ↦
        let place : i ≡ index = omega arith in
        let both : Some h.keyed ≡ Some keyed = sym h.there ∙ ap (slice_get texts) place ∙ there in
        let same : h.keyed ≡ keyed = cc in
        let this = exact fault (subst (λ (k : KeyedText). HasTextFault k.text fault) same h.has) in
        subst (λ k. IsThis error (packing.Message k fault)) (sym place) this
  ]
]
message_exact texts index keyed error there good told exact (packing.Catalog e) h =
    no_text index keyed.text error (packing.Catalog e) (h.good index keyed tt there) told
message_exact texts index keyed error there good told exact packing.Memory h = absurd h

-- texts without a fault, whose entries have none, have none
pub packed_exact : (texts : List KeyedText) (entries : List Entry) → AreWithoutFault texts
    → ((others : List Entry) → ArePacked texts others → others ≡ entries)
    → (P : PackMessagesError → Type 0) → ((error : PackCatalogError) → HasEntriesFault entries error → P (packing.Catalog error))
    → (other : PackMessagesError) → HasPackingFault texts other → P other
packed_exact texts entries good one P told (packing.Message i fault) h = absurd (good i h.keyed tt h.there fault h.has)
packed_exact texts entries good one P told (packing.Catalog e) h =
    told e (subst (λ (es : List Entry). HasEntriesFault es e) (one h.entries h.packed) h.fault)
packed_exact texts entries good one P told packing.Memory h = absurd h

-- the error of entries that aren't packed
pub catalog_told : (texts : List KeyedText) (entries : List Entry) (error : PackCatalogError)
    → AreWithoutFault texts → ArePacked texts entries
    → (error ≡ catalog.Memory) ⊎ HasEntriesFault entries error → TellsFault texts (catalog_error error)
catalog_told texts entries catalog.TooMany good packed (inl h) = absurd cc
catalog_told texts entries catalog.TooMany good packed (inr h) = inr (record { good = good; entries = entries; packed = packed; fault = h })
catalog_told texts entries (catalog.Order index) good packed (inl h) = absurd cc
catalog_told texts entries (catalog.Order index) good packed (inr h) =
    inr (record { good = good; entries = entries; packed = packed; fault = h })
catalog_told texts entries catalog.TooLong good packed (inl h) = absurd cc
catalog_told texts entries catalog.TooLong good packed (inr h) = inr (record { good = good; entries = entries; packed = packed; fault = h })
catalog_told texts entries catalog.Memory good packed h = inl refl

pub catalog_exact : (error other : PackCatalogError) → error ≡ other → IsThis (catalog_error error) (packing.Catalog other)
catalog_exact catalog.TooMany other h = inl (ap packing.Catalog h)
catalog_exact (catalog.Order index) other h = inl (ap packing.Catalog h)
catalog_exact catalog.TooLong other h = inl (ap packing.Catalog h)
catalog_exact catalog.Memory other h = inr refl

-- ---- the texts of a slice

-- the text at a place
pub text_there : (messages : List MessageText) (k : ℕ) (d : MessageText) → k < length messages
    → slice_get (texts_view messages) k ≡ Some (keyed_text_view (get_or messages k d))
text_there messages k d l = slice_get-map keyed_text_view messages k ∙ ap (option_map keyed_text_view) (slice_get-get_or messages k d l)

-- one text more has no fault
pub good_more : (messages : List MessageText) (k : ℕ) (d : MessageText) → k < length messages
    → HaveNoFault (texts_view messages) (λ i. i < k)
    → ((fault : TextFault) → HasTextFault (get_or messages k d).text.now fault → ⊥) → HaveNoFault (texts_view messages) (λ i. i < k + 1)
good_more messages k d l good none i keyed within there fault h = elim (cases_lt i k) [
  | inl before ↦ good i keyed before there fault h
  | inr after ↦
      let place : i ≡ k = omega arith in
      let both : Some (keyed_text_view (get_or messages k d)) ≡ Some keyed =
      sym (text_there messages k d l) ∙ ap (slice_get (texts_view messages)) (sym place) ∙ there in
      let same : keyed_text_view (get_or messages k d) ≡ keyed = cc in
      none fault (subst (λ (t : KeyedText). HasTextFault t.text fault) (sym same) h)
]

-- a message more is packed
packed_push : (old : List PackedMessage) (x : PackedMessage)
    → packed_view (old ++ x ∷ []) ≡ packed_view old ++ record { key = x.key.now; value = x.block.items } ∷ []
packed_push [] x = refl
packed_push (y ∷ old) x = ap (λ es. record { key = y.key.now; value = y.block.items } ∷ es) (packed_push old x)

pub pushed : (messages : List MessageText) (k : ℕ) (d : MessageText) (old new : List PackedMessage)
    (x : PackedMessage) → k < length messages
    → new ≡ old ++ x ∷ [] → IsPackedText (get_or messages k d).text.now x.block.items → x.key.now ≡ (get_or messages k d).key.now
    → ((rest : List Entry) → ArePacked (drop k (texts_view messages)) rest → ArePacked (texts_view messages) (packed_view old ++ rest))
    → (rest : List Entry) → ArePacked (drop (k + 1) (texts_view messages)) rest → ArePacked (texts_view messages) (packed_view new ++ rest)
pushed messages k d old new x l is one key behind rest h =
    let keyed = keyed_text_view (get_or messages k d) in
    let more = behind_more (texts_view messages) k keyed x.block.items (packed_view old) (text_there messages k d l) one behind rest h in
    let entry : List ℕ → Entry = λ (bytes : List ℕ). record { key = bytes; value = x.block.items } in
    let view : packed_view new ≡ packed_view old ++ entry keyed.key ∷ [] =
    ap packed_view is ∙ packed_push old x ∙ ap (λ (bytes : List ℕ). packed_view old ++ entry bytes ∷ []) key in
    subst (λ (es : List Entry). ArePacked (texts_view messages) (es ++ rest)) (sym view) more
