-- The id of each line that begins with one is that of a message.
use Rattle.std.proofs.Common.{◌≡◌, ◌⊎◌, ◌∙◌, ◌++◌, ◌==◌, ◌&&◌, ◌||◌, ℕ, List, [], ◌∷◌, Bool, true, false, not, is_none, Option, Some, None, Result, Ok, Err, length, refl, sym, ap, subst, append_assoc, inl, inr, if◌then◌else◌}
use Rattle.std.proofs.lemmas.List.{append-nil}
use Rattle.std.specs.Str.{is_utf8}
use Rattle.po_catalog.specs.declared.draft.Place.{Place}
use Rattle.po_catalog.specs.declared.draft.Place.TheVariants as place
use Rattle.po_catalog.specs.declared.fault.Cause.{Cause}
use Rattle.po_catalog.specs.declared.fault.Cause.TheVariants as cause
use Rattle.po_catalog.specs.declared.front.Keyword.{Keyword}
use Rattle.po_catalog.specs.declared.front.Keyword.TheVariants.{Domain, Context, Id, PluralId, Form}
use Rattle.po_catalog.specs.Catalogs.{PoMessage, PoText}
use Rattle.po_catalog.specs.Drafts.{PoDraft, PoField, all_ended, behind_empty, behind_line, comment_checked, differ, empty_draft, ended_at_comment, ended_before, ended_if_whole, ends_before, field_at, field_begun, field_ended, field_taken, flags_read, form_checked, form_place, has_no_form, keyword_of_message, keyword_read, line_checked, message_begun, message_ended, message_kept, next_form, noted, other_line, passed_over, place_of_keyword, placed, plural_place, text_checked, text_ended, texts_checked, told, told_other, unknown_read, with_field, with_text}
use Rattle.po_catalog.specs.Fronts.{PoFront}
use Rattle.po_catalog.specs.KeptIds.{HaveId, IdsAreKept, SaysId, text_of_line}
use Rattle.po_catalog.specs.LineKinds.{PoLine, Fields}
use Rattle.po_catalog.specs.Quoted.{Says}
use Rattle.po_catalog.specs.ReadCatalogs.{PoCatalog, ReadsFields, ReadsLine, ReadsLines, longer, next_line, no_line}
use Rattle.po_catalog.specs.ReadCatalogs.{ends, unknown, fits, stray_keyword, goes_on, breaks, stray_text, empty, comment, fields}
use Rattle.po_catalog.proofs.OneCatalog.{Follows, KeywordFollows, LineFollows, LinesFollow, TextFollows, follows, line_follows, lines_follow, not_both}
use Rattle.po_catalog.proofs.Sayings.{one_saying, said_of}

-- ---- where the id is: with a message that was kept, with the one that is read, or in the text that is read

abbrev Taken : ℕ → List ℕ → PoDraft → Type 0
Taken n t d = (more : List ℕ) × (d.message.id ≡ Some (text_of_line n t more)) × (d.is_begun ≡ true)

abbrev IsClosed : ℕ → List ℕ → PoDraft → Type 0
IsClosed n t d = HaveId n t d.messages ⊎ Taken n t d

abbrev IsOpen : ℕ → List ℕ → PoField → PoDraft → Type 0
IsOpen n t field d = (more : List ℕ) × (field.place ≡ place.Id) × (field.text ≡ text_of_line n t more) × (d.is_begun ≡ true)

abbrev NotId : Place → Type 0
NotId place.Nowhere = Unit {0}
NotId place.Context = Unit {0}
NotId place.Id = ⊥
NotId place.PluralId = Unit {0}
NotId place.Form = Unit {0}

-- beside such a text
abbrev HoldsBeside : ℕ → List ℕ → Option PoField → PoDraft → Type 0
HoldsBeside n t None d = IsClosed n t d
HoldsBeside n t (Some field) d = HaveId n t d.messages ⊎ ((Taken n t d × NotId field.place) ⊎ IsOpen n t field d)

abbrev Holds : ℕ → List ℕ → PoDraft → Type 0
Holds n t d = HoldsBeside n t d.field d

kept_holds : (n : ℕ) (t : List ℕ) (field : Option PoField) (d : PoDraft) → HaveId n t d.messages → HoldsBeside n t field d
kept_holds n t None d h = inl h
kept_holds n t (Some field) d h = inl h

-- ---- what leaves the id where it is

pub record IsAlike (d e : PoDraft) : Type 0 where
  pub messages : e.messages ≡ d.messages
  pub id : e.message.id ≡ d.message.id
  pub is_begun : e.is_begun ≡ d.is_begun

have_along : (n : ℕ) (t : List ℕ) (d e : PoDraft) → IsAlike d e → HaveId n t d.messages → HaveId n t e.messages
have_along n t d e same h = subst (λ (ms : List PoMessage). HaveId n t ms) (sym same.messages) h

taken_along : (n : ℕ) (t : List ℕ) (d e : PoDraft) → IsAlike d e → Taken n t d → Taken n t e
taken_along n t d e same h = (h.0, same.id ∙ h.1, same.is_begun ∙ h.2)

closed_along : (n : ℕ) (t : List ℕ) (d e : PoDraft) → IsAlike d e → IsClosed n t d → IsClosed n t e
closed_along n t d e same (inl h) = inl (have_along n t d e same h)
closed_along n t d e same (inr h) = inr (taken_along n t d e same h)

holds_along : (n : ℕ) (t : List ℕ) (field : Option PoField) (d e : PoDraft) → IsAlike d e → HoldsBeside n t field d
    → HoldsBeside n t field e
holds_along n t None d e same h = closed_along n t d e same h
holds_along n t (Some field) d e same (inl h) = inl (have_along n t d e same h)
holds_along n t (Some field) d e same (inr (inl h)) = inr (inl (taken_along n t d e same h.0, h.1))
holds_along n t (Some field) d e same (inr (inr h)) = inr (inr (h.0, h.1, h.2, same.is_begun ∙ h.3))

itself : (d : PoDraft) → IsAlike d d
itself d = record { messages = refl; id = refl; is_begun = refl }

noted_alike : (l : ℕ) (c : Cause) (d : PoDraft) → IsAlike d (noted l c d)
unfolding noted
noted_alike l c d = record { messages = refl; id = refl; is_begun = refl }

told_alike : (l : ℕ) (c : Cause) (d : PoDraft) → IsAlike d (told l c d)
unfolding told noted
told_alike l c d = record { messages = refl; id = refl; is_begun = refl }

noted_holds : (n : ℕ) (t : List ℕ) (l : ℕ) (c : Cause) (d : PoDraft) → Holds n t d → Holds n t (noted l c d)
unfolding noted
noted_holds n t l c d h = holds_along n t d.field d (noted l c d) (noted_alike l c d) h

told_holds : (n : ℕ) (t : List ℕ) (l : ℕ) (c : Cause) (d : PoDraft) → Holds n t d → Holds n t (told l c d)
unfolding told noted
told_holds n t l c d h = holds_along n t d.field d (told l c d) (told_alike l c d) h

text_checked_alike : (g : Bool) (l : ℕ) (d : PoDraft) → IsAlike d (text_checked g l d)
unfolding text_checked
text_checked_alike true l d = itself d
text_checked_alike false l d = told_alike l cause.NoText d

told_other_alike : (other : Option ℕ) (d : PoDraft) → IsAlike d (told_other other d)
told_other_alike None d = itself d
told_other_alike (Some l) d = told_alike l cause.TextNotUtf8 d

texts_checked_alike : (d : PoDraft) → IsAlike d (texts_checked d)
unfolding texts_checked
texts_checked_alike d =
    elim d.message.is_faulty as (λ (v : Bool). IsAlike d (if v then d else told_other (other_line d.message) d)) [
      | true ↦ itself d
      | false ↦ told_other_alike (other_line d.message) d
    ]

form_checked_alike : (d : PoDraft) → IsAlike d (form_checked d)
unfolding form_checked
form_checked_alike d =
    elim (has_no_form d.message
    && not d.message.is_faulty) as (λ (v : Bool). IsAlike d (if v then told d.message.line cause.NoForm d else d)) [
      | true ↦ told_alike d.message.line cause.NoForm d
      | false ↦ itself d
    ]

-- ---- the text ends

other_text : (goes : Place) (text : PoText) (m : PoMessage) → NotId goes → (with_text goes text m).id ≡ m.id
other_text place.Nowhere text m h = refl
other_text place.Context text m h = refl
other_text place.Id text m h = absurd h
other_text place.PluralId text m h = refl
other_text place.Form text m h = refl

id_text : (goes : Place) (text : PoText) (m : PoMessage) → goes ≡ place.Id → (with_text goes text m).id ≡ Some text
id_text goes text m e = ap (λ (p : Place). (with_text p text m).id) e

field_taken_closed : (n : ℕ) (t : List ℕ) (field : PoField) (d : PoDraft) → HoldsBeside n t (Some field) d
    → IsClosed n t (field_taken field d)
unfolding field_taken
field_taken_closed n t field d (inl h) =
    inl (have_along n t d (text_checked field.is_given field.text.line d) (text_checked_alike field.is_given field.text.line d) h)
field_taken_closed n t field d (inr (inl h)) =
    let e = text_checked field.is_given field.text.line d in
    let same : Taken n t e = taken_along n t d e (text_checked_alike field.is_given field.text.line d) h.0 in
    inr (same.0, other_text field.place field.text e.message h.1 ∙ same.1, same.2)
field_taken_closed n t field d (inr (inr h)) =
    let e = text_checked field.is_given field.text.line d in
    let same : IsAlike d e = text_checked_alike field.is_given field.text.line d in
    let told_text : PoText → Option PoText = λ x. Some x in
    inr (h.0, id_text field.place field.text e.message h.1 ∙ ap told_text h.2, same.is_begun ∙ h.3)

field_ended_closed : (n : ℕ) (t : List ℕ) (field : Option PoField) (d : PoDraft) → HoldsBeside n t field d
    → IsClosed n t (field_ended field d)
field_ended_closed n t None d h = h
field_ended_closed n t (Some field) d h = field_taken_closed n t field (record d { field = None }) h

text_ended_closed : (n : ℕ) (t : List ℕ) (d : PoDraft) → Holds n t d → IsClosed n t (text_ended d)
unfolding text_ended
text_ended_closed n t d h = field_ended_closed n t d.field d h

-- ---- the message ends

have_more : (n : ℕ) (t : List ℕ) (ms : List PoMessage) (m : PoMessage) → HaveId n t ms → HaveId n t (ms ++ m ∷ [])
have_more n t ms m h = record {
  before = h.before;
  message = h.message;
  after = h.after ++ m ∷ [];
  more = h.more;
  stands = ap (λ (xs : List PoMessage). xs ++ m ∷ []) h.stands ∙ append_assoc h.before (h.message ∷ h.after) (m ∷ []);
  id = h.id;
}

kept_by : (n : ℕ) (t : List ℕ) (d : PoDraft) → IsClosed n t d → HaveId n t (message_kept d).messages
unfolding message_kept
kept_by n t d (inl h) = have_more n t d.messages d.message h
kept_by n t d (inr h) = record { before = d.messages; message = d.message; after = []; more = h.0; stands = refl; id = h.1 }

not_begun : (n : ℕ) (t : List ℕ) (d : PoDraft) → d.is_begun ≡ false → IsClosed n t d → HaveId n t d.messages
not_begun n t d e (inl h) = h
not_begun n t d e (inr h) = let no : true ≡ false = sym h.2 ∙ e in cc

message_ended_has : (n : ℕ) (t : List ℕ) (d : PoDraft) → IsClosed n t d → HaveId n t (message_ended d).messages
unfolding message_ended
message_ended_has n t d h =
    let checked = texts_checked d in
    let same : IsClosed n t checked = closed_along n t d checked (texts_checked_alike d) h in
    elim d.is_begun as (λ (v : Bool). d.is_begun ≡ v → HaveId n t (if v then message_kept (form_checked checked) else d).messages) [
      | true ↦ λ e. kept_by n t (form_checked checked) (closed_along n t checked (form_checked checked) (form_checked_alike checked) same)
      | false ↦ λ e. not_begun n t d e h
    ] refl

all_ended_has : (n : ℕ) (t : List ℕ) (d : PoDraft) → Holds n t d → HaveId n t (all_ended d).messages
unfolding all_ended
all_ended_has n t d h = message_ended_has n t (text_ended d) (text_ended_closed n t d h)

-- ---- keywords

ended_before_closed : (n : ℕ) (t : List ℕ) (o : Bool) (k : Keyword) (d : PoDraft) → IsClosed n t d → IsClosed n t (ended_before o k d)
unfolding ended_before
ended_before_closed n t o k d h =
    elim (ends_before k d.message || differ d.message.is_obsolete o) as (λ (v : Bool). IsClosed n t (if v then message_ended d else d)) [
      | true ↦ inl (message_ended_has n t d h)
      | false ↦ h
    ]

-- another id ends a message that has one
ended_before_id : (n : ℕ) (t : List ℕ) (o : Bool) (d : PoDraft) → IsClosed n t d → HaveId n t (ended_before o Id d).messages
unfolding ended_before
ended_before_id n t o d (inl h) =
    elim (ends_before Id d.message
    || differ d.message.is_obsolete o) as (λ (v : Bool). HaveId n t (if v then message_ended d else d).messages) [
      | true ↦ message_ended_has n t d (inl h)
      | false ↦ h
    ]
ended_before_id n t o d (inr h) =
    let behind = not (is_none d.message.plural_id) || not (has_no_form d.message) in
    let other = differ d.message.is_obsolete o in
    subst (λ (x : Option PoText). HaveId n t (if (not (is_none x) || behind) || other then message_ended d else d).messages)
    (sym h.1) (message_ended_has n t d (inr h))

message_begun_has : (n : ℕ) (t : List ℕ) (l : ℕ) (o : Bool) (d : PoDraft) → HaveId n t d.messages
    → HaveId n t (message_begun l o d).messages
unfolding message_begun
message_begun_has n t l o d h =
    elim d.is_begun as (λ (v : Bool). HaveId n t
    (if v then d else record d { message = record d.message { line = l; is_obsolete = o }; is_begun = true }).messages) [
      | true ↦ h
      | false ↦ h
    ]

message_begun_taken : (n : ℕ) (t : List ℕ) (l : ℕ) (o : Bool) (d : PoDraft) → Taken n t d → Taken n t (message_begun l o d)
unfolding message_begun
message_begun_taken n t l o d h =
    elim d.is_begun as (λ (v : Bool). Taken n t
    (if v then d else record d { message = record d.message { line = l; is_obsolete = o }; is_begun = true })) [
      | true ↦ h
      | false ↦ (h.0, h.1, refl)
    ]

pub is_begun_now : (l : ℕ) (o : Bool) (d : PoDraft) → (message_begun l o d).is_begun ≡ true
unfolding message_begun
is_begun_now l o d =
    elim d.is_begun as (λ (v : Bool). d.is_begun ≡ v
    → (if v then d else record d { message = record d.message { line = l; is_obsolete = o }; is_begun = true }).is_begun ≡ true) [
      | true ↦ λ e. e
      | false ↦ λ e. refl
    ] refl

keyword_has : (n : ℕ) (t : List ℕ) (l : ℕ) (o : Bool) (k : Keyword) (d : PoDraft) → HaveId n t d.messages
    → HaveId n t (keyword_of_message l o k d).messages
keyword_has n t l o Domain d h = h
keyword_has n t l o Context d h = message_begun_has n t l o d h
keyword_has n t l o Id d h = message_begun_has n t l o d h
keyword_has n t l o PluralId d h = message_begun_has n t l o d h
keyword_has n t l o (Form index) d h = message_begun_has n t l o d h

keyword_taken : (n : ℕ) (t : List ℕ) (l : ℕ) (o : Bool) (k : Keyword) (d : PoDraft) → Taken n t d → Taken n t (keyword_of_message l o k d)
keyword_taken n t l o Domain d h = h
keyword_taken n t l o Context d h = message_begun_taken n t l o d h
keyword_taken n t l o Id d h = message_begun_taken n t l o d h
keyword_taken n t l o PluralId d h = message_begun_taken n t l o d h
keyword_taken n t l o (Form index) d h = message_begun_taken n t l o d h

keyword_closed : (n : ℕ) (t : List ℕ) (l : ℕ) (o : Bool) (k : Keyword) (d : PoDraft) → IsClosed n t d
    → IsClosed n t (keyword_of_message l o k d)
keyword_closed n t l o k d (inl h) = inl (keyword_has n t l o k d h)
keyword_closed n t l o k d (inr h) = inr (keyword_taken n t l o k d h)

-- ---- their places

abbrev IsOtherKeyword : Keyword → Type 0
IsOtherKeyword Domain = Unit {0}
IsOtherKeyword Context = Unit {0}
IsOtherKeyword Id = ⊥
IsOtherKeyword PluralId = Unit {0}
IsOtherKeyword (Form index) = Unit {0}

abbrev GoesElsewhere : Result Place Cause → Type 0
GoesElsewhere (Ok goes) = NotId goes
GoesElsewhere (Err cause) = Unit {0}

plural_elsewhere : (m : PoMessage) → GoesElsewhere (plural_place m)
plural_elsewhere m =
    elim (not (is_none m.id) && (is_none m.plural_id && has_no_form m)) as (λ (v : Bool). GoesElsewhere
    (if v then Ok place.PluralId else Err cause.StrayPluralId)) [ true ↦ tt | false ↦ tt ]

next_elsewhere : (index : Option ℕ) (m : PoMessage) → GoesElsewhere (next_form index m)
next_elsewhere None m =
    elim (is_none m.plural_id) as (λ (v : Bool). GoesElsewhere
    (if not v then Err cause.FormWithoutIndex else (if has_no_form m then Ok place.Form else Err cause.SecondForm))) [
      | true ↦ elim (has_no_form m) as (λ (v : Bool). GoesElsewhere (if v then Ok place.Form else Err cause.SecondForm))
          [ true ↦ tt | false ↦ tt ]
      | false ↦ tt
    ]
next_elsewhere (Some index) m =
    elim (is_none m.plural_id) as (λ (v : Bool). GoesElsewhere
    (if v then Err cause.IndexWithoutPluralId else (if index == length m.forms then Ok place.Form else Err cause.WrongIndex))) [
      | true ↦ tt
      | false ↦ elim (index == length m.forms) as (λ (v : Bool). GoesElsewhere (if v then Ok place.Form else Err cause.WrongIndex))
          [ true ↦ tt | false ↦ tt ]
    ]

form_elsewhere : (index : Option ℕ) (m : PoMessage) → GoesElsewhere (form_place index m)
form_elsewhere index m =
    elim (is_none m.id) as (λ (v : Bool). GoesElsewhere (if v then Err cause.FormWithoutId else next_form index m))
    [ true ↦ tt | false ↦ next_elsewhere index m ]

goes_elsewhere : (k : Keyword) (m : PoMessage) → IsOtherKeyword k → GoesElsewhere (place_of_keyword k m)
goes_elsewhere Domain m h = tt
goes_elsewhere Context m h = tt
goes_elsewhere Id m h = absurd h
goes_elsewhere PluralId m h = plural_elsewhere m
goes_elsewhere (Form index) m h = form_elsewhere index m

begun_has : (n : ℕ) (t : List ℕ) (r : Result Place Cause) (l : ℕ) (d : PoDraft) → HaveId n t d.messages → Holds n t (field_begun r l d).0
unfolding with_field
begun_has n t (Ok goes) l d h = inl h
begun_has n t (Err cause) l d h = inl h

begun_holds : (n : ℕ) (t : List ℕ) (r : Result Place Cause) (l : ℕ) (d : PoDraft) → GoesElsewhere r → IsClosed n t d
    → Holds n t (field_begun r l d).0
unfolding with_field
begun_holds n t r l d other (inl h) = begun_has n t r l d h
begun_holds n t (Ok goes) l d other (inr h) = inr (inl (h, other))
begun_holds n t (Err cause) l d other (inr h) = inr (inl (h, tt))

other_read : (n : ℕ) (t : List ℕ) (l : ℕ) (o : Bool) (k : Keyword) (d : PoDraft) → IsOtherKeyword k → Holds n t d
    → Holds n t (keyword_read l o k d).0
unfolding keyword_read placed
other_read n t l o k d other h =
    let e = ended_before o k (text_ended d) in
    let closed : IsClosed n t (keyword_of_message l o k e) =
    keyword_closed n t l o k e (ended_before_closed n t o k (text_ended d) (text_ended_closed n t d h)) in
    begun_holds n t (place_of_keyword k (keyword_of_message l o k e).message) l (keyword_of_message l o k e)
    (goes_elsewhere k (keyword_of_message l o k e).message other) closed

id_read : (n : ℕ) (t : List ℕ) (l : ℕ) (o : Bool) (d : PoDraft) → Holds n t d → Holds n t (keyword_read l o Id d).0
unfolding keyword_read placed
id_read n t l o d h =
    let e = ended_before o Id (text_ended d) in
    begun_has n t (Ok place.Id) l (message_begun l o e)
    (message_begun_has n t l o e (ended_before_id n t o (text_ended d) (text_ended_closed n t d h)))

keyword_holds : (n : ℕ) (t : List ℕ) (l : ℕ) (o : Bool) (k : Keyword) (d : PoDraft) → Holds n t d → Holds n t (keyword_read l o k d).0
keyword_holds n t l o Domain d h = other_read n t l o Domain d tt h
keyword_holds n t l o Context d h = other_read n t l o Context d tt h
keyword_holds n t l o Id d h = id_read n t l o d h
keyword_holds n t l o PluralId d h = other_read n t l o PluralId d tt h
keyword_holds n t l o (Form index) d h = other_read n t l o (Form index) d tt h

-- ---- what else stands in a line

closed_passed : (n : ℕ) (t : List ℕ) (d : PoDraft) → IsClosed n t d → Holds n t (with_field passed_over d)
unfolding with_field
closed_passed n t d (inl h) = inl h
closed_passed n t d (inr h) = inr (inl (h, tt))

stray_holds : (n : ℕ) (t : List ℕ) (d : PoDraft) → d.field ≡ None → Holds n t d → Holds n t (with_field passed_over d)
stray_holds n t d e h = closed_passed n t d (subst (λ (x : Option PoField). HoldsBeside n t x d) e h)

if_whole_closed : (n : ℕ) (t : List ℕ) (d : PoDraft) → IsClosed n t d → IsClosed n t (ended_if_whole d)
unfolding ended_if_whole
if_whole_closed n t d h =
    elim (d.is_whole && d.is_apart) as (λ (v : Bool). IsClosed n t (if v then message_ended d else d))
    [ true ↦ inl (message_ended_has n t d h) | false ↦ h ]

unknown_holds : (n : ℕ) (t : List ℕ) (d : PoDraft) → Holds n t d → Holds n t (unknown_read d)
unfolding unknown_read
unknown_holds n t d h = closed_passed n t (ended_if_whole (text_ended d)) (if_whole_closed n t (text_ended d) (text_ended_closed n t d h))

longer_text : (n : ℕ) (t more text : List ℕ) (field : PoField) → field.text ≡ text_of_line n t more
    → (longer text field).text ≡ text_of_line n t (more ++ text)
longer_text n t more text field e =
    ap (λ (x : PoText). record x { bytes = x.bytes ++ text }) e
    ∙ ap (λ (bs : List ℕ). record { line = n; bytes = bs }) (append_assoc t more text)

longer_holds : (n : ℕ) (t text : List ℕ) (field : PoField) (d : PoDraft) → HoldsBeside n t (Some field) d
    → Holds n t (with_field (longer text field) d)
unfolding with_field
longer_holds n t text field d (inl h) = inl h
longer_holds n t text field d (inr (inl h)) = inr (inl h)
longer_holds n t text field d (inr (inr h)) = inr (inr (h.0 ++ text, h.1, longer_text n t h.0 text field h.2, h.3))

goes_on_holds : (n : ℕ) (t text : List ℕ) (field : PoField) (d : PoDraft) → d.field ≡ Some field → Holds n t d
    → Holds n t (with_field (longer text field) d)
goes_on_holds n t text field d at h = longer_holds n t text field d (subst (λ (x : Option PoField). HoldsBeside n t x d) at h)

fields_hold : (n : ℕ) (t : List ℕ) (l : ℕ) (o : Bool) {d : PoDraft} {s : List ℕ} {end : PoDraft × Option Cause}
    → ReadsFields l o d s end → Holds n t d → Holds n t end.0
fields_hold n t l o (ends d s e) h = h
fields_hold n t l o (unknown d s cause e) h = unknown_holds n t d h
fields_hold n t l o (fits d next s rest k end e is more) h =
    fields_hold n t l o more (subst (λ (r : PoDraft × Option Cause). Holds n t r.0) is (keyword_holds n t l o k d h))
fields_hold n t l o (stray_keyword d next s rest k cause e is) h =
    subst (λ (r : PoDraft × Option Cause). Holds n t r.0) is (keyword_holds n t l o k d h)
fields_hold n t l o (goes_on d s rest text after field end e at says more) h =
    fields_hold n t l o more (goes_on_holds n t text field d at h)
fields_hold n t l o (breaks d s rest text field cause e at broken) h = goes_on_holds n t text field d at h
fields_hold n t l o (stray_text d s rest e at) h = stray_holds n t d at h

-- ---- lines

checked_holds : (n : ℕ) (t : List ℕ) (l : ℕ) (s : List ℕ) (fault : Option Cause) (d : PoDraft) → Holds n t d
    → Holds n t (line_checked l s fault d)
checked_holds n t l s (Some found) d h = told_holds n t l found d h
checked_holds n t l s None d h =
    elim (is_utf8 s) as (λ (v : Bool). Holds n t (if v then d else told l cause.NotUtf8 d))
    [ true ↦ h | false ↦ told_holds n t l cause.NotUtf8 d h ]

behind_line_holds : (n : ℕ) (t : List ℕ) (d : PoDraft) → Holds n t d → Holds n t (behind_line d)
unfolding behind_line
behind_line_holds n t d h = holds_along n t d.field d (behind_line d) (record { messages = refl; id = refl; is_begun = refl }) h

behind_empty_holds : (n : ℕ) (t : List ℕ) (d : PoDraft) → Holds n t d → Holds n t (behind_empty d)
unfolding behind_empty
behind_empty_holds n t d h = holds_along n t d.field d (behind_empty d) (record { messages = refl; id = refl; is_begun = refl }) h

flags_hold : (n : ℕ) (t words : List ℕ) (d : PoDraft) → Holds n t d → Holds n t (flags_read words d)
unfolding flags_read
flags_hold n t words d h = holds_along n t d.field d (flags_read words d) (record { messages = refl; id = refl; is_begun = refl }) h

at_comment_holds : (n : ℕ) (t : List ℕ) (d : PoDraft) → Holds n t d → Holds n t (ended_at_comment d)
unfolding ended_at_comment
at_comment_holds n t d h =
    elim (d.is_whole || d.is_apart) as (λ (v : Bool). Holds n t (if v then all_ended d else d)) [
      | true ↦ kept_holds n t (all_ended d).field (all_ended d) (all_ended_has n t d h)
      | false ↦ h
    ]

comment_holds : (n : ℕ) (t : List ℕ) (l : ℕ) (s : List ℕ) (d : PoDraft) → Holds n t d → Holds n t (comment_checked l s d)
unfolding comment_checked
comment_holds n t l s d h =
    elim (is_utf8 s) as (λ (v : Bool). Holds n t (if v then d else noted l cause.NotUtf8 d))
    [ true ↦ h | false ↦ noted_holds n t l cause.NotUtf8 d h ]

line_holds : (n : ℕ) (t : List ℕ) (l : ℕ) (line : List ℕ) (d : PoDraft) {next : PoDraft} → ReadsLine l line d next → Holds n t d
    → Holds n t next
line_holds n t l line d (empty e) h = behind_empty_holds n t d h
line_holds n t l line d (comment s words e) h =
    let flagged = flags_read words (ended_at_comment d) in
    behind_line_holds n t (comment_checked l s flagged)
    (comment_holds n t l s flagged (flags_hold n t words (ended_at_comment d) (at_comment_holds n t d h)))
line_holds n t l line d (fields o s end e read) h =
    behind_line_holds n t (line_checked l s end.1 end.0) (checked_holds n t l s end.1 end.0 (fields_hold n t l o read h))

lines_hold : (n : ℕ) (t : List ℕ) {d : PoDraft} {lines : List (ℕ × List ℕ)} {end : PoDraft} → ReadsLines d lines end → Holds n t d
    → Holds n t end
lines_hold n t (no_line d) h = h
lines_hold n t (next_line d next end l line lines read more) h = lines_hold n t more (line_holds n t l line d read h)

-- ---- the line that begins with the id

-- behind the keyword its text is read
id_begun : (l : ℕ) (o : Bool) (d : PoDraft) → (keyword_read l o Id d).1 ≡ None
unfolding keyword_read placed
id_begun l o d = refl

id_field : (l : ℕ) (o : Bool) (d : PoDraft) → (keyword_read l o Id d).0.field ≡ Some (field_at place.Id l)
unfolding keyword_read placed with_field
id_field l o d = refl

id_is_begun : (l : ℕ) (o : Bool) (d : PoDraft) → (keyword_read l o Id d).0.is_begun ≡ true
unfolding keyword_read placed with_field
id_is_begun l o d = is_begun_now l o (ended_before o Id (text_ended d))

-- and holds the id
id_said : (n : ℕ) (t : List ℕ) (d : PoDraft) → d.is_begun ≡ true → Holds n t (with_field (longer t (field_at place.Id n)) d)
unfolding with_field
id_said n t d e = inr (inr ([], refl, ap (λ (bs : List ℕ). record { line = n; bytes = bs }) (sym (append-nil t)), e))

id_text_holds : (n : ℕ) (o : Bool) (t quoted after : List ℕ) (d : PoDraft) (end : PoDraft × Option Cause) → d.is_begun ≡ true
    → Says quoted (Ok (t, after))
    → TextFollows n o d (Some (field_at place.Id n)) quoted end → Holds n t end.0
id_text_holds n o t quoted after d end begun said (inl w) =
    fields_hold n t n o w.3
    (subst (λ (p : List ℕ × List ℕ). Holds n t (with_field (longer p.0 (field_at place.Id n)) d)) (ap said_of (one_saying said w.2))
    (id_said n t d begun))
id_text_holds n o t quoted after d end begun said (inr w) = absurd (not_both said w.2)

id_line_fields : (n : ℕ) (line t : List ℕ) (d : PoDraft) (end : PoDraft × Option Cause) (says : SaysId line t)
    → ReadsFields n says.is_obsolete d says.fields end → Holds n t end.0
id_line_fields n line t d end says read =
    let o = says.is_obsolete in
    let next = (keyword_read n o Id d).0 in
    let a : KeywordFollows n o says.rest next (keyword_read n o Id d).1 end =
    subst (λ (f : PoFront). Follows n o d f end) says.keyword (follows n o read) in
    let b : ReadsFields n o next says.rest end = subst (λ (c : Option Cause). KeywordFollows n o says.rest next c end) (id_begun n o d) a in
    let c : TextFollows n o next next.field says.quoted end = subst (λ (f : PoFront). Follows n o next f end) says.mark (follows n o b) in
    id_text_holds n o t says.quoted says.after next end (id_is_begun n o d) says.said
    (subst (λ (x : Option PoField). TextFollows n o next x says.quoted end) (id_field n o d) c)

id_line : (n : ℕ) (line t : List ℕ) (d next : PoDraft) → SaysId line t → ReadsLine n line d next → Holds n t next
id_line n line t d next says read =
    let x : LineFollows n d (Fields says.is_obsolete says.fields) next =
    subst (λ (k : PoLine). LineFollows n d k next) says.kind (line_follows n line d read) in
    let held : Holds n t x.0.0 = id_line_fields n line t d x.0 says x.1 in
    subst (λ (e : PoDraft). Holds n t e) (sym x.2)
    (behind_line_holds n t (line_checked n says.fields x.0.1 x.0.0) (checked_holds n t n says.fields x.0.1 x.0.0 held))

id_among : (n : ℕ) (line t : List ℕ) (before after : List (ℕ × List ℕ)) (d end : PoDraft) → SaysId line t
    → ReadsLines d (before ++ (n, line) ∷ after) end → Holds n t end
id_among n line t [] after d end says read =
    let x : LinesFollow d ((n, line) ∷ after) end = lines_follow read in
    lines_hold n t x.2 (id_line n line t d x.0 says x.1)
id_among n line t (first ∷ before) after d end says read =
    let x : LinesFollow d (first ∷ (before ++ (n, line) ∷ after)) end = lines_follow read in
    id_among n line t before after x.0 end says x.2

pub ids_are_kept : IdsAreKept
ids_are_kept = λ file line text number before after catalog is stands says.
    let read : ReadsLines empty_draft (before ++ (number, line) ∷ after) is.end =
    subst (λ (ls : List (ℕ × List ℕ)). ReadsLines empty_draft ls is.end) stands is.read in
    subst (λ (c : PoCatalog). HaveId number text c.messages) is.whole
    (all_ended_has number text is.end (id_among number line text before after empty_draft is.end says read))
