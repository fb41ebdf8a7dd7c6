-- What is read of a catalog up to some place, and what a keyword, a text, a comment and an empty line
-- add to it.
use Rattle.std.specs.Prelude.{ℕ, ◌==◌, ◌&&◌, ◌||◌, Bool, true, false, not, List, [], ◌∷◌, ◌++◌, length, flat_map, Option, Some, None, is_none, Result, Ok, Err, if◌then◌else◌}
use Rattle.std.specs.Option.{option_or}
use Rattle.std.specs.Str.{is_utf8}
use Rattle.po_catalog.specs.declared.draft.Place.{Place}
use Rattle.po_catalog.specs.declared.draft.Place.TheVariants as place
use Rattle.po_catalog.specs.declared.fault.Cause.{Cause}
use Rattle.po_catalog.specs.declared.fault.Cause.TheVariants.{NotUtf8, TextNotUtf8, NoText, NoForm, StrayPluralId, FormWithoutId, FormWithoutIndex, IndexWithoutPluralId, WrongIndex, SecondForm}
use Rattle.po_catalog.specs.declared.fault.Fault.{Fault}
use Rattle.po_catalog.specs.declared.front.Keyword.{Keyword}
use Rattle.po_catalog.specs.declared.front.Keyword.TheVariants.{Domain, Context, Id, PluralId, Form}
use Rattle.po_catalog.specs.Catalogs.{PoMessage, PoText}
use Rattle.po_catalog.specs.PoBytes.{message_flags_of}

-- ---- a message, and its texts

abbrev pub empty_text : ℕ → PoText
empty_text line = record { line = line; bytes = [] }

abbrev pub empty_message : PoMessage
empty_message = record { line = 0; context = None; id = None; plural_id = None; forms = []; flags = []; is_obsolete = false; is_faulty = false }

-- the text is the message's
abbrev pub with_text : Place → PoText → PoMessage → PoMessage
with_text place.Nowhere text message = message
with_text place.Context text message = record message { context = Some text }
with_text place.Id text message = record message { id = Some text }
with_text place.PluralId text message = record message { plural_id = Some text }
with_text place.Form text message = record message { forms = message.forms ++ text ∷ [] }

abbrev pub has_no_form : PoMessage → Bool
has_no_form message = length message.forms == 0

-- a text stands that is behind the context
abbrev pub has_id : PoMessage → Bool
has_id message = not (is_none message.id) || (not (is_none message.plural_id) || not (has_no_form message))

-- the keyword begins another message
abbrev pub ends_before : Keyword → PoMessage → Bool
ends_before Domain message = true
ends_before Context message = not (is_none message.context) || has_id message
ends_before Id message = has_id message
ends_before PluralId message = false
ends_before (Form index) message = false

-- `msgid_plural` stands right behind `msgid`
abbrev pub plural_place : PoMessage → Result Place Cause
plural_place message = if not (is_none message.id) && (is_none message.plural_id && has_no_form message) then Ok place.PluralId else Err StrayPluralId

-- `msgstr` has no index if the message has no plural, and then stands once; else it has the next one
abbrev pub next_form : Option ℕ → PoMessage → Result Place Cause
next_form None message =
    if not (is_none message.plural_id) then Err FormWithoutIndex
    else (if has_no_form message then Ok place.Form else Err SecondForm)
next_form (Some index) message =
    if is_none message.plural_id then Err IndexWithoutPluralId
    else (if index == length message.forms then Ok place.Form else Err WrongIndex)

abbrev pub form_place : Option ℕ → PoMessage → Result Place Cause
form_place index message = if is_none message.id then Err FormWithoutId else next_form index message

-- where the text of the keyword goes, or why it doesn't fit
abbrev pub place_of_keyword : Keyword → PoMessage → Result Place Cause
place_of_keyword Domain message = Ok place.Nowhere
place_of_keyword Context message = Ok place.Context
place_of_keyword Id message = Ok place.Id
place_of_keyword PluralId message = plural_place message
place_of_keyword (Form index) message = form_place index message

-- ---- texts whose bytes are no UTF-8, as their escapes may make them

abbrev pub is_text_of_other_bytes : PoText → Bool
is_text_of_other_bytes text = not (is_utf8 text.bytes)

-- the line of the text, if it is such a one
abbrev pub line_if_other : Option PoText → Option ℕ
line_if_other None = None
line_if_other (Some text) = if is_text_of_other_bytes text then Some text.line else None

-- the line of the first one of these
abbrev pub first_other : List PoText → Option ℕ
first_other [] = None
first_other (text ∷ more) = if is_text_of_other_bytes text then Some text.line else first_other more

-- the line of the first one of the message
abbrev pub other_line : PoMessage → Option ℕ
other_line message =
    option_or (option_or (option_or (line_if_other message.context) (line_if_other message.id)) (line_if_other message.plural_id))
    (first_other message.forms)

-- ---- flags

-- the flags of a comment, with a comma behind each
abbrev pub with_comma : List ℕ → List ℕ
with_comma flag = flag ++ 44 ∷ []

abbrev pub with_flags : List ℕ → PoMessage → PoMessage
with_flags comment message = record message { flags = message.flags ++ flat_map with_comma (message_flags_of comment) }

-- ---- what is read up to some place

-- a text that is read, and whether any text stands behind its keyword
pub record PoField : Type 0 where
  pub place : Place
  pub text : PoText
  pub is_given : Bool

pub record PoDraft : Type 0 where
  -- the messages before, and what is wrong
  pub messages : List PoMessage
  pub faults : List Fault
  -- the message that is read, and the text in it
  pub message : PoMessage
  pub field : Option PoField
  -- a keyword of the message was read; its `msgstr` was read; the line before is empty
  pub is_begun : Bool
  pub is_whole : Bool
  pub is_apart : Bool

abbrev pub empty_draft : PoDraft
empty_draft = record { messages = []; faults = []; message = empty_message; field = None; is_begun = false; is_whole = false; is_apart = true }

-- what is wrong in a comment is told
unfoldable pub noted : ℕ → Cause → PoDraft → PoDraft
noted line cause draft = record draft { faults = draft.faults ++ record { line = line; cause = cause } ∷ [] }

abbrev pub with_fault : PoDraft → PoDraft
with_fault draft = record draft { message = record draft.message { is_faulty = true } }

-- what is wrong in a line of the message is told
unfoldable pub told : ℕ → Cause → PoDraft → PoDraft
told line cause draft = with_fault (noted line cause draft)

-- a text is read, which begins in this line
abbrev pub field_at : Place → ℕ → PoField
field_at goes line = record { place = goes; text = empty_text line; is_given = false }

-- a text is passed over
abbrev pub passed_over : PoField
passed_over = record { place = place.Nowhere; text = empty_text 0; is_given = true }

unfoldable pub with_field : PoField → PoDraft → PoDraft
with_field field draft = record draft { field = Some field }

-- ---- ends

-- that no text stood behind a keyword is told
unfoldable pub text_checked : Bool → ℕ → PoDraft → PoDraft
text_checked is_given line draft = if is_given then draft else told line NoText draft

abbrev pub text_taken : Place → PoText → PoDraft → PoDraft
text_taken goes text draft = record draft { message = with_text goes text draft.message }

unfoldable pub field_taken : PoField → PoDraft → PoDraft
field_taken field draft = text_taken field.place field.text (text_checked field.is_given field.text.line draft)

abbrev pub field_ended : Option PoField → PoDraft → PoDraft
field_ended None draft = draft
field_ended (Some field) draft = field_taken field (record draft { field = None })

-- the text that is read is the message's
unfoldable pub text_ended : PoDraft → PoDraft
text_ended draft = field_ended draft.field draft

abbrev pub told_other : Option ℕ → PoDraft → PoDraft
told_other None draft = draft
told_other (Some line) draft = told line TextNotUtf8 draft

-- the texts of a message in which nothing is wrong are UTF-8
unfoldable pub texts_checked : PoDraft → PoDraft
texts_checked draft = if draft.message.is_faulty then draft else told_other (other_line draft.message) draft

-- a message in which nothing is wrong has a form
unfoldable pub form_checked : PoDraft → PoDraft
form_checked draft = if has_no_form draft.message && not draft.message.is_faulty then told draft.message.line NoForm draft else draft

-- the message is one of the catalog's, and another one is read
unfoldable pub message_kept : PoDraft → PoDraft
message_kept draft = record draft { messages = draft.messages ++ draft.message ∷ []; message = empty_message; is_begun = false; is_whole = false }

-- a message that was begun ends
unfoldable pub message_ended : PoDraft → PoDraft
message_ended draft = if draft.is_begun then message_kept (form_checked (texts_checked draft)) else draft

-- the text and the message end
unfoldable pub all_ended : PoDraft → PoDraft
all_ended draft = message_ended (text_ended draft)

-- ---- keywords

abbrev pub differ : Bool → Bool → Bool
differ true b = not b
differ false b = b

-- the message before a keyword that isn't of it ends
unfoldable pub ended_before : Bool → Keyword → PoDraft → PoDraft
ended_before is_obsolete keyword draft =
    if ends_before keyword draft.message || differ draft.message.is_obsolete is_obsolete then message_ended draft else draft

-- a message begins at its first keyword
unfoldable pub message_begun : ℕ → Bool → PoDraft → PoDraft
message_begun line is_obsolete draft =
    if draft.is_begun then draft
    else record draft { message = record draft.message { line = line; is_obsolete = is_obsolete }; is_begun = true }

-- `domain` is no keyword of a message
abbrev pub keyword_of_message : ℕ → Bool → Keyword → PoDraft → PoDraft
keyword_of_message line is_obsolete Domain draft = draft
keyword_of_message line is_obsolete Context draft = message_begun line is_obsolete draft
keyword_of_message line is_obsolete Id draft = message_begun line is_obsolete draft
keyword_of_message line is_obsolete PluralId draft = message_begun line is_obsolete draft
keyword_of_message line is_obsolete (Form index) draft = record (message_begun line is_obsolete draft) { is_whole = true }

-- the keyword's text is read; or it doesn't fit, which is told if nothing else is
abbrev pub field_begun : Result Place Cause → ℕ → PoDraft → PoDraft × Option Cause
field_begun (Ok goes) line draft = (with_field (field_at goes line) draft, None)
field_begun (Err cause) line draft = (with_field passed_over draft, if draft.message.is_faulty then None else Some cause)

unfoldable pub placed : ℕ → Keyword → PoDraft → PoDraft × Option Cause
placed line keyword draft = field_begun (place_of_keyword keyword draft.message) line draft

-- behind a keyword of this line, and why it doesn't fit
unfoldable pub keyword_read : ℕ → Bool → Keyword → PoDraft → PoDraft × Option Cause
keyword_read line is_obsolete keyword draft =
    placed line keyword (keyword_of_message line is_obsolete keyword (ended_before is_obsolete keyword (text_ended draft)))

-- ---- lines

unfoldable pub ended_if_whole : PoDraft → PoDraft
ended_if_whole draft = if draft.is_whole && draft.is_apart then message_ended draft else draft

-- behind what is nothing known: it is passed over, and ends a message whose `msgstr` was read if it
-- stands behind an empty line
unfoldable pub unknown_read : PoDraft → PoDraft
unknown_read draft = with_field passed_over (ended_if_whole (text_ended draft))

-- a message ends before a comment if its `msgstr` was read, or behind an empty line
unfoldable pub ended_at_comment : PoDraft → PoDraft
ended_at_comment draft = if draft.is_whole || draft.is_apart then all_ended draft else draft

unfoldable pub flags_read : List ℕ → PoDraft → PoDraft
flags_read comment draft = record draft { message = with_flags comment draft.message }

-- bytes that are no UTF-8 are told
unfoldable pub comment_checked : ℕ → List ℕ → PoDraft → PoDraft
comment_checked line comment draft = if is_utf8 comment then draft else noted line NotUtf8 draft

-- behind keywords and texts: at most one fault of the line is told
abbrev pub line_checked : ℕ → List ℕ → Option Cause → PoDraft → PoDraft
line_checked line fields (Some cause) draft = told line cause draft
line_checked line fields None draft = if is_utf8 fields then draft else told line NotUtf8 draft

-- behind an empty line: what is wrong outside a message is over
unfoldable pub behind_empty : PoDraft → PoDraft
behind_empty draft = record draft { message = record draft.message { is_faulty = draft.message.is_faulty && draft.is_begun }; is_apart = true }

unfoldable pub behind_line : PoDraft → PoDraft
behind_line draft = record draft { is_apart = false }
