-- Which JSON values are documents of messages, and no files of texts (docs/TRANSLATORS.md).
--     is_document value      it is one
use Rattle.std.specs.Prelude.{ℕ, ◌==◌, Bool, true, false, not, ◌&&◌, ◌||◌, if◌then◌else◌, bytes_eq, List, length, Option, Some, None, is_some, codes}
use Rattle.std.specs.Char.{is_ascii_alphabetic}
use Rattle.std.specs.List.{before_first, list_all, list_any}
use Rattle.serde_json.specs.Data.{Data, Members, no_members, member}
use Rattle.serde_json.specs.Find.{as_object, as_str, get}
use Rattle.icu_plurals.specs.Categories.{all_categories, name_of}

-- ---- Members of an object

-- the test holds of one of them
abbrev pub some_member : (List ℕ → Data → Bool) → Members → Bool
some_member test no_members = false
some_member test (member key value others) = test key value || some_member test others

abbrev pub has_no_member : Members → Bool
has_no_member no_members = true
has_no_member (member key value others) = false

-- an object, whose members pass the test
abbrev pub members_pass : (Members → Bool) → Option Members → Bool
members_pass test None = false
members_pass test (Some members) = test members

abbrev pub is_object_of : (Members → Bool) → Data → Bool
is_object_of test value = members_pass test (as_object value)

abbrev pub is_text : Data → Bool
is_text value = is_some (as_str value)

abbrev pub has_text : Members → Bool
has_text members = some_member (λ key value. is_text value) members

abbrev pub has_key : List ℕ → Data → Bool
has_key key value = is_some (get key value)

-- ---- Keys

-- `-` and `_`
abbrev pub is_between_subtags : ℕ → Bool
is_between_subtags byte = byte == 45 || byte == 95

abbrev pub is_language_length : ℕ → Bool
is_language_length count = count == 2 || count == 3

-- two or three letters
abbrev pub is_language : List ℕ → Bool
is_language name = is_language_length (length name) && list_all is_ascii_alphabetic name

-- `root`, or a language, alone or before further subtags
abbrev pub is_named_as_locale : List ℕ → Bool
is_named_as_locale key = bytes_eq key (codes "root") || is_language (before_first is_between_subtags key)

abbrev pub is_name_of_type : List ℕ → Bool
is_name_of_type key = bytes_eq key (codes "cardinal") || bytes_eq key (codes "ordinal")

abbrev pub is_name_of_part : List ℕ → Bool
is_name_of_part key = is_name_of_type key || bytes_eq key (codes "source") || bytes_eq key (codes "patterns")

-- the key of a locale, or of a part whose locale is forgotten
abbrev pub is_named_key : List ℕ → Bool
is_named_key key = is_named_as_locale key || is_name_of_part key

abbrev pub is_category_name : List ℕ → Bool
is_category_name name = list_any (λ category. bytes_eq name (name_of category)) all_categories

-- ---- Locales

-- messages of a type; where the locale's key isn't named as one, they have no texts
abbrev pub is_message_part : Bool → List ℕ → Data → Bool
is_message_part named key part = is_name_of_type key && is_object_of (λ messages. named || not (has_text messages)) part

abbrev pub has_part : List ℕ → Data → Bool
has_part key locale = is_object_of (some_member (is_message_part (is_named_key key))) locale

-- the text of a category
abbrev pub is_form : List ℕ → Data → Bool
is_form name form = is_text form && is_category_name name

abbrev pub has_forms : Data → Bool
has_forms message = is_object_of (some_member is_form) message

abbrev pub have_forms : Members → Bool
have_forms messages = some_member (λ key message. has_forms message) messages

abbrev pub are_messages : Members → Bool
are_messages messages = has_no_member messages || have_forms messages

-- no part, and none that is misspelt
abbrev pub is_other_member : List ℕ → Data → Bool
is_other_member key part = is_text part || not (is_name_of_part key) && not (is_object_of are_messages part)

abbrev pub are_parts : Members → Bool
are_parts parts = not (has_no_member parts) && not (some_member is_other_member parts)

abbrev pub has_parts : List ℕ → Data → Bool
has_parts key locale = is_named_key key && is_object_of are_parts locale

-- ---- Documents

-- a locale has messages, or each one that may be a locale has parts alone, and there is no text
abbrev pub are_locales : Members → Bool
are_locales members = some_member has_part members || (has_no_member members || some_member has_parts members) && not (has_text members)

-- a file of ARB, or what a tool tells of a file
abbrev pub says_file : Data → Bool
says_file value = has_key (codes "@@locale") value || has_key (codes "@@file") value

-- no value but an object is a file of texts
abbrev pub is_document_of : Bool → Option Members → Bool
is_document_of says_file None = true
is_document_of says_file (Some members) = not says_file && are_locales members

abbrev pub is_document : Data → Bool
is_document value = is_document_of (says_file value) (as_object value)
