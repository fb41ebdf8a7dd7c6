-- What is returned of a file.
use Rattle.std.proofs.Common.{◌≡◌, ℕ, Bool, true, false, not, List, [], ◌∷◌, ◌++◌, length, map, drop, slice_get, Option, Some, None, Result, Ok, Err, IfOk, IsUtf8, String, Global, BTreeMap, refl, sym, ap, subst, ◌∙◌, ⊎_elim, one-add, true≢false}
use Rattle.std.specs.Prelude.{All}
use Rattle.std.specs.Char.{is_ascii_whitespace}
use Rattle.std.specs.List.{find, prefix_len}
use Rattle.std.specs.Str.{is_utf8}
use Rattle.std.specs.declared.alloc.AllocError.{AllocError}
use Rattle.std.proofs.lemmas.Bool.{cases_Bool}
use Rattle.std.proofs.lemmas.List.Elements.{All-cons, All-nil, All-same}
use Rattle.std.proofs.lemmas.Str.{IsUtf8-from_is_utf8, is_utf8-from_IsUtf8}
use Rattle.message_report.specs.declared.severity.Severity.{Severity}
use Rattle.po_catalog.specs.Catalogs.{message_view, messages_view}
use Rattle.po_catalog.specs.ReadCatalogs.{IsCatalog, PoCatalog, catalog_view}
use Rattle.po_catalog.specs.declared.catalog.Catalog.{Catalog}
use Rattle.po_catalog.specs.declared.entry.Entry.{Entry}
use Rattle.serde_json.proofs.Views.{view-Object}
use Rattle.serde_json.specs.Data.{Data, no_members, object}
use Rattle.serde_json.specs.View.{members_view, view}
use Rattle.serde_json.specs.declared.Value.{Value}
use Rattle.serde_json.specs.declared.value.Value.{Object}
use Rattle.translation_files.specs.MessageDocuments.{is_document}
use Rattle.translation_files.specs.NoticeSeverities.{IsErrorCode, IsGraded, severity_of_code}
use Rattle.translation_files.specs.ReadFiles.{IsDocumentOf, IsReadOf, IsUnread, ReadsPo, fault_code, tells_notices}
use Rattle.translation_files.specs.declared.code.NoticeCode.{NoticeCode}
use Rattle.translation_files.specs.declared.code.NoticeCode.TheVariants.{Charset, NotRead, Syntax}
use Rattle.translation_files.specs.declared.file_messages.FileMessages.{FileMessages}
use Rattle.translation_files.specs.declared.notice.FileNotice.{FileNotice}
use Rattle.translation_files.specs.declared.po.TheConstants.{NO_CATALOG}

-- ---- The kind of a file, and of a fault

-- the first byte that is no white space stands behind it
pub first_byte : (text : List ℕ)
    → slice_get (drop (prefix_len is_ascii_whitespace text) text) 0 ≡ find (λ byte. not (is_ascii_whitespace byte)) text
first_byte [] = refl
first_byte (byte ∷ text) = by (is_ascii_whitespace byte) refl (first_byte text)
  where
    by : (white : Bool) → is_ascii_whitespace byte ≡ white
        → slice_get (drop (prefix_len is_ascii_whitespace text) text) 0 ≡ find (λ b. not (is_ascii_whitespace b)) text
        → slice_get (drop (prefix_len is_ascii_whitespace (byte ∷ text)) (byte ∷ text)) 0
        ≡ find (λ b. not (is_ascii_whitespace b)) (byte ∷ text)
    by true is after = rw (is, one-add) after
    by false is after = rw is refl

pub code_of_text : (bytes : List ℕ) → IsUtf8 bytes → fault_code bytes ≡ Syntax
code_of_text bytes is = rw (is_utf8-from_IsUtf8 bytes is) refl

pub code_of_bytes : (bytes : List ℕ) → (IsUtf8 bytes → ⊥) → fault_code bytes ≡ Charset
code_of_bytes bytes other =
    ⊎_elim (λ is. absurd (other (IsUtf8-from_is_utf8 bytes is))) (λ is. rw is refl) (cases_Bool (is_utf8 bytes))

-- ---- What is told

-- nothing was put into an object
pub nothing_put : (members : BTreeMap (String Global) Value) → members.entries ≡ [] → view (Object members) ≡ object no_members
nothing_put members none = view-Object members ∙ ap (λ (es : List (String Global × Value)). object (members_view es)) none

pub none_graded : (items : List FileNotice) → items ≡ [] → All IsGraded items
none_graded items none = All-same IsGraded items [] none (All-nil IsGraded)

-- the error of a file that isn't read is as grave as its code
pub unread_graded : (line : Option ℕ) (code : NoticeCode) (text : List ℕ) (file : FileMessages)
    → IsErrorCode code → IsUnread line code text file → All IsGraded file.notices.items
unread_graded line code text file error unread =
    All-same IsGraded file.notices.items (unread.told ∷ []) unread.told_alone
    (All-cons IsGraded unread.told [] (unread.is_error.1 ∙ sym (ap severity_of_code unread.is_error.2 ∙ error)) (All-nil IsGraded))

-- ---- JSON

pub document_read : (value : Data) (r : Result FileMessages AllocError) → IfOk r (IsDocumentOf value) → IfOk r (IsReadOf value)
document_read value (Ok file) is = record { document = λ _. is; graded = λ _. none_graded file.notices.items is.nothing_told }
document_read value (Err e) is = tt

pub texts_read : (value : Data) (r : Result FileMessages AllocError) → is_document value ≡ false
    → IfOk r (λ file. tells_notices value ≡ false → All IsGraded file.notices.items) → IfOk r (IsReadOf value)
texts_read value (Ok file) other graded = record { document = λ is. absurd (true≢false (sym is ∙ other)); graded = graded }
texts_read value (Err e) other graded = tt

-- ---- Catalogs

none_mapped : (entries : List Entry) → map message_view entries ≡ [] → length entries ≡ 0
none_mapped [] e = refl
none_mapped (entry ∷ entries) e = absurd (cc)

pub no_entries : (catalog : Catalog) → messages_view catalog ≡ [] → length catalog.entries.items ≡ 0
no_entries catalog none = none_mapped catalog.entries.items none

pub catalog_read : (bytes : List ℕ) (catalog : Catalog) (r : Result FileMessages AllocError)
    → ((other : PoCatalog) → IsCatalog bytes other → catalog_view catalog ≡ other) → IfOk r (λ file. All IsGraded file.notices.items)
    → (messages_view catalog ≡ [] → IfOk r (IsUnread None NotRead NO_CATALOG.now)) → IfOk r (ReadsPo bytes)
catalog_read bytes catalog (Ok file) one graded nothing = record {
  graded = graded;
  nothing = λ other is empty. nothing (ap (λ (c : PoCatalog). c.messages) (one other is) ∙ empty);
}
catalog_read bytes catalog (Err e) one graded nothing = tt
