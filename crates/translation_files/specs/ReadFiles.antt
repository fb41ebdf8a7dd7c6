-- What is returned of a translators' file.
--     IsUnread line code text file      nothing of it is read, and an error tells why
--     ReadsJsonFile bytes file      what a JSON file gives
--     ReadsPo bytes file      what a gettext catalog gives
--     IsReadAs kind bytes file      what a file gives, which is of this kind
--     file_kind bytes      the kind of a file, by its bytes
use Rattle.std.specs.Prelude.{◌≡◌, ℕ, ◌==◌, Bool, false, true, not, ◌||◌, if◌then◌else◌, nat_eq, List, [], ◌∷◌, All, Option, Some, None, is_some, option_and_then, codes, string_bytes}
use Rattle.std.specs.Char.{is_ascii_whitespace}
use Rattle.std.specs.List.{find, starts_with}
use Rattle.std.specs.Option.{option_map_or}
use Rattle.std.specs.Str.{is_utf8}
use Rattle.message_report.specs.declared.severity.Severity.TheVariants.{Error}
use Rattle.plural_documents.specs.Inputs.{json_of}
use Rattle.po_catalog.specs.ReadCatalogs.{IsCatalog, PoCatalog, behind_mark}
use Rattle.serde_json.specs.Data.{Data, no_members, object}
use Rattle.serde_json.specs.Find.{as_array, get}
use Rattle.serde_json.specs.View.{view}
use Rattle.translation_files.specs.FilePlaces.{HasNoPlaces}
use Rattle.translation_files.specs.MessageDocuments.{is_document}
use Rattle.translation_files.specs.NoticeSeverities.{IsGraded}
use Rattle.translation_files.specs.declared.code.NoticeCode.{NoticeCode}
use Rattle.translation_files.specs.declared.code.NoticeCode.TheVariants.{Charset, NotRead, Syntax}
use Rattle.translation_files.specs.declared.file_messages.FileMessages.{FileMessages}
use Rattle.translation_files.specs.declared.notice.FileNotice.{FileNotice}
use Rattle.translation_files.specs.declared.po.TheConstants.{NO_CATALOG}
use Rattle.translation_files.specs.declared.read_file.FileKind.{FileKind}
use Rattle.translation_files.specs.declared.read_file.FileKind.TheVariants.{Json, Po, Xml, Wide}
use Rattle.translation_files.specs.declared.read_file.TheConstants.{XML, WIDE}

-- ---- Nothing is read

-- an error of a line and a code
abbrev pub IsError : Option ℕ → NoticeCode → List ℕ → FileNotice → Type 0
IsError line code text told =
    (told.line ≡ line) × (told.severity ≡ Error) × (told.code ≡ code) × (string_bytes told.text ≡ text)

pub record IsUnread (line : Option ℕ) (code : NoticeCode) (text : List ℕ) (file : FileMessages) : Type 0 where
  pub unnamed : file.name ≡ None
  pub empty : view file.document ≡ object no_members
  pub no_places : HasNoPlaces file.places
  pub no_count : file.counts.read ≡ 0
  pub told : FileNotice
  pub is_error : IsError line code text told
  pub told_alone : file.notices.items ≡ told ∷ []

-- ---- JSON

-- the document is a value, of which nothing is told
pub record IsDocumentOf (value : Data) (file : FileMessages) : Type 0 where
  pub same : view file.document ≡ value
  pub unnamed : file.name ≡ None
  pub nothing_told : file.notices.items ≡ []

-- no JSON: where is told
abbrev pub fault_code : List ℕ → NoticeCode
fault_code bytes = if is_utf8 bytes then Syntax else Charset

-- the error has a line
abbrev pub IsUnreadAt : NoticeCode → FileMessages → Type 0
IsUnreadAt code file = (line : ℕ) × (text : List ℕ) × IsUnread (Some line) code text file

abbrev pub IsBroken : List ℕ → FileMessages → Type 0
IsBroken bytes file = IsUnreadAt (fault_code bytes) file

-- what a tool tells of a file may have notices, of which the tool says how grave they are
abbrev pub tells_notices : Data → Bool
tells_notices value = is_some (option_and_then as_array (get (codes "notices") value))

pub record IsReadOf (value : Data) (file : FileMessages) : Type 0 where
  pub document : is_document value ≡ true → IsDocumentOf value file
  pub graded : tells_notices value ≡ false → All IsGraded file.notices.items

abbrev pub IsReadAsJson : List ℕ → Option Data → FileMessages → Type 0
IsReadAsJson bytes None file = IsBroken bytes file
IsReadAsJson bytes (Some value) file = IsReadOf value file

abbrev pub ReadsJsonFile : List ℕ → FileMessages → Type 0
ReadsJsonFile bytes file = IsReadAsJson (behind_mark bytes) (json_of (behind_mark bytes)) file

-- ---- gettext

pub record ReadsPo (bytes : List ℕ) (file : FileMessages) : Type 0 where
  pub graded : All IsGraded file.notices.items
  -- it has no messages: it is no catalog
  pub nothing : (catalog : PoCatalog) → IsCatalog bytes catalog → catalog.messages ≡ [] → IsUnread None NotRead NO_CATALOG.now file

-- ---- Files of any kind

abbrev pub IsReadAs : FileKind → List ℕ → FileMessages → Type 0
IsReadAs Json bytes file = ReadsJsonFile bytes file
IsReadAs Po bytes file = ReadsPo bytes file
IsReadAs Xml bytes file = IsUnread None NotRead XML.now file
IsReadAs Wide bytes file = IsUnread None NotRead WIDE.now file

-- `{` and `<`
abbrev pub kind_by : ℕ → FileKind
kind_by byte = if byte == 123 then Json else if byte == 60 then Xml else Po

-- by the first byte that isn't white space
abbrev pub text_kind : List ℕ → FileKind
text_kind text = option_map_or kind_by (find (λ byte. not (is_ascii_whitespace byte)) text) Po

-- UTF-16 begins with its mark
abbrev pub is_wide : List ℕ → Bool
is_wide bytes = starts_with nat_eq bytes (255 ∷ 254 ∷ []) || starts_with nat_eq bytes (254 ∷ 255 ∷ [])

abbrev pub file_kind : List ℕ → FileKind
file_kind bytes = if is_wide bytes then Wide else text_kind (behind_mark bytes)
