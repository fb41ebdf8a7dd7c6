-- A document's finding as a JSON object, which has its place, its code and what is printed of it.
--     document_finding_data finding      the object
--     finding_data_in file finding      that of a finding in a file of this name
--     document_counts_data counts      the object of the counts
--     counts_data_in file counts      that of the counts of a file
use Rattle.std.specs.Prelude.{ℕ, List, codes}
use Rattle.serde_json.specs.Data.{Data, number, unsigned, string, object, Members, no_members, member}
use Rattle.icu_plurals.specs.Categories.{name_of}
use Rattle.plural_fallback.specs.LocalesJson.{part_name}
use Rattle.document_report.specs.DocumentFindings.{document_cause_text, Finding, finding_line}
use Rattle.document_report.specs.DocumentPlaces.{FindingPlace, LocalePlace, at_document, at_key, at_locale, at_parent, at_parents, at_part, at_text}
use Rattle.document_report.specs.declared.cause.Cause.{Cause}
use Rattle.document_report.specs.declared.counts.Counts.{Counts}
use Rattle.document_formats.specs.DocumentCodes.{document_code_name, document_code_of}

-- the document, standard input
abbrev pub input_name : List ℕ
input_name = codes "-"

-- ---- A place

-- a member that is a text, before others
abbrev pub with_text_member : List ℕ → List ℕ → Members → Members
with_text_member key text members = member key (string text) members

-- the members of a locale
abbrev pub locale_members : LocalePlace → Members
locale_members l = with_text_member (codes "locale") l.locale (with_text_member (codes "part") (part_name l.part) no_members)

-- what is there, and by which names; the keys are in the order of their bytes
abbrev pub place_members : FindingPlace → Members
place_members at_document = with_text_member (codes "kind") (codes "document") no_members
place_members (at_part key) = with_text_member (codes "key") key (with_text_member (codes "kind") (codes "part") no_members)
place_members at_parents = with_text_member (codes "kind") (codes "parents") no_members
place_members (at_parent locale) = with_text_member (codes "kind") (codes "parent") (with_text_member (codes "locale") locale no_members)
place_members (at_locale l) = with_text_member (codes "kind") (codes "locale") (locale_members l)
place_members (at_text l category) =
    with_text_member (codes "category") (name_of category) (with_text_member (codes "kind") (codes "text") (locale_members l))
place_members (at_key l key) = with_text_member (codes "key") key (with_text_member (codes "kind") (codes "key") (locale_members l))

-- `{"category":"few","kind":"text","locale":"ru","part":"cardinal"}`
abbrev pub document_place_data : FindingPlace → Data
document_place_data place = object (place_members place)

-- ---- A cause

-- `{"code":"wrong-sample","text":"sample 1.5 is other"}`
abbrev pub document_cause_data : Cause → Data
document_cause_data cause =
    object (with_text_member (codes "code") (document_code_name (document_code_of cause)) (with_text_member (codes "text") (document_cause_text cause) no_members))

-- ---- A finding

-- `{"cause":{..},"file":"cldr.json","place":{..},"severity":"fault","text":"cardinal ru few: .."}`
abbrev pub finding_data_in : List ℕ → Finding → Data
finding_data_in file f =
    object (member (codes "cause") (document_cause_data f.cause) (with_text_member (codes "file") file
    (member (codes "place") (document_place_data f.place) (with_text_member (codes "severity") (codes "fault")
    (with_text_member (codes "text") (finding_line f) no_members)))))

-- `{"cause":{..},"file":"-","place":{..},"severity":"fault","text":"cardinal ru few: .."}`
abbrev pub document_finding_data : Finding → Data
document_finding_data = finding_data_in input_name

-- ---- Counts

-- `{"faults":1,"locales":1,"numbers":17,"rules":2}`
abbrev pub numbers_data : Counts → Data
numbers_data counts =
    object (member (codes "faults") (number (unsigned counts.faults)) (member (codes "locales") (number (unsigned counts.locales))
    (member (codes "numbers") (number (unsigned counts.numbers)) (member (codes "rules") (number (unsigned counts.rules)) no_members))))

-- `{"counts":{"faults":1,"locales":1,"numbers":17,"rules":2}}`
abbrev pub document_counts_data : Counts → Data
document_counts_data counts = object (member (codes "counts") (numbers_data counts) no_members)

-- `{"counts":{..},"file":"cldr.json"}`
abbrev pub counts_data_in : List ℕ → Counts → Data
counts_data_in file counts = object (member (codes "counts") (numbers_data counts) (with_text_member (codes "file") file no_members))
