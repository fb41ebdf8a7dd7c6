-- What is told of files as lines of JSON: an object for each, which has all of it, and one with the
-- totals.
use Rattle.std.specs.Prelude.{ℕ, List, ◌++◌, codes, map, Option, Some, None}
use Rattle.std.specs.List.{flat_map}
use Rattle.serde_json.specs.Data.{Data, number, unsigned, string, object, Members, no_members, member}
use Rattle.finding_formats.specs.FindingCodes.{severity_word}
use Rattle.finding_formats.specs.FindingObjects.{finding_members, with_number_under, with_text_under}
use Rattle.finding_formats.specs.JsonLines.{json_line}
use Rattle.finding_formats.specs.LocatedFindings.{Located, Notice, Told, told_finding, told_notice, located_words}
use Rattle.finding_formats.specs.declared.totals.Totals.{Totals}

-- a notice has a code and no place
abbrev pub notice_members : Notice → List ℕ → Members
notice_members n words =
    member (codes "cause") (object (member (codes "code") (string n.code) no_members)) (member (codes "file") (string n.file)
    (member (codes "severity") (string (severity_word n.severity)) (member (codes "text") (string words) no_members)))

abbrev pub told_members : Told → List ℕ → Members
told_members (told_finding f) words = finding_members f words
told_members (told_notice n) words = notice_members n words

-- the line, and what says the number, where they are known
abbrev pub with_line : Option ℕ → Members → Members
with_line None members = members
with_line (Some line) members = with_number_under (codes "line") line members

abbrev pub with_placeholder : Option (List ℕ) → Members → Members
with_placeholder None members = members
with_placeholder (Some placeholder) members = with_text_under (codes "placeholder") placeholder members

-- `{"cause":{..},"file":"ru.po","line":12,"place":{..},"placeholder":"%d","severity":"fault","text":".."}`
abbrev pub located_data : Located → Data
located_data l = object (with_placeholder l.placeholder (with_line l.line (told_members l.told (located_words l))))

-- `{"counts":{"faults":3,"forms":40,"left_out":2,"messages":12,"notes":1}}`
abbrev pub totals_data : Totals → Data
totals_data t =
    object (member (codes "counts") (object (member (codes "faults") (number (unsigned t.faults))
    (member (codes "forms") (number (unsigned t.forms)) (member (codes "left_out") (number (unsigned t.left_out))
    (member (codes "messages") (number (unsigned t.messages)) (member (codes "notes") (number (unsigned t.notes)) no_members))))))
    no_members)

-- the line of the totals is the last one
abbrev pub located_lines : List Located → Totals → List ℕ
located_lines ls totals = flat_map json_line (map located_data ls) ++ json_line (totals_data totals)
