-- What is told of files as a log of SARIF 2.1.0: one run, whose results are the list in its order.
use Rattle.std.specs.Prelude.{ℕ, List, codes, map, Option}
use Rattle.serde_json.specs.Data.{Data, string, object, no_members, member}
use Rattle.finding_formats.specs.FindingCodes.{level_name}
use Rattle.finding_formats.specs.LocatedFindings.{Located, Notice, Told, told_finding, told_notice, located_words}
use Rattle.finding_formats.specs.Logs.{message_data, one_item, one_member, physical_data}
use Rattle.finding_formats.specs.SarifLog.{finding_result, forms_log}

-- a notice has no place by name, and its code is none of the rules
abbrev pub notice_result : Option ℕ → Notice → List ℕ → Data
notice_result line n words =
    object (member (codes "level") (string (level_name n.severity))
    (member (codes "locations") (one_item (one_member (codes "physicalLocation") (physical_data line n.file)))
    (member (codes "message") (message_data words) (member (codes "ruleId") (string n.code) no_members))))

abbrev pub told_result : Option ℕ → Told → List ℕ → Data
told_result line (told_finding f) words = finding_result line f words
told_result line (told_notice n) words = notice_result line n words

abbrev pub located_result : Located → Data
located_result l = told_result l.line l.told (located_words l)

abbrev pub located_log : List Located → List ℕ
located_log ls = forms_log (map located_result ls)
