-- A log of SARIF 2.1.0 with one run: a tool with rules, and results.
--     log_text tool rules results      the log on one line
use Rattle.std.specs.Prelude.{ℕ, List, Option, Some, None, codes}
use Rattle.serde_json.specs.Data.{Data, number, unsigned, string, array, object, no_items, item, no_members, member}
use Rattle.serde_json.specs.View.{items_of}
use Rattle.serde_json.specs.Written.{compact_text}
use Rattle.plural_documents.specs.PrintedKeys.{ended_line}
use Rattle.finding_formats.specs.FileReferences.{file_reference}

-- an object with one member, and a list of one
abbrev pub one_member : List ℕ → Data → Data
one_member key value = object (member key value no_members)

abbrev pub one_item : Data → Data
one_item value = array (item value no_items)

-- a message: `{"text":".."}`
abbrev pub message_data : List ℕ → Data
message_data text = one_member (codes "text") (string text)

-- ---- Rules

-- a rule: a code, and what it means
abbrev pub rule_data : List ℕ → List ℕ → Data
rule_data code meaning =
    object (member (codes "id") (string code) (member (codes "shortDescription") (message_data meaning) no_members))

-- a tool by its name, with its rules
abbrev pub tool_data : List ℕ → List Data → Data
tool_data tool rules =
    one_member (codes "driver") (object (member (codes "name") (string tool) (member (codes "rules") (array (items_of rules)) no_members)))

-- ---- Results

-- a line: `{"startLine":12}`
abbrev pub region_data : ℕ → Data
region_data line = one_member (codes "startLine") (number (unsigned line))

-- a file, with a line if it is known
abbrev pub physical_data : Option ℕ → List ℕ → Data
physical_data None file = one_member (codes "artifactLocation") (one_member (codes "uri") (string (file_reference file)))
physical_data (Some line) file =
    object (member (codes "artifactLocation") (one_member (codes "uri") (string (file_reference file)))
    (member (codes "region") (region_data line) no_members))

-- the file, and the place in it by its name
abbrev pub location_data : List ℕ → Option ℕ → List ℕ → Data
location_data file line name =
    object (member (codes "logicalLocations") (one_item (one_member (codes "fullyQualifiedName") (string name)))
    (member (codes "physicalLocation") (physical_data line file) no_members))

-- a result: its level, its location, what is printed of it, and its rule by its code and its place in the list
abbrev pub result_data : List ℕ → Data → List ℕ → List ℕ → ℕ → Data
result_data level location text code place =
    object (member (codes "level") (string level) (member (codes "locations") (one_item location)
    (member (codes "message") (message_data text) (member (codes "ruleId") (string code)
    (member (codes "ruleIndex") (number (unsigned place)) no_members)))))

-- ---- The log

abbrev pub run_data : List ℕ → List Data → List Data → Data
run_data tool rules results =
    object (member (codes "results") (array (items_of results)) (member (codes "tool") (tool_data tool rules) no_members))

abbrev pub log_data : List ℕ → List Data → List Data → Data
log_data tool rules results =
    object (member (codes "$schema") (string (codes "https://json.schemastore.org/sarif-2.1.0.json"))
    (member (codes "runs") (one_item (run_data tool rules results)) (member (codes "version") (string (codes "2.1.0")) no_members)))

abbrev pub log_text : List ℕ → List Data → List Data → List ℕ
log_text tool rules results = ended_line (compact_text (log_data tool rules results))
