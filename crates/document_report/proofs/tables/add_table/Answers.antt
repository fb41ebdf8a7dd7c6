use Rattle.std.proofs.Common.{ap, refl, subst}
use Rattle.std.specs.Borrow.{Bor}
use Rattle.std.specs.Prelude.{option_map}
use Rattle.serde_json.specs.Data.{Members}
use Rattle.serde_json.specs.View.{view}
use Rattle.serde_json.specs.declared.Value.{Value}
use Rattle.document_report.specs.CheckedDocument.{members_or_none}
use Rattle.document_report.specs.DocumentPlaces.{locale_place_view}
use Rattle.document_report.specs.DocumentReport.{found_of_key, found_of_rules, texts_at, IsFoundInEntry}
use Rattle.document_report.specs.FoundInDocuments.{together, IsFoundInDocumentMembers}
use Rattle.document_report.proofs.FoundParts.{on_ok, three_more}
use Rattle.document_report.proofs.tables.add_table.Goals as goal

pub returns : goal.returns
returns c =
    let place = locale_place_view c.args.place in
    let rules = option_map (λ (v : Bor Value). view v.now) c.args.rules in
    on_ok c.add_entries.result
    (λ added. (
      together (found_of_key place) (together (found_of_rules place rules) added.0),
      (
        added.0,
        subst (λ (m : Members). IsFoundInDocumentMembers (IsFoundInEntry (texts_at rules) place) m added.0) (ap members_or_none c.table_in.ensures)
            added.1,
        refl,
      ),
      three_more c.args.found.now (found_of_key place) (found_of_rules place rules) added.0
          c.add_key.new.found c.add_rules.new.found c.add_entries.new.found
          c.in_ok-add_key.ensures c.in_ok-add_rules.ensures added.2,
    ))
    c.add_entries.ensures
