-- The value whose tokens are held.
use Rattle.std.proofs.Common.{◌≡◌, ℕ, List, Bool, true, false, Option, Some, None, refl, sym, ap, ◌∙◌}
use Rattle.std.specs.Prelude.{option_and_then, option_map, if◌then◌else◌}
use Rattle.json.specs.Json as json
use Rattle.document_tokens.specs.TextTokens.{is_held_name, is_among_names, json_part, members_part}
use Rattle.plural_documents.specs.Outlines.{named, outline, outline_members, part_by_names}
use Rattle.plural_documents.specs.declared.outline.Portion.TheVariants as kept
use Rattle.plural_documents.proofs.OutlinedLemmas.{held_map, some_is}
use Rattle.plural_documents.proofs.OutlineLemmas.{AreSorted, outline_put, sorted_put}
use Rattle.plural_documents.proofs.WalkLemmas.{held_then}
use Rattle.serde_json.specs.Data.{Data, null, boolean, number, string, array, object, Members, no_members, put}
use Rattle.serde_json.specs.Read.{number_of, of_items, of_json, of_members}

module _ (names : List (List ℕ)) where
  abbrev part : json.Members → json.Members
  part = members_part (is_among_names names)

  abbrev kept_of : Members → Members
  kept_of = outline_members named names

  -- the members that are left out make no difference to the others
  members_read : (ms : json.Members) (found whole : Members) → AreSorted found → of_members ms found ≡ Some whole
      → of_members (part ms) (kept_of found) ≡ Some (kept_of whole)
  members_read json.no_members found whole sorted read = ap (option_map kept_of) read
  members_read (json.member k j ms) found whole sorted read =
      let first = held_then (of_json j) (λ d. of_members ms (put k d found)) whole read in
      by (is_among_names names k) refl first.0 first.1 (members_read ms (put k first.0 found) whole (sorted_put k first.0 found sorted) first.2)
    where
      by : (b : Bool) → is_among_names names k ≡ b → (d : Data) → of_json j ≡ Some d
          → of_members (part ms) (kept_of (put k d found)) ≡ Some (kept_of whole)
          → of_members (if b then json.member k j (part ms) else part ms) (kept_of found) ≡ Some (kept_of whole)
      by true is d first further =
          ap (option_and_then (λ e. of_members (part ms) (put k e (kept_of found)))) first
          ∙ ap (of_members (part ms)) (sym (outline_put (List (List ℕ)) named names k d found sorted ∙ rw is refl)) ∙ further
      by false is d first further =
          ap (of_members (part ms)) (sym (outline_put (List (List ℕ)) named names k d found sorted ∙ rw is refl)) ∙ further

  value_read : (j : json.Json) (whole : Data) → of_json j ≡ Some whole
      → (held : Data) × (of_json (json_part (is_among_names names) j) ≡ Some held) × (outline named (kept.Members names) whole ≡ Some held)
  value_read json.null whole read = (whole, read, rw (← some_is null whole read) refl)
  value_read (json.boolean b) whole read = (whole, read, rw (← some_is (boolean b) whole read) refl)
  value_read (json.string s) whole read = (whole, read, rw (← some_is (string s) whole read) refl)
  value_read (json.number s) whole read = (whole, read, rw ((held_map number (number_of s) whole read).2) refl)
  value_read (json.array js) whole read = (whole, read, rw ((held_map array (of_items js) whole read).2) refl)
  value_read (json.object ms) whole read =
      let found = held_map object (of_members ms no_members) whole read in (
        object (kept_of found.0),
        ap (option_map object) (members_read ms no_members found.0 tt found.1),
        ap (outline named (kept.Members names)) found.2,
      )

-- without names all is held
all_members : (ms : json.Members) → members_part (is_held_name None) ms ≡ ms
all_members json.no_members = refl
all_members (json.member k j ms) = ap (json.member k j) (all_members ms)

pub all_of : (j : json.Json) → json_part (is_held_name None) j ≡ j
all_of json.null = refl
all_of (json.boolean b) = refl
all_of (json.number s) = refl
all_of (json.string s) = refl
all_of (json.array js) = refl
all_of (json.object ms) = ap json.object (all_members ms)

-- the value of what is held
pub part_read : (names : Option (List (List ℕ))) (j : json.Json) (whole : Data) → of_json j ≡ Some whole
    → (held : Data) × (of_json (json_part (is_held_name names) j) ≡ Some held) × (part_by_names names whole ≡ Some held)
part_read None j whole read = (whole, ap of_json (all_of j) ∙ read, refl)
part_read (Some names) j whole read = value_read names j whole read
