-- What is wrong with the parents of a document (docs/JSON.md): the part `parents` has for each
-- locale the text of its parent.
--     IsFoundInParents document found      what is found there, in the order of the bytes of the
--         locales' keys
use Rattle.std.specs.Prelude.{◌≡◌, ℕ, ◌||◌, List, codes, Option, Some, None, is_some, if◌then◌else◌}
use Rattle.std.specs.Option.{option_and_then}
use Rattle.serde_json.specs.Data.{Data}
use Rattle.serde_json.specs.Find.{get, as_null, as_object, as_str}
use Rattle.plural_fallback.specs.FirstKeys.{locale_at}
use Rattle.plural_fallback.specs.LocalesJson.{parent_in}
use Rattle.plural_fallback.specs.declared.first_key.TheConstants.{MOST_LOCALES}
use Rattle.document_members.specs.ChainSteps.{short_next, is_long_name}
use Rattle.document_report.specs.CheckedDocument.{members_or_none}
use Rattle.document_report.specs.DocumentPlaces.{at_parent, at_parents}
use Rattle.document_report.specs.FoundInDocuments.{Found, IsFoundInDocumentMembers, document_fault_at, nothing_found, together}
use Rattle.document_report.specs.declared.cause.Cause.TheVariants.{EndlessChain, LongKey, LongParent, NoObject, NoText}

-- a part that is neither absent, null nor an object is a fault
abbrev pub found_of_shape : Option Data → Found
found_of_shape None = nothing_found
found_of_shape (Some value) =
    if is_some (as_null value) || is_some (as_object value) then nothing_found else document_fault_at at_parents NoObject

-- a long key is a fault
abbrev pub found_of_child : List ℕ → Found
found_of_child locale = if is_long_name locale then document_fault_at (at_parent locale) LongKey else nothing_found

-- and so is a parent that is no text, or a long one
abbrev pub found_of_parent : List ℕ → Option (List ℕ) → Found
found_of_parent locale None = document_fault_at (at_parent locale) NoText
found_of_parent locale (Some parent) = if is_long_name parent then document_fault_at (at_parent locale) LongParent else nothing_found

-- a chain that goes on after all the locales that are looked up is a fault
abbrev pub found_of_chain : (List ℕ → Option (List ℕ)) → List ℕ → Found
found_of_chain parent locale =
    if is_some (locale_at (short_next parent) locale MOST_LOCALES) then document_fault_at (at_parent locale) EndlessChain else nothing_found

abbrev pub IsFoundInParent : (List ℕ → Option (List ℕ)) → List ℕ → Data → Found → Type 0
IsFoundInParent parent locale value found =
    found ≡ together (found_of_child locale) (together (found_of_parent locale (as_str value)) (found_of_chain parent locale))

abbrev pub IsFoundInParents : Data → Found → Type 0
IsFoundInParents document found =
    let parents = get (codes "parents") document in
    (each : Found) × IsFoundInDocumentMembers (IsFoundInParent (parent_in document)) (members_or_none (option_and_then as_object parents)) each
    × (found ≡ together (found_of_shape parents) each)
