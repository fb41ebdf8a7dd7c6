-- Two ways to name the same parents.
use Rattle.std.proofs.Common.{◌≡◌, ◌∙◌, ℕ, zero, suc, List, Option, Some, None, is_some, if◌then◌else◌, codes, ap, refl}
use Rattle.std.specs.Option.{option_and_then}
use Rattle.serde_json.specs.Data.{Data, null, boolean, number, string, array, object, Members, no_members, member}
use Rattle.serde_json.specs.Find.{as_object, as_str, get}
use Rattle.plural_fallback.specs.Chain.{next_by}
use Rattle.plural_fallback.specs.FirstKeys.{locale_at}
use Rattle.plural_fallback.specs.LocaleNames.{before_last, key_of}
use Rattle.plural_fallback.specs.LocalesJson.{keys_in_object, parent_in}
use Rattle.plural_fallback.specs.declared.first_key.TheConstants.{MOST_LOCALES}
use Rattle.document_members.specs.ChainSteps.{short_next, is_long_name}
use Rattle.document_members.specs.ParentRows.{parent_among}
use Rattle.document_report.specs.FoundInDocuments.{Found, IsFoundInDocumentMembers, together}
use Rattle.document_report.specs.ParentFaults.{found_of_chain, found_of_child, found_of_parent, IsFoundInParent}

module _ (f g : List ℕ → Option (List ℕ)) (same : (locale : List ℕ) → f locale ≡ g locale) where
  same_next : (locale : List ℕ) → short_next f locale ≡ short_next g locale
  same_next locale =
      ap (λ (parent : Option (List ℕ)). if is_long_name locale then None else next_by parent locale (before_last locale)) (same locale)

  same_step : (o : Option (List ℕ)) → option_and_then (short_next f) o ≡ option_and_then (short_next g) o
  same_step None = refl
  same_step (Some locale) = same_next locale

  same_chain : (locale : List ℕ) (n : ℕ) → locale_at (short_next f) locale n ≡ locale_at (short_next g) locale n
  unfolding locale_at
  same_chain locale zero = refl
  same_chain locale (suc n) = ap (option_and_then (short_next f)) (same_chain locale n) ∙ same_step (locale_at (short_next g) locale n)

  same_found : (locale : List ℕ) → found_of_chain f locale ≡ found_of_chain g locale
  same_found locale = rw (same_chain locale MOST_LOCALES) refl

  -- the same is found in each member
  pub same_parents : (members : Members) (found : Found) → IsFoundInDocumentMembers (IsFoundInParent f) members found
      → IsFoundInDocumentMembers (IsFoundInParent g) members found
  same_parents no_members found h = h
  same_parents (member key value members) found (first, rest, is, others, whole) = (
    first,
    rest,
    is ∙ ap (λ (chain : Found). together (found_of_child key) (together (found_of_parent key (as_str value)) chain)) (same_found key),
    same_parents members rest others,
    whole,
  )

-- ---- The part of a document

-- the parent of a locale by the part
abbrev parent_in_part : Option Data → List ℕ → Option (List ℕ)
parent_in_part part locale =
    option_and_then (λ key. option_and_then as_str (option_and_then (get key) part))
    (key_of (keys_in_object (option_and_then as_object part)) locale)

by_part : (part : Option Data) (all : Members) (locale : List ℕ) → option_and_then as_object part ≡ Some all
    → parent_among all locale ≡ parent_in_part part locale
by_part None all locale h = absurd cc
by_part (Some null) all locale h = absurd cc
by_part (Some (boolean b)) all locale h = absurd cc
by_part (Some (number n)) all locale h = absurd cc
by_part (Some (string s)) all locale h = absurd cc
by_part (Some (array items)) all locale h = absurd cc
by_part (Some (object fields)) all locale h =
    let same : all ≡ fields = cc in ap (λ (ms : Members). parent_among ms locale) same

-- the members are those of the part
pub parents_are : (document : Data) (members : Members) → option_and_then as_object (get (codes "parents") document) ≡ Some members
    → (locale : List ℕ) → parent_among members locale ≡ parent_in document locale
parents_are document members h locale = by_part (get (codes "parents") document) members locale h
