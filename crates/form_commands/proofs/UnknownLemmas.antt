-- Languages that are unknown, by an outline and by the whole document.
use Rattle.std.proofs.Common.{◌≡◌, ℕ, List, true, false, Option, Some, Result, Ok, Err, inl, inr, sym, ap, subst, ◌∙◌, String}
use Rattle.std.proofs.Common.{Global, string_bytes}
use Rattle.std.specs.Prelude.{unwrap_or}
use Rattle.plural_documents.specs.Inputs.{json_of}
use Rattle.plural_fallback.specs.declared.error.FallbackError.{FallbackError}
use Rattle.plural_fallback.specs.declared.locales.Part.{Part}
use Rattle.serde_json.specs.Data.{Data}
use Rattle.serde_json.specs.View.{view}
use Rattle.rules_outline.specs.KeptRules.{IsServedBy, ServesAt, key_by}
use Rattle.rules_outline.specs.declared.outline.KeptRules.{KeptRules}
use Rattle.form_commands.specs.Inner.RunSteps.{GivesKnownIn, GivesRulesIn, TellsKnown, has_roots_key, is_roots_key}
use Rattle.form_commands.specs.Languages.{HasAnotherKey, HasRootsKey, IsKnownIn, IsUnknownIn, unknown_error}
use Rattle.form_commands.specs.declared.error.FormsError.{FormsError}
use Rattle.form_commands.specs.declared.error.FormsError.TheVariants.{Language}

-- ---- The bytes

-- what a document tells is told of the bytes that write it
pub known_told : (part : Part) (locale bytes : List ℕ) (document : Data) (r : Result Unit FormsError) → json_of bytes ≡ Some document
    → TellsKnown part locale document r → GivesKnownIn part locale bytes r
known_told part locale bytes document (Ok known) is tells = (document, is, tells)
known_told part locale bytes document (Err error) is (inl memory) = rw memory (inl tt)
known_told part locale bytes document (Err error) is (inr unknown) = inr (document, is, unknown.0, unknown.1)

-- ---- The whole

same_whole : (one other : Data) (value : Option Data) → value ≡ Some one → value ≡ Some other → one ≡ other
same_whole one other value first second = ap (λ o. unwrap_or o one) (sym first ∙ second)

module _ (part : Part) (locale : List ℕ) (document whole : Data) where
  -- `root`, which wasn't asked for, is the first key of the whole
  roots_whole : (key : Result (String Global) FallbackError) → ServesAt part locale document whole (key_by string_bytes key)
      → is_roots_key locale key ≡ true → HasRootsKey whole part locale
  roots_whole (Ok key) served is = (string_bytes key, served.0, is)
  roots_whole (Err reason) served is = absurd (cc)

  -- or it is another one
  another_whole : (key : Result (String Global) FallbackError) → ServesAt part locale document whole (key_by string_bytes key)
      → is_roots_key locale key ≡ false → HasAnotherKey whole part locale
  another_whole (Ok key) served is = inl (string_bytes key, served.0, is)
  another_whole (Err reason) served is = inr (reason, served)

module _ (part : Part) (locale bytes : List ℕ) (kept : KeptRules) (served : IsServedBy part locale bytes kept) where
  pub another_given : has_roots_key locale kept ≡ false → GivesRulesIn part locale bytes (Ok kept)
  another_given another =
      (served.0, served.1, served.2, inl (another_whole part locale (view kept.document) served.0 kept.key served.2 another))

  -- beside `root` the whole has another key
  pub known_given : ((whole : Data) × (json_of bytes ≡ Some whole) × IsKnownIn whole locale) → GivesRulesIn part locale bytes (Ok kept)
  known_given given =
      let same : given.0 ≡ served.0 = same_whole given.0 served.0 (json_of bytes) given.1 served.1 in
      (served.0, served.1, served.2, inr (subst (λ (whole : Data). IsKnownIn whole locale) same given.2))

  -- or it has none
  pub unknown_given : (error : FormsError) → has_roots_key locale kept ≡ true → GivesKnownIn part locale bytes (Err error)
      → GivesRulesIn part locale bytes (Err error)
  unknown_given error roots (inl none) = inl none
  unknown_given error roots (inr told) =
      let same : told.0 ≡ served.0 = same_whole told.0 served.0 (json_of bytes) told.1 served.1 in
      inr (
        served.0,
        served.1,
        (
          (
            roots_whole part locale (view kept.document) served.0 kept.key served.2 roots,
            subst (λ (whole : Data). IsUnknownIn whole locale) same told.2,
          ),
          subst (λ (whole : Data). error ≡ Language (unknown_error whole part locale)) same told.3,
        ),
      )
