-- An outline of a document of rules serves as the whole does, where the chain stays inside.
use Rattle.std.proofs.Common.{◌≡◌, ℕ, zero, suc, ◌<◌, ◌≤◌, List, [], ◌∷◌, Bool, true, false, Option, Some, None, Result, Ok, Err}
use Rattle.std.proofs.Common.{refl, sym, ap, subst, ◌∙◌, arith}
use Rattle.std.specs.Prelude.{◌||◌, bytes_eq, codes, IfOk, IfErr, is_some, option_and_then, string_bytes}
use Rattle.plural_documents.proofs.HeldOutlines.{outline_held}
use Rattle.plural_documents.specs.Outlines.{HeldText, IsOutlineOf, is_among_names, outline, part_by_names}
use Rattle.plural_documents.specs.declared.Portion.TheVariants as kept
use Rattle.plural_fallback.specs.Chain.{next_of}
use Rattle.plural_fallback.specs.FirstKeys.{NoneBefore, locale_at}
use Rattle.plural_fallback.specs.LocaleNames.{key_of}
use Rattle.plural_fallback.specs.LocalesJson.{keys_under, parent_in, part_name}
use Rattle.plural_fallback.specs.declared.error.FallbackError.{FallbackError}
use Rattle.plural_fallback.specs.declared.error.FallbackError.TheVariants.{NotFound, LongChain, NotLoaded}
use Rattle.plural_fallback.specs.declared.locales.Part.{Part}
use Rattle.serde_json.specs.Data.{Data}
use Rattle.serde_json.specs.View.{view}
use Rattle.rules_outline.specs.Inner.RulesOutline.{HoldsPart, GivesFirstKey, IsFirstInside, StaysInside, is_inside, keeps_rules}
use Rattle.rules_outline.specs.KeptRules.{IsServedBy, ServesAt, key_by}
use Rattle.rules_outline.specs.LocaleKeys.{HasNoKey, IsKeyOf, key_after, most_locales}
use Rattle.rules_outline.specs.declared.outline.KeptLocales.{KeptLocales}
use Rattle.rules_outline.specs.declared.outline.KeptLocales.TheVariants.{All}
use Rattle.rules_outline.specs.declared.outline.KeptRules.{KeptRules}
use Rattle.rules_outline.specs.declared.outline.RulesSieve.TheVariants.{Document}
use Rattle.rules_outline.proofs.OutlineFound.{key_inside, same_key, same_next, same_value}

module _ (part : Part) (locale : List ℕ) (locales : KeptLocales) (whole document : Data)
    (is : outline keeps_rules (kept.Members (Document part locales)) whole ≡ Some document) (stays : StaysInside locales document part locale)
  where
    -- the locale after some steps of the chain
    abbrev at : Data → ℕ → Option (List ℕ)
    at value n = locale_at (next_of (parent_in value)) locale n

    abbrev key : Data → ℕ → Option (List ℕ)
    key value n = key_after value part locale n

    inside : (n : ℕ) (current : List ℕ) → n < most_locales → NoneBefore n (key document) → at document n ≡ Some current
        → is_inside locales current ≡ true
    inside n current below none here = stays n below current none here

    -- ---- The chain

    -- the same key, where the chains are at the same locale
    key_agrees : (n : ℕ) → n < most_locales → NoneBefore n (key document) → at document n ≡ at whole n → key document n ≡ key whole n
    key_agrees n below none alike = by (at document n) refl
      where
        by : (current : Option (List ℕ)) → at document n ≡ current → key document n ≡ key whole n
        by None here = rw (here, ← alike, here) refl
        by (Some current) here =
            ap (option_and_then (key_of (keys_under (part_name part) document))) here
            ∙ same_key part locales whole document is current (inside n current below none here)
            ∙ ap (option_and_then (key_of (keys_under (part_name part) whole))) (sym here ∙ alike)

    next_agrees : (n : ℕ) → n < most_locales → NoneBefore n (key document) → at document n ≡ at whole n
        → at document (suc n) ≡ at whole (suc n)
    unfolding locale_at
    next_agrees n below none alike = by (at document n) refl
      where
        by : (current : Option (List ℕ)) → at document n ≡ current → at document (suc n) ≡ at whole (suc n)
        by None here =
            ap (option_and_then (next_of (parent_in document))) here ∙ ap (option_and_then (next_of (parent_in whole))) (sym here ∙ alike)
        by (Some current) here =
            ap (option_and_then (next_of (parent_in document))) here
            ∙ same_next part locales whole document is current (inside n current below none here)
            ∙ ap (option_and_then (next_of (parent_in whole))) (sym here ∙ alike)

    none_sooner : (n : ℕ) → NoneBefore (suc n) (key document) → NoneBefore n (key document)
    none_sooner n none m below = none m (omega arith)

    at_agrees : (n : ℕ) → n ≤ most_locales → NoneBefore n (key document) → at document n ≡ at whole n
    unfolding locale_at
    at_agrees zero within none = refl
    at_agrees (suc n) within none =
        next_agrees n (omega arith) (none_sooner n none) (at_agrees n (omega arith) (none_sooner n none))

    none_before : (n : ℕ) → n ≤ most_locales → NoneBefore n (key document) → NoneBefore n (key whole)
    none_before n within none m below =
        let earlier : NoneBefore m (key document) = λ k lower. none k (omega arith) in
        sym (key_agrees m (omega arith) earlier (at_agrees m (omega arith) earlier)) ∙ none m below

    -- ---- The first key

    first_key : (found : List ℕ) → IsKeyOf document part locale found → IsKeyOf whole part locale found
    first_key found first =
        let n = first.0 in
        let within : n ≤ most_locales = omega (arith, first.1) in (
          n,
          first.1,
          sym (key_agrees n first.1 first.3 (at_agrees n within first.3)) ∙ first.2,
          none_before n within first.3,
        )

    no_key : (reason : FallbackError) → HasNoKey document part locale reason → HasNoKey whole part locale reason
    no_key NotFound none = (none.0, none.1, sym (at_agrees none.0 none.1 none.3) ∙ none.2, none_before none.0 none.1 none.3)
    no_key LongChain none =
        (sym (ap is_some (at_agrees most_locales (omega arith) none.1)) ∙ none.0, none_before most_locales (omega arith) none.1)
    no_key NotLoaded none = absurd none.2

    key_is_inside : (found : List ℕ) → IsKeyOf document part locale found → is_inside locales found ≡ true
    key_is_inside found first = by (at document first.0) refl
      where
        by : (current : Option (List ℕ)) → at document first.0 ≡ current → is_inside locales found ≡ true
        by None here =
            let never : None ≡ Some found =
            sym (ap (option_and_then (key_of (keys_under (part_name part) document))) here) ∙ first.2 in absurd (cc)
        by (Some current) here =
            key_inside locales (keys_under (part_name part) document) current found (inside first.0 current first.1 first.3 here)
            (sym (ap (option_and_then (key_of (keys_under (part_name part) document))) here) ∙ first.2)

    pub outline_serves : (first : Result (List ℕ) FallbackError) → GivesFirstKey document part locale first
        → ServesAt part locale document whole first
    outline_serves (Ok key) first = (first_key key first, same_value part locales whole document is key (key_is_inside key first))
    outline_serves (Err reason) none = no_key reason none

-- where all locales are kept, every chain stays
pub all_stay : (document : Data) (part : Part) (locale : List ℕ) → StaysInside All document part locale
all_stay document part locale n within current none here = refl

-- ---- What is held serves

with_none : (a b : Bool) → a || (b || false) ≡ false → a || b ≡ false
with_none true b is = is
with_none false true is = is
with_none false false is = refl

-- no other member is kept
no_other : (part : Part) (locales : KeptLocales) (key : List ℕ) → is_among_names (part_name part ∷ codes "parents" ∷ []) key ≡ false
    → keeps_rules (Document part locales) key ≡ kept.Nothing
no_other part locales key other = rw (with_none (bytes_eq key (part_name part)) (bytes_eq key (codes "parents")) other) refl

-- so what is kept of a part serves
pub part_serves : (part : Part) (locale : List ℕ) (text : HeldText) (locales : KeptLocales) (kept : KeptRules)
    (first : Result (List ℕ) FallbackError)
    → HoldsPart part text → IsOutlineOf keeps_rules (Document part locales) text (view kept.document) → key_by string_bytes kept.key ≡ first
    → IsFirstInside locales (view kept.document) part locale first → IsServedBy part locale text.bytes kept
part_serves part locale text locales kept first names (held, (whole, reads, is_held), outlined) key (stays, is_first) =
    let same = outline_held keeps_rules (Document part locales) (part_name part ∷ codes "parents" ∷ []) (no_other part locales) whole held
    (ap (λ given. part_by_names given whole) (sym names) ∙ is_held) in (
      whole,
      reads,
      subst (ServesAt part locale (view kept.document) whole) (sym key)
          (outline_serves part locale locales whole (view kept.document) (same ∙ outlined) stays first is_first),
    )

-- the first key, as it is found
pub first_found : {K : Type 0} (text : K → List ℕ) (document : Data) (part : Part) (locale : List ℕ) (r : Result K FallbackError)
    → IfOk r (λ key. IsKeyOf document part locale (text key)) → IfErr r (HasNoKey document part locale)
    → GivesFirstKey document part locale (key_by text r)
first_found text document part locale (Ok key) first none = first
first_found text document part locale (Err reason) first none = none
