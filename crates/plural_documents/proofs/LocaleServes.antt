-- What is kept of a document of rules for a locale has for it what the whole has.
use Rattle.std.proofs.Common.{◌≡◌, ℕ, List, [], ◌∷◌, Bool, true, false, Option, Some, None, Result, Ok, Err, Bor, bytes_eq, codes}
use Rattle.std.proofs.Common.{refl, sym, ap, subst, ◌∙◌}
use Rattle.std.specs.Bool.{OnTrue}
use Rattle.std.specs.Prelude.{IfOk, if◌then◌else◌, option_and_then}
use Rattle.std.proofs.lemmas.Bool.{or_from, or_parts}
use Rattle.std.proofs.lemmas.Slice.Eq.{bytes_eq-Decides}
use Rattle.plural_base.specs.DocumentJson.{row_of, Document as Maps, Rows, all_maps, document_for, document_meant}
use Rattle.plural_base.specs.DocumentJson.{document_of_json, found, map_meant, rows_meant, with_locale}
use Rattle.plural_base.specs.FiveRules.{FiveRules}
use Rattle.plural_base.specs.Json.{Stands, ◌>>=◌}
use Rattle.plural_base.specs.RangesJson.{ranges_meant}
use Rattle.plural_base.specs.RulesJson.{rules_meant}
use Rattle.plural_base.specs.declared.json.error.JsonError.TheVariants.{Float}
use Rattle.plural_base.specs.declared.ranges.PluralRanges.{PluralRanges}
use Rattle.plural_documents.specs.Inner.RulesPlaces.{IsFaultless, ServesLocale, keeps}
use Rattle.plural_documents.specs.Outlines.{HeldText, IsOutlineOf, outline, outline_members, with_member}
use Rattle.plural_documents.specs.declared.locale_provider.LocaleSieve.{LocaleSieve}
use Rattle.plural_documents.specs.declared.locale_provider.LocaleSieve.TheVariants as sieve
use Rattle.plural_documents.specs.declared.outline.Portion.{Portion}
use Rattle.plural_documents.specs.declared.outline.Portion.TheVariants as kept
use Rattle.plural_documents.proofs.OutlinedLemmas.{some_is}
use Rattle.plural_documents.proofs.OutlineLemmas.{found_kept}
use Rattle.plural_documents.proofs.HeldOutlines.{held_same}
use Rattle.serde_json.specs.Data.{Data, null, boolean, number, string, array, object, Members, no_members, member}
use Rattle.serde_json.specs.Find.{get_member}
use Rattle.serde_json.specs.View.{view}
use Rattle.serde_json.specs.Written.{has_float, members_have_float}
use Rattle.serde_json.specs.declared.value.Value.{Value}

ok_is : {A : Type 0} (x y : A) → ◌≡◌ {A = Stands A} (Ok x) (Ok y) → x ≡ y
ok_is x y is = cc

-- ---- What is kept has no float where the whole has none

with_exact : (key : List ℕ) (value : Option Data) (ms : Members) → ((v : Data) → value ≡ Some v → has_float v ≡ false)
    → members_have_float ms ≡ false → members_have_float (with_member key value ms) ≡ false
with_exact key None ms exact all = all
with_exact key (Some v) ms exact all = or_from (has_float v) (members_have_float ms) (exact v refl) all

mutual
  kept_exact : (portion : Portion LocaleSieve) (value part : Data) → has_float value ≡ false → outline keeps portion value ≡ Some part
      → has_float part ≡ false
  kept_exact kept.Whole value part exact is = subst (λ (d : Data). has_float d ≡ false) (some_is value part is) exact
  kept_exact kept.Nothing value part exact is = absurd (cc)
  kept_exact (kept.Members choice) null part exact is = subst (λ (d : Data). has_float d ≡ false) (some_is null part is) exact
  kept_exact (kept.Members choice) (boolean b) part exact is = subst (λ (d : Data). has_float d ≡ false) (some_is (boolean b) part is) exact
  kept_exact (kept.Members choice) (number n) part exact is = subst (λ (d : Data). has_float d ≡ false) (some_is (number n) part is) exact
  kept_exact (kept.Members choice) (string s) part exact is = subst (λ (d : Data). has_float d ≡ false) (some_is (string s) part is) exact
  kept_exact (kept.Members choice) (array items) part exact is =
      subst (λ (d : Data). has_float d ≡ false) (some_is (array items) part is) exact
  kept_exact (kept.Members choice) (object ms) part exact is =
      subst (λ (d : Data). has_float d ≡ false) (some_is (object (outline_members keeps choice ms)) part is) (members_exact choice ms exact)

  members_exact : (choice : LocaleSieve) (ms : Members) → members_have_float ms ≡ false
      → members_have_float (outline_members keeps choice ms) ≡ false
  members_exact choice no_members exact = refl
  members_exact choice (member key value ms) exact =
      let both = or_parts (has_float value) (members_have_float ms) exact in
      with_exact key (outline keeps (keeps choice key) value) (outline_members keeps choice ms)
      (λ v is. kept_exact (keeps choice key) value v both.0 is) (members_exact choice ms both.1)

-- ---- Maps

-- of the row of a locale alone the same is found
pub row_found : {A : Type 0} (locale : List ℕ) (row : Option A) → found locale (row_of locale row) ≡ row
row_found locale None = refl
row_found locale (Some x) = rw ((bytes_eq-Decides locale locale).1 refl) refl

module _ (locale : Bor (List ℕ)) where
  abbrev row : LocaleSieve
  row = sieve.Map locale

  -- the rows have the same for the locale
  abbrev Same : {A : Type 0} → Stands (Rows A) → Rows A → Type 0
  Same {A} some rows = (others : Rows A) × (some ≡ Ok others) × (found locale.now others ≡ found locale.now rows)

  module _ {A : Type 0} (meant : Data → Stands A) where
    rows_kept : (ms : Members) (rows : Rows A) → rows_meant meant ms ≡ Ok rows → Same (rows_meant meant (outline_members keeps row ms)) rows
    rows_kept no_members rows is = ([], refl, ap (found locale.now) (ok_is [] rows is))
    rows_kept (member key value ms) rows is = by (meant value) refl (rows_meant meant ms) is (rows_kept ms)
      where
        kept_by : (b : Bool) → bytes_eq locale.now key ≡ b → (x : A) → meant value ≡ Ok x → (more : Rows A)
            → Same (rows_meant meant (outline_members keeps row ms)) more
            → Same (rows_meant meant
            (with_member key (outline keeps (if b then kept.Whole else kept.Nothing) value) (outline_members keeps row ms)))
            ((key, x) ∷ more)
        kept_by true same x first more further =
            ((key, x) ∷ further.0, rw (first, further.1) refl, rw (same) refl)
        kept_by false other x first more further = (further.0, further.1, rw (other) further.2)

        by : (first : Stands A) → meant value ≡ first → (others : Stands (Rows A))
            → (first >>= λ x. (others >>= λ more. Ok ((key, x) ∷ more))) ≡ Ok rows
            → ((more : Rows A) → others ≡ Ok more → Same (rows_meant meant (outline_members keeps row ms)) more)
            → Same (rows_meant meant (outline_members keeps row (member key value ms))) rows
        by (Err e) first others is further = absurd (cc)
        by (Ok x) first (Err e) is further = absurd (cc)
        by (Ok x) first (Ok more) is further =
            subst (λ (r : Rows A). Same (rows_meant meant (outline_members keeps row (member key value ms))) r)
            (ok_is ((key, x) ∷ more) rows is)
            (kept_by (bytes_eq locale.now key) refl x first more (further more refl))

    map_kept : (value : Option Data) (rows : Rows A) → map_meant meant value ≡ Ok rows
        → Same (map_meant meant (option_and_then (outline keeps (kept.Members row)) value)) rows
    map_kept None rows is = ([], refl, ap (found locale.now) (ok_is [] rows is))
    map_kept (Some null) rows is = ([], refl, ap (found locale.now) (ok_is [] rows is))
    map_kept (Some (boolean b)) rows is = absurd (cc)
    map_kept (Some (number n)) rows is = absurd (cc)
    map_kept (Some (string s)) rows is = absurd (cc)
    map_kept (Some (array items)) rows is = absurd (cc)
    map_kept (Some (object ms)) rows is = rows_kept ms rows is

  -- ---- A document

  abbrev top : LocaleSieve
  top = sieve.Document locale

  three_kept : (c c' o o' : Stands (Rows FiveRules)) (r r' : Stands (Rows PluralRanges)) (maps : Maps) → all_maps c o r ≡ Ok maps
      → ((rows : Rows FiveRules) → c ≡ Ok rows → Same c' rows) → ((rows : Rows FiveRules) → o ≡ Ok rows → Same o' rows)
      → ((rows : Rows PluralRanges) → r ≡ Ok rows → Same r' rows)
      → with_locale locale.now (all_maps c' o' r') ≡ with_locale locale.now (Ok maps)
  three_kept (Err e) c' o o' r r' maps is cardinal ordinal ranges = absurd (cc)
  three_kept (Ok c) c' (Err e) o' r r' maps is cardinal ordinal ranges = absurd (cc)
  three_kept (Ok c) c' (Ok o) o' (Err e) r' maps is cardinal ordinal ranges = absurd (cc)
  three_kept (Ok c) c' (Ok o) o' (Ok r) r' maps is cardinal ordinal ranges =
      let cs = cardinal c refl in
      let os = ordinal o refl in
      let rs = ranges r refl in
      rw (cs.1, os.1, rs.1, cs.2, os.2, rs.2)
      (ap (λ (m : Maps). with_locale locale.now (Ok m)) (ok_is (record { cardinal = c; ordinal = o; ranges = r }) maps is))

  document_kept : (whole : Data) (maps : Maps) → document_meant whole ≡ Ok maps → (part : Data)
      → outline keeps (kept.Members top) whole ≡ Some part
      → with_locale locale.now (document_meant part) ≡ with_locale locale.now (document_meant whole)
  document_kept null maps is part kept = absurd (cc)
  document_kept (boolean b) maps is part kept = absurd (cc)
  document_kept (number n) maps is part kept = absurd (cc)
  document_kept (string s) maps is part kept = absurd (cc)
  document_kept (array items) maps is part kept = absurd (cc)
  document_kept (object ms) maps is part outlined =
      let at = λ (key : List ℕ). get_member key (outline_members keeps top ms) in
      rw (← some_is (object (outline_members keeps top ms)) part outlined, is)
      (three_kept (map_meant rules_meant (get_member (codes "cardinal") ms)) (map_meant rules_meant (at (codes "cardinal")))
      (map_meant rules_meant (get_member (codes "ordinal") ms)) (map_meant rules_meant (at (codes "ordinal")))
      (map_meant ranges_meant (get_member (codes "ranges") ms)) (map_meant ranges_meant (at (codes "ranges"))) maps is
      (λ rows c. rw (found_kept LocaleSieve keeps top (codes "cardinal") ms)
      (map_kept rules_meant (get_member (codes "cardinal") ms) rows c))
      (λ rows o. rw (found_kept LocaleSieve keeps top (codes "ordinal") ms) (map_kept rules_meant (get_member (codes "ordinal") ms) rows o))
      (λ rows r. rw (found_kept LocaleSieve keeps top (codes "ranges") ms) (map_kept ranges_meant (get_member (codes "ranges") ms) rows r)))

  exact_of : (whole : Data) (maps : Maps) → document_of_json whole ≡ Ok maps → (has_float whole ≡ false) × (document_meant whole ≡ Ok maps)
  exact_of whole maps is = by (has_float whole) refl is
    where
      by : (b : Bool) → has_float whole ≡ b → (if b then Err Float else document_meant whole) ≡ Ok maps
          → (has_float whole ≡ false) × (document_meant whole ≡ Ok maps)
      by true some is = absurd (cc)
      by false none is = (none, is)

  faultless_serves : (whole part : Data) (maps : Maps) → document_of_json whole ≡ Ok maps
      → outline keeps (kept.Members top) whole ≡ Some part
      → document_for locale.now part ≡ document_for locale.now whole
  faultless_serves whole part maps is outlined =
      let exact = exact_of whole maps is in
      rw (exact.0, kept_exact (kept.Members top) whole part exact.0 outlined) (document_kept whole maps exact.1 part outlined)

-- ---- With or without a fault

all_members : (ms : Members) → outline_members keeps sieve.All ms ≡ ms
all_members no_members = refl
all_members (member key value ms) = ap (member key value) (all_members ms)

all_kept : (whole : Data) → outline keeps (kept.Members sieve.All) whole ≡ Some whole
all_kept null = refl
all_kept (boolean b) = refl
all_kept (number n) = refl
all_kept (string s) = refl
all_kept (array items) = refl
all_kept (object ms) = ap (λ o. Some (object o)) (all_members ms)

serves : (b : Bool) (locale : Bor (List ℕ)) (text : HeldText) (value : Data) → OnTrue b (IsFaultless text)
    → IsOutlineOf keeps (if b then sieve.Document locale else sieve.All) text value → ServesLocale locale.now text value
serves true locale text value faultless (held, is_held, outlined) other is_other =
    let same = held_same text held other is_held is_other in
    let maps = faultless held is_held in
    faultless_serves locale held value maps.0 maps.1 outlined ∙ ap (document_for locale.now) same
serves false locale text value faultless (held, is_held, outlined) other is_other =
    ap (document_for locale.now) (some_is value held (sym outlined ∙ all_kept held) ∙ held_same text held other is_held is_other)

-- by what is kept
pub serves_by : {E : Type 0} (r : Result Value E) (b : Bool) (locale : Bor (List ℕ)) (text : HeldText) (chosen : LocaleSieve)
    → chosen ≡ (if b then sieve.Document locale else sieve.All) → OnTrue b (IsFaultless text)
    → IfOk r (λ value. IsOutlineOf keeps chosen text (view value)) → IfOk r (λ value. ServesLocale locale.now text (view value))
serves_by (Ok value) b locale text chosen is faultless outlined =
    serves b locale text (view value) faultless (subst (λ (s : LocaleSieve). IsOutlineOf keeps s text (view value)) is outlined)
serves_by (Err e) b locale text chosen is faultless outlined = tt
