-- A message is put where it stands: its map, its locale, and the places of the file.
use Rattle.std.proofs.Common.{◌≡◌, ℕ, Bool, true, false, ◌&&◌, if◌then◌else◌, List, [], bytes_eq, Option, Some, None, Result, Ok, Err, OnOk, OnErr, IsSome, is_some, true≢false, String, Global, BTreeMap, refl, sym, ap, subst, ◌∙◌, ⊎_elim}
use Rattle.std.specs.BTreeMap.{get_by_text}
use Rattle.std.proofs.lemmas.Bool.{cases_Bool, cond-false, cond-true}
use Rattle.std.proofs.lemmas.Slice.Eq.{bytes_eq-Decides}
use Rattle.translation_files.specs.FilePlaces.{KeepsPlaces, PutsPlace, is_kind, place_at, place_in, places_of_kind}
use Rattle.translation_files.specs.Inner.PlaceSteps.{HasNoLines, KeepsLines, KeepsTexts, PutsLines, PutsText, lines_at}
use Rattle.translation_files.specs.declared.lines.MessageKind.{MessageKind}
use Rattle.translation_files.specs.declared.lines.MessageKind.TheVariants.{Cardinal, Ordinal, Pattern}
use Rattle.translation_files.specs.declared.lines.MessageLines.{MessageLines}
use Rattle.translation_files.specs.declared.places.LocalePlaces.{LocalePlaces}
use Rattle.translation_files.specs.declared.places.Places.{Places}

-- ---- One of the three maps of a locale

module _ (key : List ℕ) (lines : MessageLines) (old new : LocalePlaces) where
  puts_cardinal : PutsText key lines old.cardinal new.cardinal → new.ordinal ≡ old.ordinal → new.patterns ≡ old.patterns
      → (k : MessageKind) (m : List ℕ) → lines_at new k m ≡ (if is_kind Cardinal k && bytes_eq key m then Some lines else lines_at old k m)
  puts_cardinal puts ordinal patterns Cardinal m = puts m
  puts_cardinal puts ordinal patterns Ordinal m = ap (λ places. get_by_text places m) ordinal
  puts_cardinal puts ordinal patterns Pattern m = ap (λ places. get_by_text places m) patterns

  puts_ordinal : PutsText key lines old.ordinal new.ordinal → new.cardinal ≡ old.cardinal → new.patterns ≡ old.patterns
      → (k : MessageKind) (m : List ℕ) → lines_at new k m ≡ (if is_kind Ordinal k && bytes_eq key m then Some lines else lines_at old k m)
  puts_ordinal puts cardinal patterns Cardinal m = ap (λ places. get_by_text places m) cardinal
  puts_ordinal puts cardinal patterns Ordinal m = puts m
  puts_ordinal puts cardinal patterns Pattern m = ap (λ places. get_by_text places m) patterns

  puts_pattern : PutsText key lines old.patterns new.patterns → new.cardinal ≡ old.cardinal → new.ordinal ≡ old.ordinal
      → (k : MessageKind) (m : List ℕ) → lines_at new k m ≡ (if is_kind Pattern k && bytes_eq key m then Some lines else lines_at old k m)
  puts_pattern puts cardinal ordinal Cardinal m = ap (λ places. get_by_text places m) cardinal
  puts_pattern puts cardinal ordinal Ordinal m = ap (λ places. get_by_text places m) ordinal
  puts_pattern puts cardinal ordinal Pattern m = puts m

same_map : {X : Type 0} {old new : BTreeMap (String Global) X} → new ≡ old → KeepsTexts old new
same_map e = λ m. ap (λ places. get_by_text places m) e

module _ (old new : LocalePlaces) where
  keeps_each : KeepsTexts old.cardinal new.cardinal → KeepsTexts old.ordinal new.ordinal → KeepsTexts old.patterns new.patterns
      → (k : MessageKind) (m : List ℕ) → lines_at new k m ≡ lines_at old k m
  keeps_each cardinal ordinal patterns Cardinal m = cardinal m
  keeps_each cardinal ordinal patterns Ordinal m = ordinal m
  keeps_each cardinal ordinal patterns Pattern m = patterns m

-- a map in which a message is put, or nothing
module _ {T E : Type 0} (key : List ℕ) (lines : MessageLines) (old new : LocalePlaces) where
  pub after_cardinal : (r : Result T E) → OnOk r (PutsText key lines old.cardinal new.cardinal)
      → OnErr r (KeepsTexts old.cardinal new.cardinal)
      → new.ordinal ≡ old.ordinal → new.patterns ≡ old.patterns
      → OnOk r (PutsLines Cardinal key lines old new) × OnErr r (KeepsLines old new)
  after_cardinal (Ok x) puts keeps ordinal patterns = (puts_cardinal key lines old new puts ordinal patterns, tt)
  after_cardinal (Err e) puts keeps ordinal patterns = (tt, keeps_each old new keeps (same_map ordinal) (same_map patterns))

  pub after_ordinal : (r : Result T E) → OnOk r (PutsText key lines old.ordinal new.ordinal) → OnErr r (KeepsTexts old.ordinal new.ordinal)
      → new.cardinal ≡ old.cardinal → new.patterns ≡ old.patterns
      → OnOk r (PutsLines Ordinal key lines old new) × OnErr r (KeepsLines old new)
  after_ordinal (Ok x) puts keeps cardinal patterns = (puts_ordinal key lines old new puts cardinal patterns, tt)
  after_ordinal (Err e) puts keeps cardinal patterns = (tt, keeps_each old new (same_map cardinal) keeps (same_map patterns))

  pub after_pattern : (r : Result T E) → OnOk r (PutsText key lines old.patterns new.patterns)
      → OnErr r (KeepsTexts old.patterns new.patterns)
      → new.cardinal ≡ old.cardinal → new.ordinal ≡ old.ordinal
      → OnOk r (PutsLines Pattern key lines old new) × OnErr r (KeepsLines old new)
  after_pattern (Ok x) puts keeps cardinal ordinal = (puts_pattern key lines old new puts cardinal ordinal, tt)
  after_pattern (Err e) puts keeps cardinal ordinal = (tt, keeps_each old new (same_map cardinal) (same_map ordinal) keeps)

pub no_lines : (places : LocalePlaces) → places.cardinal.entries ≡ [] → places.ordinal.entries ≡ [] → places.patterns.entries ≡ []
    → (k : MessageKind) (m : List ℕ) → lines_at places k m ≡ None
no_lines places cardinal ordinal patterns Cardinal m = rw cardinal
no_lines places cardinal ordinal patterns Ordinal m = rw ordinal
no_lines places cardinal ordinal patterns Pattern m = rw patterns

-- ---- The places of a file

pub keeps_all : (old new : Places) → KeepsTexts old.locales new.locales → KeepsPlaces old new
keeps_all old new keeps = λ l k m. ap (place_in k m) (keeps l)

-- one locale is changed
module _ (locale : List ℕ) (old new : Places) (after : LocalePlaces) where
  at_locale : PutsText locale after old.locales new.locales → (l : List ℕ) → bytes_eq locale l ≡ true
      → get_by_text new.locales l ≡ Some after
  at_locale puts l same = puts l ∙ cond-true (bytes_eq locale l) (Some after) (get_by_text old.locales l) same

  elsewhere : PutsText locale after old.locales new.locales → (l : List ℕ) → bytes_eq locale l ≡ false
      → get_by_text new.locales l ≡ get_by_text old.locales l
  elsewhere puts l other = puts l ∙ cond-false (bytes_eq locale l) (Some after) (get_by_text old.locales l) other

  before_at : (stood : Option LocalePlaces) → get_by_text old.locales locale ≡ stood → (l : List ℕ) → bytes_eq locale l ≡ true
      → get_by_text old.locales l ≡ stood
  before_at stood there l same =
      subst (λ (name : List ℕ). get_by_text old.locales name ≡ stood) ((bytes_eq-Decides locale l).0 same) there

  -- it was there: a message is put
  put_in_locale : (kind : MessageKind) (key : List ℕ) (lines : MessageLines) (before : LocalePlaces)
      → get_by_text old.locales locale ≡ Some before
      → PutsText locale after old.locales new.locales → PutsLines kind key lines before after → PutsPlace locale kind key lines old new
  put_in_locale kind key lines before there puts put = λ l k m.
      let such = is_kind kind k && bytes_eq key m in
      let by : Bool → Option MessageLines = λ here. if here && such then Some lines else place_at old l k m in
      ⊎_elim
      (λ same.
      ap (place_in k m) (at_locale puts l same) ∙ put k m
      ∙ ap (λ (stood : Option MessageLines). if such then Some lines else stood)
      (sym (ap (place_in k m) (before_at (Some before) there l same)))
      ∙ sym (ap by same))
      (λ other. ap (place_in k m) (elsewhere puts l other) ∙ sym (ap by other))
      (cases_Bool (bytes_eq locale l))

  -- or none is
  keep_in_locale : (before : LocalePlaces) → get_by_text old.locales locale ≡ Some before → PutsText locale after old.locales new.locales
      → KeepsLines before after → KeepsPlaces old new
  keep_in_locale before there puts keeps = λ l k m.
      ⊎_elim
      (λ same.
      ap (place_in k m) (at_locale puts l same) ∙ keeps k m
      ∙ sym (ap (place_in k m) (before_at (Some before) there l same)))
      (λ other. ap (place_in k m) (elsewhere puts l other))
      (cases_Bool (bytes_eq locale l))

  -- it is added without messages
  add_empty : get_by_text old.locales locale ≡ None → PutsText locale after old.locales new.locales → HasNoLines after → KeepsPlaces old new
  add_empty absent puts empty = λ l k m.
      ⊎_elim
      (λ same.
      ap (place_in k m) (at_locale puts l same) ∙ empty k m
      ∙ sym (ap (place_in k m) (before_at None absent l same)))
      (λ other. ap (place_in k m) (elsewhere puts l other))
      (cases_Bool (bytes_eq locale l))

-- a locale is added before the message is put
put_behind : (locale : List ℕ) (kind : MessageKind) (key : List ℕ) (lines : MessageLines) (old mid new : Places) → KeepsPlaces old mid
    → PutsPlace locale kind key lines mid new → PutsPlace locale kind key lines old new
put_behind locale kind key lines old mid new keeps puts = λ l k m.
    puts l k m
    ∙ ap
    (λ (stood : Option MessageLines). if bytes_eq locale l && (is_kind kind k && bytes_eq key m) then Some lines else stood)
    (keeps l k m)

keep_behind : (old mid new : Places) → KeepsPlaces old mid → KeepsPlaces mid new → KeepsPlaces old new
keep_behind old mid new first second = λ l k m. second l k m ∙ first l k m

-- ---- What a call does to the places

-- a locale that was absent is added, or nothing
pub after_locale : {T E : Type 0} (r : Result T E) (locale : List ℕ) (old new : Places) (empty : LocalePlaces)
    → get_by_text old.locales locale ≡ None → HasNoLines empty → OnOk r (PutsText locale empty old.locales new.locales)
    → OnErr r (KeepsTexts old.locales new.locales) → KeepsPlaces old new × OnOk r (IsSome (get_by_text new.locales locale))
after_locale (Ok x) locale old new empty absent none puts keeps = (
  add_empty locale old new empty absent puts none,
  subst (λ (found : Option LocalePlaces). IsSome found)
      (sym (at_locale locale old new empty puts locale ((bytes_eq-Decides locale locale).1 refl))) refl,
)
after_locale (Err e) locale old new empty absent none puts keeps = (keeps_all old new keeps, tt)

-- a message is put, or nothing
pub after_message : {T E : Type 0} (r : Result T E) (locale : List ℕ) (kind : MessageKind) (key : List ℕ) (lines : MessageLines)
    (old new : Places) (before after : LocalePlaces) → get_by_text old.locales locale ≡ Some before
    → PutsText locale after old.locales new.locales → OnOk r (PutsLines kind key lines before after) → OnErr r (KeepsLines before after)
    → OnOk r (PutsPlace locale kind key lines old new) × OnErr r (KeepsPlaces old new)
after_message (Ok x) locale kind key lines old new before after there puts put keeps =
    (put_in_locale locale old new after kind key lines before there puts put, tt)
after_message (Err e) locale kind key lines old new before after there puts put keeps =
    (tt, keep_in_locale locale old new after before there puts keeps)

-- the same behind a locale that was added
pub behind_locale : {T E : Type 0} (r : Result T E) (locale : List ℕ) (kind : MessageKind) (key : List ℕ) (lines : MessageLines)
    (old mid new : Places) → KeepsPlaces old mid → OnOk r (PutsPlace locale kind key lines mid new) → OnErr r (KeepsPlaces mid new)
    → OnOk r (PutsPlace locale kind key lines old new) × OnErr r (KeepsPlaces old new)
behind_locale (Ok x) locale kind key lines old mid new kept puts keeps =
    (put_behind locale kind key lines old mid new kept puts, tt)
behind_locale (Err e) locale kind key lines old mid new kept puts keeps = (tt, keep_behind old mid new kept keeps)

-- what isn't there
pub absent : {X : Type 0} (found : Option X) → is_some found ≡ false → found ≡ None
absent None is = refl
absent (Some x) is = absurd (true≢false is)
