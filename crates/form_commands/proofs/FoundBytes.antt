-- The byte of a fault, which is told if there is one.
use Rattle.std.proofs.Common.{◌≡◌, ◌≢◌, ◌↔◌, ℕ, List, Option, Some, None, Result, Ok, Err, ap, sym, ◌∙◌, subst}
use Rattle.std.specs.Prelude.{IfOk, option_map}
use Rattle.std.specs.declared.alloc.AllocError.{AllocError}
use Rattle.icu_plurals.specs.RulesJson.{text_under}
use Rattle.icu_plurals.specs.declared.PluralCategory.{PluralCategory}
use Rattle.icu_plurals.specs.declared.provider.rules.reference.ParseError.{ParseError}
use Rattle.plural_reference.specs.FaultPlaces.{TextFaultyAt}
use Rattle.plural_reference.specs.declared.parser.fault.RuleFault.{RuleFault}
use Rattle.serde_json.specs.Data.{Data}
use Rattle.form_commands.specs.Languages.{HasFaultAt}

-- the text has this fault, and no other
abbrev pub IsFaultOfText : List ℕ → Option RuleFault → Type 0
IsFaultOfText text found = (fault : RuleFault) → (found ≡ Some fault) ↔ TextFaultyAt text fault.kind fault.byte

-- the byte is that of the fault of this kind
abbrev pub IsByteIn : List ℕ → ParseError → Option ℕ → Type 0
IsByteIn text kind found = (byte : ℕ) → (found ≡ Some byte) ↔ TextFaultyAt text kind byte

abbrev fault_at : ParseError → ℕ → RuleFault
fault_at kind byte = record { kind = kind; byte = byte }

pub told : (text : List ℕ) (kind : ParseError) (found : Option RuleFault) (fault : RuleFault) → found ≡ Some fault → fault.kind ≡ kind
    → IsFaultOfText text found → IsByteIn text kind (Some fault.byte)
told text kind found fault is same all byte = (
  λ equal.
      let at : fault.byte ≡ byte = cc in
      subst (λ b. TextFaultyAt text kind b) at (subst (λ k. TextFaultyAt text k fault.byte) same ((all fault).0 is)),
  λ faulty. ap (option_map (λ (f : RuleFault). f.byte)) (sym is ∙ (all (fault_at kind byte)).1 faulty),
)

pub other : (text : List ℕ) (kind : ParseError) (found : Option RuleFault) (fault : RuleFault) → found ≡ Some fault → fault.kind ≢ kind
    → IsFaultOfText text found → IsByteIn text kind None
other text kind found fault is differs all byte = (
  λ equal. let no : ⊥ = cc in absurd no,
  λ faulty.
      let same = sym is ∙ (all (fault_at kind byte)).1 faulty in
      let alike : fault.kind ≡ kind = cc in
      absurd (differs alike),
)

pub without : (text : List ℕ) (kind : ParseError) (found : Option RuleFault) → found ≡ None → IsFaultOfText text found
    → IsByteIn text kind None
without text kind found is all byte = (
  λ equal. let no : ⊥ = cc in absurd no,
  λ faulty.
      let there = sym is ∙ (all (fault_at kind byte)).1 faulty in
      let no : ⊥ = cc in
      absurd no,
)

-- that of the text of a category
under : (value : Data) (category : PluralCategory) (kind : ParseError) (text : List ℕ) (found : Option ℕ)
    → Some text ≡ text_under category value
    → IsByteIn text kind found → (byte : ℕ) → (found ≡ Some byte) ↔ HasFaultAt (Some value) category kind byte
under value category kind text found there all byte = (
  λ equal. (text, sym there, (all byte).0 equal),
  λ has.
      let is = there ∙ has.1 in
      let same : has.0 ≡ text = cc in
      (all byte).1 (subst (λ t. TextFaultyAt t kind byte) same has.2),
)

pub under_if_ok : (value : Data) (category : PluralCategory) (kind : ParseError) (text : List ℕ) (r : Result (Option ℕ) AllocError)
    → Some text ≡ text_under category value → IfOk r (λ found. IsByteIn text kind found)
    → IfOk r (λ found. (byte : ℕ) → (found ≡ Some byte) ↔ HasFaultAt (Some value) category kind byte)
under_if_ok value category kind text (Ok found) there all = under value category kind text found there all
under_if_ok value category kind text (Err error) there all = all
