-- Which text a number has among packed texts, and that the two ways to name its choice agree.
use Rattle.std.proofs.Common.{◌≡◌, ◌∙◌, ℕ, List, ap, subst, inl, inr}
use Rattle.icu_plurals.specs.Elements.{Elements, IsExactElement, IsKeptElement, KeptElementIsExact, element_at}
use Rattle.icu_plurals.specs.FiveRules.{FiveRules}
use Rattle.icu_plurals.specs.Operands.{Operands}
use Rattle.icu_plurals.specs.PackedElements.{PackedElements, PackedValue, elements_of, packed_of}
use Rattle.icu_plurals.specs.Places.{Places}
use Rattle.icu_plurals.specs.Written.{CompactNumber}
use Rattle.plural_message.specs.Messages.{IsFilling, IsMessageOf, IsMessageWith}
use Rattle.example_callers.specs.PackedTexts.{AreTextsOfPacked}

-- the statement of the law `packed_elements_answer`
abbrev pub PackedElementsAnswer : Type 0
PackedElementsAnswer =
    (e : Elements PackedValue) (op : Operands) (rules : FiveRules)
    → element_at (elements_of (packed_of e)) op rules ≡ element_at e op rules

-- packed texts give every number the same text as the texts that they stand for
pub answered_alike : PackedElementsAnswer → (packed : PackedElements) (texts : Elements PackedValue) → AreTextsOfPacked packed texts
    → (op : Operands) (rules : FiveRules) → element_at (elements_of packed) op rules ≡ element_at texts op rules
answered_alike law packed texts (inl held) op rules = ap (λ (e : Elements PackedValue). element_at e op rules) held
answered_alike law packed texts (inr source) op rules =
    ap (λ (p : PackedElements). element_at (elements_of p) op rules) source ∙ law texts op rules

-- so the kept operands choose the same message among packed texts as among the texts that they
-- stand for
pub kept_message : PackedElementsAnswer → (packed : PackedElements) (texts : Elements PackedValue) → AreTextsOfPacked packed texts
    → (rules : FiveRules) (number message : List ℕ)
    → IsMessageOf (IsKeptElement (elements_of packed) rules) number message → IsMessageOf (IsKeptElement texts rules) number message
kept_message law packed texts are rules number message m =
    let chosen = m.2.1 in
    (m.0, m.1, (m.2.0, (chosen.0, chosen.1, chosen.2 ∙ answered_alike law packed texts are chosen.0 rules), m.2.2))

-- within the bound, the kept operands choose what the number itself has
pub exact_message : KeptElementIsExact PackedValue → (texts : Elements PackedValue) (rules : FiveRules) (number message : List ℕ)
    → IsMessageOf (IsKeptElement texts rules) number message → IsMessageOf (IsExactElement texts rules) number message
exact_message law texts rules number message m =
    let x : CompactNumber = m.0 in
    (x, m.1, (m.2.0, law texts rules x.significand.absolute x.exponent m.2.0 m.1.2.1.digits m.2.1, m.2.2))

-- equal texts and an equal shown number give the same message
pub same_message : (IsChosen : Elements PackedValue → Places → ℕ → PackedValue → Type 0) (texts others : Elements PackedValue)
    (shown other : List ℕ) (x : CompactNumber) (message : List ℕ) → texts ≡ others → shown ≡ other
    → IsMessageWith (IsChosen texts) x shown message → IsMessageWith (IsChosen others) x other message
same_message IsChosen texts others shown other x message texts_are shown_is m = (
  m.0,
  subst (λ (e : Elements PackedValue). IsChosen e x.significand.absolute x.exponent m.0) texts_are m.1,
  subst (λ (s : List ℕ). IsFilling s m.0.text message) shown_is m.2,
)
