-- The refusal of a text that gives no rule.
use Rattle.std.proofs.Common.{◌≡◌, ℕ, List, refl, sym, ◌∙◌, inl, inr, Option, Some, Err}
use Rattle.std.specs.Prelude.{◌⊎◌}
use Rattle.plural_runtime.specs.declared.error.RuleError.{RuleError}
use Rattle.plural_runtime.specs.declared.error.RuleError.TheVariants as fault
use Rattle.plural_runtime.specs.RuleOfText.{RuleAnswer, rule_of_text}
use Rattle.plural_base.specs.declared.category.PluralCategory.{PluralCategory}
use Rattle.plural_base.specs.Inner.JsonSteps.{refusal_of}
use Rattle.plural_base.specs.Json.{Stands, IsRefusal}
use Rattle.plural_base.specs.RulesJson.{text_meant}

-- the fault of a text is its refusal
refused_as : (category : Option PluralCategory) (text : List ℕ) (e : RuleError) → Err e ≡ rule_of_text text
    → IsRefusal (refusal_of category e) (text_meant category (Some text))
refused_as category text (fault.Parse kind) told = rw (sym told) refl
refused_as category text fault.StartLimit told = rw (sym told) refl
refused_as category text fault.Memory told = tt

-- out of memory may be returned in any case
refused_memory : (category : Option PluralCategory) (e : RuleError) {B : Type 0} (s : Stands B) → e ≡ fault.Memory
    → IsRefusal (refusal_of category e) s
refused_memory category (fault.Parse kind) s h = absurd cc
refused_memory category fault.StartLimit s h = absurd cc
refused_memory category fault.Memory s h = tt

-- the error that is returned for a text that gives no rule is its refusal
pub text_refused : (category : Option PluralCategory) (s : Option (List ℕ)) (text : List ℕ) (answer : RuleAnswer) (e : RuleError)
    → s ≡ Some text → answer ≡ Err e → (answer ≡ rule_of_text text) ⊎ (answer ≡ Err fault.Memory)
    → IsRefusal (refusal_of category e) (text_meant category s)
text_refused category s text answer e is err (inl told) = rw is (refused_as category text e (sym err ∙ told))
text_refused category s text answer e is err (inr memory) =
    refused_memory category e _ (let h : ◌≡◌ {A = RuleAnswer} (Err e) (Err fault.Memory) = sym err ∙ memory in cc)
