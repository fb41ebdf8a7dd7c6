-- Of the reasons why there is no sure category a text has at most one.
use Rattle.std.proofs.Common.{◌≡◌, inl, inr, ℕ, List, Option, Some, None, Result, Ok, Err, refl, sym, ap, ◌∙◌, subst, arith}
use Rattle.std.specs.Prelude.{◌⊎◌, ◌↔◌, ◌≤◌, ◌≢◌, IfErr, IfOk, IsSome, MatchResult, length}
use Rattle.std.proofs.Math.Nat.{lt_of_not-le}
use Rattle.fixed_decimal.specs.Places.{IsWithinLimit}
use Rattle.fixed_decimal.specs.Written.{CompactNumber, IsCompactOverLimit, OneCompact, WritesCompact}
use Rattle.fixed_decimal.specs.declared.error.DecimalError.{DecimalError}
use Rattle.fixed_decimal.specs.declared.error.DecimalError.TheVariants as number_fault
use Rattle.plural_base.specs.declared.five.Five.{Five}
use Rattle.plural_base.specs.FiveRules.{FiveRules, five}
use Rattle.plural_base.specs.RuleTexts.{AreRulesOf, IsFirstRefused, IsRefused, IsRuleOf, IsTaken}
use Rattle.plural_base.specs.SureChoice.{HasSureFault, IsNumberFault, IsOutOfMemory, IsSure, WritesWithin}
use Rattle.plural_base.specs.declared.category.PluralCategory.{PluralCategory}
use Rattle.plural_base.specs.declared.category.PluralCategory.TheVariants.{Zero, One, Two, Few, Many, Other}
use Rattle.plural_base.specs.declared.rules.text.RulesTextError.{RulesTextError}
use Rattle.plural_base.specs.declared.sure_choice.SureCategoryError.{SureCategoryError}
use Rattle.plural_base.specs.declared.sure_choice.SureCategoryError.TheVariants.{Rules, Number, OutsideBound}
use Rattle.plural_runtime.specs.PackedRelations.{PackedRelation}
use Rattle.plural_runtime.specs.RuleOfText.{RuleAnswer, TextsGiveOneAnswer, rule_of_text}
use Rattle.plural_runtime.specs.declared.error.RuleError.{RuleError}
use Rattle.plural_runtime.specs.declared.error.RuleError.TheVariants as rule_fault

-- no category isn't one
pub no_category : (found : Option PluralCategory) → found ≡ None → IsSome found → ⊥
no_category None is h = absurd cc
no_category (Some category) is h = absurd cc

-- ---- One text

-- what a text gives is that of the function
given_rule : TextsGiveOneAnswer → (text : List ℕ) (rule : List PackedRelation) → IsRuleOf (Some text) (Some rule)
    → ◌≡◌ {A = RuleAnswer} (Ok rule) (rule_of_text text)
given_rule one text rule given = (one text (Ok rule)).0 (inl given)

-- the refusal of a text that gives a rule is out of memory
pub taken_leaves_memory : TextsGiveOneAnswer → (text : Option (List ℕ)) (error : RuleError)
    → IsTaken text → IsRefused text error → error ≡ rule_fault.Memory
taken_leaves_memory one None error taken refused = absurd refused
taken_leaves_memory one (Some text) error (Some rule, given) (inl gives) =
    let h : ◌≡◌ {A = RuleAnswer} (Ok rule) (Err error) = given_rule one text rule given ∙ sym ((one text (Err error)).0 gives) in
    absurd cc
taken_leaves_memory one (Some text) error (None, given) (inl gives) = absurd given
taken_leaves_memory one (Some text) error taken (inr memory) = memory

-- a text is refused for one reason, but for memory
pub refused_for_one : TextsGiveOneAnswer → (text : Option (List ℕ)) (found error : RuleError)
    → IsRefused text found → IsRefused text error → ¬ (error ≡ rule_fault.Memory) → (found ≡ error) ⊎ (found ≡ rule_fault.Memory)
refused_for_one one None found error is refused other = absurd is
refused_for_one one (Some text) found error (inl told) (inl gives) other =
    let h : ◌≡◌ {A = RuleAnswer} (Err found) (Err error) =
    (one text (Err found)).0 told ∙ sym ((one text (Err error)).0 gives) in
    inl cc
refused_for_one one (Some text) found error (inr memory) refused other = inr memory
refused_for_one one (Some text) found error (inl told) (inr memory) other = absurd (other memory)

-- a text gives one rule
same_rule : TextsGiveOneAnswer → (text : Option (List ℕ)) (a b : Option (List PackedRelation))
    → IsRuleOf text a → IsRuleOf text b → a ≡ b
same_rule one None None None g h = refl
same_rule one None None (Some b) g h = absurd h
same_rule one None (Some a) b g h = absurd g
same_rule one (Some text) None b g h = absurd g
same_rule one (Some text) (Some a) None g h = absurd h
same_rule one (Some text) (Some a) (Some b) g h =
    let same : ◌≡◌ {A = RuleAnswer} (Ok a) (Ok b) = given_rule one text a g ∙ sym (given_rule one text b h) in cc

-- ---- Five texts

-- five are equal if each of them is
same_five : {A : Type 0} (a b : Five A) → a.zero ≡ b.zero → a.one ≡ b.one → a.two ≡ b.two → a.few ≡ b.few → a.many ≡ b.many → a ≡ b
same_five a b zero one two few many =
    ap (λ it. five it a.one a.two a.few a.many) zero ∙ ap (λ it. five b.zero it a.two a.few a.many) one
    ∙ ap (λ it. five b.zero b.one it a.few a.many) two ∙ ap (λ it. five b.zero b.one b.two it a.many) few
    ∙ ap (λ it. five b.zero b.one b.two b.few it) many

-- five texts give the same rules
pub same_rules : TextsGiveOneAnswer → (texts : Five (Option (List ℕ))) (a b : FiveRules)
    → AreRulesOf texts a → AreRulesOf texts b → a ≡ b
same_rules one texts a b g h =
    same_five a b (same_rule one texts.zero a.zero b.zero g.zero h.zero) (same_rule one texts.one a.one b.one g.one h.one)
    (same_rule one texts.two a.two b.two g.two h.two) (same_rule one texts.few a.few b.few g.few h.few)
    (same_rule one texts.many a.many b.many g.many h.many)

-- the first refusal of texts that all give rules is out of memory
pub rules_leave_memory : TextsGiveOneAnswer → (texts : Five (Option (List ℕ))) (rules : FiveRules) (category : PluralCategory)
    (error : RuleError) → AreRulesOf texts rules → IsFirstRefused texts category error → error ≡ rule_fault.Memory
rules_leave_memory one texts rules Zero error are is = taken_leaves_memory one texts.zero error (rules.zero, are.zero) is
rules_leave_memory one texts rules One error are is = taken_leaves_memory one texts.one error (rules.one, are.one) is.1
rules_leave_memory one texts rules Two error are is = taken_leaves_memory one texts.two error (rules.two, are.two) is.2
rules_leave_memory one texts rules Few error are is = taken_leaves_memory one texts.few error (rules.few, are.few) is.3
rules_leave_memory one texts rules Many error are is = taken_leaves_memory one texts.many error (rules.many, are.many) is.4
rules_leave_memory one texts rules Other error are is = absurd is

-- one of two reasons, or memory
abbrev IsOneOf : PluralCategory → RuleError → PluralCategory → RuleError → Type 0
IsOneOf a x b y = ((a ≡ b) × (x ≡ y)) ⊎ (x ≡ rule_fault.Memory)

-- the reasons of one text
at_one : (a : PluralCategory) (x y : RuleError) → (x ≡ y) ⊎ (x ≡ rule_fault.Memory) → IsOneOf a x a y
at_one a x y (inl same) = inl (refl, same)
at_one a x y (inr memory) = inr memory

-- texts have one first refusal, but for memory
one_first_refusal : TextsGiveOneAnswer → (texts : Five (Option (List ℕ))) (a : PluralCategory) (x : RuleError) (b : PluralCategory)
    (y : RuleError) → IsFirstRefused texts a x → IsFirstRefused texts b y → ¬ (y ≡ rule_fault.Memory) → IsOneOf a x b y
one_first_refusal one texts Zero x Zero y p q other = at_one Zero x y (refused_for_one one texts.zero x y p q other)
one_first_refusal one texts Zero x One y p q other = inr (taken_leaves_memory one texts.zero x q.0 p)
one_first_refusal one texts Zero x Two y p q other = inr (taken_leaves_memory one texts.zero x q.0 p)
one_first_refusal one texts Zero x Few y p q other = inr (taken_leaves_memory one texts.zero x q.0 p)
one_first_refusal one texts Zero x Many y p q other = inr (taken_leaves_memory one texts.zero x q.0 p)
one_first_refusal one texts One x Zero y p q other = absurd (other (taken_leaves_memory one texts.zero y p.0 q))
one_first_refusal one texts One x One y p q other = at_one One x y (refused_for_one one texts.one x y p.1 q.1 other)
one_first_refusal one texts One x Two y p q other = inr (taken_leaves_memory one texts.one x q.1 p.1)
one_first_refusal one texts One x Few y p q other = inr (taken_leaves_memory one texts.one x q.1 p.1)
one_first_refusal one texts One x Many y p q other = inr (taken_leaves_memory one texts.one x q.1 p.1)
one_first_refusal one texts Two x Zero y p q other = absurd (other (taken_leaves_memory one texts.zero y p.0 q))
one_first_refusal one texts Two x One y p q other = absurd (other (taken_leaves_memory one texts.one y p.1 q.1))
one_first_refusal one texts Two x Two y p q other = at_one Two x y (refused_for_one one texts.two x y p.2 q.2 other)
one_first_refusal one texts Two x Few y p q other = inr (taken_leaves_memory one texts.two x q.2 p.2)
one_first_refusal one texts Two x Many y p q other = inr (taken_leaves_memory one texts.two x q.2 p.2)
one_first_refusal one texts Few x Zero y p q other = absurd (other (taken_leaves_memory one texts.zero y p.0 q))
one_first_refusal one texts Few x One y p q other = absurd (other (taken_leaves_memory one texts.one y p.1 q.1))
one_first_refusal one texts Few x Two y p q other = absurd (other (taken_leaves_memory one texts.two y p.2 q.2))
one_first_refusal one texts Few x Few y p q other = at_one Few x y (refused_for_one one texts.few x y p.3 q.3 other)
one_first_refusal one texts Few x Many y p q other = inr (taken_leaves_memory one texts.few x q.3 p.3)
one_first_refusal one texts Many x Zero y p q other = absurd (other (taken_leaves_memory one texts.zero y p.0 q))
one_first_refusal one texts Many x One y p q other = absurd (other (taken_leaves_memory one texts.one y p.1 q.1))
one_first_refusal one texts Many x Two y p q other = absurd (other (taken_leaves_memory one texts.two y p.2 q.2))
one_first_refusal one texts Many x Few y p q other = absurd (other (taken_leaves_memory one texts.few y p.3 q.3))
one_first_refusal one texts Many x Many y p q other = at_one Many x y (refused_for_one one texts.many x y p.4 q.4 other)
one_first_refusal one texts Zero x Other y p q other = absurd q
one_first_refusal one texts One x Other y p q other = absurd q
one_first_refusal one texts Two x Other y p q other = absurd q
one_first_refusal one texts Few x Other y p q other = absurd q
one_first_refusal one texts Many x Other y p q other = absurd q
one_first_refusal one texts Other x b y p q other = absurd p

-- ---- The number's text

-- a number isn't within the limits and over them
within_is_not_over : (x : CompactNumber) → IsWithinLimit x.significand.absolute → x.exponent ≤ 255 → IsCompactOverLimit x → ⊥
within_is_not_over x within small (inl (inl whole)) = let h = within.whole in omega arith
within_is_not_over x within small (inl (inr fraction)) = let h = within.fraction in omega arith
within_is_not_over x within small (inr large) = omega arith

-- the fault of a text that writes a number within the limits is out of memory
pub within_leaves_memory : OneCompact → (text : List ℕ) (x : CompactNumber) (fault : DecimalError)
    → WritesWithin text x → IsNumberFault text fault → fault ≡ number_fault.Memory
within_leaves_memory one text x number_fault.Syntax within is = absurd (is x within.0)
within_leaves_memory one text x number_fault.Limit within is =
    let same : is.0 ≡ x = one text is.0 x is.1 within.0 in
    absurd (within_is_not_over x within.1 within.2 (subst IsCompactOverLimit same is.2))
within_leaves_memory one text x number_fault.Memory within is = refl

-- out of memory is no other fault
not_syntax : {A : Type 0} → ◌≡◌ {A = Result A DecimalError} (Err number_fault.Memory) (Err number_fault.Syntax) → ⊥
not_syntax same = absurd cc

not_limit : {A : Type 0} → ◌≡◌ {A = Result A DecimalError} (Err number_fault.Memory) (Err number_fault.Limit) → ⊥
not_limit same = absurd cc

-- the fault of a refused text
pub refused_number : {A : Type 0} (text : List ℕ) (error : DecimalError)
    → (◌≡◌ {A = Result A DecimalError} (Err error) (Err number_fault.Syntax)) ↔ ((x : CompactNumber) → ¬ (WritesCompact text x))
    → (◌≡◌ {A = Result A DecimalError} (Err error) (Err number_fault.Limit))
    ↔ ((x : CompactNumber) × WritesCompact text x × IsCompactOverLimit x)
    → (length text ≤ 16 → ◌≢◌ {A = Result A DecimalError} (Err error) (Err number_fault.Memory))
    → IsNumberFault text error
refused_number text number_fault.Syntax syntax limit short = syntax.0 refl
refused_number text number_fault.Limit syntax limit short = limit.0 refl
refused_number text number_fault.Memory syntax limit short =
    (λ none. absurd (not_syntax (syntax.1 none)), λ over. absurd (not_limit (limit.1 over)), lt_of_not-le (λ few. short few refl))

-- a text has one fault, but for memory
one_number_fault : (text : List ℕ) (found fault : DecimalError) → IsNumberFault text found → IsNumberFault text fault
    → ¬ (fault ≡ number_fault.Memory) → (found ≡ fault) ⊎ (found ≡ number_fault.Memory)
one_number_fault text number_fault.Memory fault is has other = inr refl
one_number_fault text found number_fault.Memory is has other = absurd (other refl)
one_number_fault text number_fault.Syntax number_fault.Syntax is has other = inl refl
one_number_fault text number_fault.Limit number_fault.Limit is has other = inl refl
one_number_fault text number_fault.Syntax number_fault.Limit is has other = absurd (is has.0 has.1)
one_number_fault text number_fault.Limit number_fault.Syntax is has other = absurd (has is.0 is.1)

-- ---- All of them

-- a reason or memory, as an error of the call
as_rules : (a b : RulesTextError) → IsOneOf a.category a.error b.category b.error
    → (◌≡◌ {A = SureCategoryError} (Rules a) (Rules b)) ⊎ (a.error ≡ rule_fault.Memory)
as_rules a b (inl same) =
    inl (ap (λ it. Rules (record { category = it; error = a.error })) same.0
    ∙ ap (λ it. Rules (record { category = b.category; error = it })) same.1)
as_rules a b (inr memory) = inr memory

as_number : (a b : DecimalError) → (a ≡ b) ⊎ (a ≡ number_fault.Memory)
    → (◌≡◌ {A = SureCategoryError} (Number a) (Number b)) ⊎ (a ≡ number_fault.Memory)
as_number a b (inl same) = inl (ap Number same)
as_number a b (inr memory) = inr memory

-- there is at most one reason, but for memory
pub one_sure_fault : TextsGiveOneAnswer → OneCompact → (texts : Five (Option (List ℕ))) (number : List ℕ)
    (found error : SureCategoryError) → HasSureFault texts number found → HasSureFault texts number error
    → ¬ (IsOutOfMemory error) → (found ≡ error) ⊎ IsOutOfMemory found
one_sure_fault one compact texts number (Rules a) (Rules b) is has other =
    as_rules a b (one_first_refusal one texts a.category a.error b.category b.error is has other)
one_sure_fault one compact texts number (Rules a) (Number b) is has other =
    inr (rules_leave_memory one texts has.0.0 a.category a.error has.0.1 is)
one_sure_fault one compact texts number (Rules a) OutsideBound is has other =
    inr (rules_leave_memory one texts has.0 a.category a.error has.2 is)
one_sure_fault one compact texts number (Number a) (Rules b) is has other =
    absurd (other (rules_leave_memory one texts is.0.0 b.category b.error is.0.1 has))
one_sure_fault one compact texts number (Number a) (Number b) is has other =
    as_number a b (one_number_fault number a b is.1 has.1 other)
one_sure_fault one compact texts number (Number a) OutsideBound is has other =
    inr (within_leaves_memory compact number has.1 a has.3 is.1)
one_sure_fault one compact texts number OutsideBound (Rules b) is has other =
    absurd (other (rules_leave_memory one texts is.0 b.category b.error is.2 has))
one_sure_fault one compact texts number OutsideBound (Number b) is has other =
    absurd (other (within_leaves_memory compact number is.1 b is.3 has.1))
one_sure_fault one compact texts number OutsideBound OutsideBound is has other = inl refl

-- where there is a sure category, the only reason for none is out of memory
pub sure_leaves_memory : TextsGiveOneAnswer → OneCompact → (texts : Five (Option (List ℕ))) (number : List ℕ)
    (error : SureCategoryError) → IsSure texts number → HasSureFault texts number error → IsOutOfMemory error
sure_leaves_memory one compact texts number (Rules e) sure has = rules_leave_memory one texts sure.0 e.category e.error sure.2 has
sure_leaves_memory one compact texts number (Number e) sure has = within_leaves_memory compact number sure.1 e sure.3 has.1
sure_leaves_memory one compact texts number OutsideBound sure has =
    let rules : has.0 ≡ sure.0 = same_rules one texts has.0 sure.0 has.2 sure.2 in
    let x : has.1 ≡ sure.1 = compact number has.1 sure.1 has.3.0 sure.3.0 in
    absurd (has.4 (rw (rules, x) sure.4))

-- what returns a sure category or a reason returns the reason that there is, but for memory
pub told_fault : TextsGiveOneAnswer → OneCompact → (texts : Five (Option (List ℕ))) (number : List ℕ)
    (result : Result PluralCategory SureCategoryError) (error : SureCategoryError)
    → IfOk result (λ _. IsSure texts number) → IfErr result (λ found. HasSureFault texts number found)
    → HasSureFault texts number error → ¬ (IsOutOfMemory error)
    → MatchResult result (λ _. ⊥) (λ found. (found ≡ error) ⊎ IsOutOfMemory found)
told_fault one compact texts number (Ok category) error sure refused has other =
    other (sure_leaves_memory one compact texts number error sure has)
told_fault one compact texts number (Err found) error sure refused has other =
    one_sure_fault one compact texts number found error refused has other
