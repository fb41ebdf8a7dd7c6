-- Numbers that are found, or not.
use Rattle.std.proofs.Common.{◌≡◌, ℕ, ◌≤◌, ◌==◌, Bool, true, false, ◌&&◌, ◌||◌, not, List, [], ◌∷◌, length, map, inl, inr, refl, subst, sym, arith}
use Rattle.std.proofs.lemmas.Bool.{cases_lt, eqb-true}
use Rattle.std.specs.Prelude.{IsTrue, MatchBool}
use Rattle.plural_operands.specs.Operands.{Operands, of_whole}
use Rattle.plural_reference.specs.Truth.{is_true_of, tree_relation_truth, tree_truth}
use Rattle.plural_reference.specs.declared.ast.AndCondition.{AndCondition}
use Rattle.plural_reference.specs.declared.ast.Relation.{Relation}
use Rattle.rule_notes.specs.EarlierRules.{IsTakenByEarlier}
use Rattle.rule_notes.specs.Inner.OwnNumbers.{HasOwn, HasOwnDecimal, HasOwnWhole, has_all, is_own, is_taken_at}
use Rattle.rule_notes.specs.LookedAtNumbers.{IsLookedAt, IsWhole}
use Rattle.rule_notes.specs.declared.category_rule.CategoryRule.{CategoryRule}

-- ---- The kinds of numbers

pub of_own_whole : (earlier : List CategoryRule) (rule : CategoryRule) (start end : ℕ) → end ≤ 10000
    → HasOwnWhole earlier rule start end → HasOwn earlier rule
of_own_whole earlier rule start end most (n, from, below, own) =
    record { number = of_whole n; looked_at = inl (n, omega arith, refl); own = own }

pub of_own_tenths : (earlier : List CategoryRule) (rule : CategoryRule) → HasOwnDecimal earlier rule 1 → HasOwn earlier rule
of_own_tenths earlier rule (number, is, own) = record { number = number; looked_at = inr (inl is); own = own }

pub of_own_hundredths : (earlier : List CategoryRule) (rule : CategoryRule) → HasOwnDecimal earlier rule 2 → HasOwn earlier rule
of_own_hundredths earlier rule (number, is, own) = record { number = number; looked_at = inr (inr is); own = own }

-- none of the four kinds has one
pub no_own : (earlier : List CategoryRule) (rule : CategoryRule) → ¬ (HasOwnWhole earlier rule 0 100) → ¬ (HasOwnDecimal earlier rule 1)
    → ¬ (HasOwnDecimal earlier rule 2) → ¬ (HasOwnWhole earlier rule 100 10000) → ¬ (HasOwn earlier rule)
no_own earlier rule small tenths hundredths large has = at has.number has.looked_at has.own
  where
    whole : (number : Operands) → IsWhole number → IsTrue (is_own earlier rule number) → ⊥
    whole number (n, below, is) own =
        let here : IsTrue (is_own earlier rule (of_whole n)) = subst (λ o. IsTrue (is_own earlier rule o)) is own in
        elim (cases_lt n 100) [
          | inl few ↦ small (n, omega arith, few, here)
          | inr many ↦ large (n, many, below, here)
        ]

    at : (number : Operands) → IsLookedAt number → IsTrue (is_own earlier rule number) → ⊥
    at number (inl is) own = whole number is own
    at number (inr (inl is)) own = tenths (number, is, own)
    at number (inr (inr is)) own = hundredths (number, is, own)

-- ---- Numbers of earlier rules

both : (a b : Bool) → a ≡ true → b ≡ false → (a && not b) ≡ true
both true false is isnt = refl
both true true is isnt = absurd cc
both false b is isnt = absurd cc

first_of_both : (a b : Bool) → (a && not b) ≡ true → a ≡ true
first_of_both true b is = refl
first_of_both false b is = absurd cc

second_of_both : (a b : Bool) → (a && not b) ≡ true → b ≡ false
second_of_both true true is = absurd cc
second_of_both true false is = refl
second_of_both false b is = absurd cc

pub all_taken : (earlier : List CategoryRule) (rule : CategoryRule) → HasOwn [] rule → ¬ (HasOwn earlier rule) → IsTakenByEarlier earlier rule
all_taken earlier rule some none = record {
  some = (some.number, some.looked_at, first_of_both (tree_truth some.number rule.condition) false some.own);
  all = λ number looked is. at number looked is (is_taken_at earlier number) refl;
}
  where
    at : (number : Operands) → IsLookedAt number → IsTrue (tree_truth number rule.condition) → (b : Bool)
        → is_taken_at earlier number ≡ b → is_taken_at earlier number ≡ true
    at number looked is true taken = taken
    at number looked is false taken =
        absurd (none (record {
          number = number;
          looked_at = looked;
          own = both (tree_truth number rule.condition) (is_taken_at earlier number) is taken;
        }))

pub none_not_taken : (earlier : List CategoryRule) (rule : CategoryRule) → ¬ (HasOwn [] rule) → ¬ (IsTakenByEarlier earlier rule)
none_not_taken earlier rule none taken =
    none (record {
      number = taken.some.0;
      looked_at = taken.some.1;
      own = both (tree_truth taken.some.0 rule.condition) false taken.some.2 refl;
    })

pub own_not_taken : (earlier : List CategoryRule) (rule : CategoryRule) → HasOwn earlier rule → ¬ (IsTakenByEarlier earlier rule)
own_not_taken earlier rule has taken =
    let truth = tree_truth has.number rule.condition in
    let is : truth ≡ true = first_of_both truth (is_taken_at earlier has.number) has.own in
    let isnt : is_taken_at earlier has.number ≡ false = second_of_both truth (is_taken_at earlier has.number) has.own in
    let here : is_taken_at earlier has.number ≡ true = taken.all has.number has.looked_at is in absurd cc

-- the two tests decide it
pub taken_if : (earlier : List CategoryRule) (rule : CategoryRule) (has : Bool) → HasOwn [] rule
    → MatchBool has (HasOwn earlier rule) (¬ (HasOwn earlier rule))
    → MatchBool (not has) (IsTakenByEarlier earlier rule) (¬ (IsTakenByEarlier earlier rule))
taken_if earlier rule true some own = own_not_taken earlier rule own
taken_if earlier rule false some none = all_taken earlier rule some none

-- the last of the four kinds decides it
pub own_if : (earlier : List CategoryRule) (rule : CategoryRule) (has : Bool) → ¬ (HasOwnWhole earlier rule 0 100)
    → ¬ (HasOwnDecimal earlier rule 1) → ¬ (HasOwnDecimal earlier rule 2)
    → MatchBool has (HasOwnWhole earlier rule 100 10000) (¬ (HasOwnWhole earlier rule 100 10000))
    → MatchBool has (HasOwn earlier rule) (¬ (HasOwn earlier rule))
own_if earlier rule true small tenths hundredths own = of_own_whole earlier rule 100 10000 (omega arith) own
own_if earlier rule false small tenths hundredths none = no_own earlier rule small tenths hundredths none

-- a rule without a number isn't taken
pub not_taken_if : (earlier : List CategoryRule) (rule : CategoryRule) (has : Bool) → has ≡ false
    → MatchBool has (HasOwn [] rule) (¬ (HasOwn [] rule)) → MatchBool has (IsTakenByEarlier earlier rule) (¬ (IsTakenByEarlier earlier rule))
not_taken_if earlier rule true is some = absurd cc
not_taken_if earlier rule false is none = none_not_taken earlier rule none

-- ---- A rule that has all numbers

true_without : (test : Relation → Bool) (groups : List AndCondition) → (length groups == 0) ≡ true
    → is_true_of test (map (λ group. group.0) groups) ≡ true
true_without test [] is = refl
true_without test (group ∷ groups) is = let none : length (group ∷ groups) ≡ 0 = eqb-true _ _ is in absurd (omega arith)

one_of : (all truth later taken : Bool) → (all ≡ true → truth ≡ true) → (later ≡ true → taken ≡ true) → (all || later) ≡ true
    → (truth || taken) ≡ true
one_of true truth later taken here there is = subst (λ (t : Bool). (t || taken) ≡ true) (sym (here refl)) refl
one_of false true later taken here there is = refl
one_of false false later taken here there is = there is

-- some rule that has all numbers has this one
taken_by_all : (earlier : List CategoryRule) (number : Operands) → has_all earlier ≡ true → is_taken_at earlier number ≡ true
taken_by_all [] number is = absurd cc
taken_by_all (rule ∷ rules) number is =
    one_of (length rule.condition.0 == 0) (tree_truth number rule.condition) (has_all rules) (is_taken_at rules number)
    (true_without (tree_relation_truth number) rule.condition.0) (taken_by_all rules number) is

pub none_beside_all : (earlier : List CategoryRule) (rule : CategoryRule) → has_all earlier ≡ true → ¬ (HasOwn earlier rule)
none_beside_all earlier rule is has =
    let truth = tree_truth has.number rule.condition in
    let isnt : is_taken_at earlier has.number ≡ false = second_of_both truth (is_taken_at earlier has.number) has.own in
    let taken : is_taken_at earlier has.number ≡ true = taken_by_all earlier has.number is in absurd cc
