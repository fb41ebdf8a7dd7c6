-- No text has the fault that only trees made by hand have.
use Rattle.std.proofs.Common.{◌≡◌, ◌≢◌, List, Bool, true, false, Option, Some, None, inl, inr, refl}
use Rattle.std.specs.Prelude.{if◌then◌else◌, is_some, map, Err}
use Rattle.packed_list.specs.ListBytes.{has_high_start}
use Rattle.plural_reference.specs.declared.ast.Condition.{Condition}
use Rattle.plural_operands.specs.declared.operand.Operand.TheVariants.{C}
use Rattle.plural_reference.specs.declared.error.ParseError.{ParseError}
use Rattle.plural_reference.specs.declared.error.ParseError.TheVariants.{ExpectedAndCondition, ExpectedRelation, ExpectedOperand}
use Rattle.plural_reference.specs.declared.error.ParseError.TheVariants.{ExpectedValue, ValueTooLarge}
use Rattle.plural_reference.specs.declared.token.Token.{Token}
use Rattle.plural_reference.specs.declared.token.Token.TheVariants.{Operator, Operand, Dot, At, Decimal, Integer, Ellipsis, E, Modulo}
use Rattle.plural_reference.specs.Lexer.{first}
use Rattle.plural_reference.specs.Parser.{Place, start, after_or, after_and, after_operand, after_modulo, after_modulus}
use Rattle.plural_reference.specs.Parser.{before_value, operand_of, token_value, operand_fault, operator_fault, value_fault, fault}
use Rattle.plural_reference.specs.Samples.{SamplePlace, after_at, before_sample, after_comma, after_mark, type_fault, sample_fault}
use Rattle.plural_reference.specs.Samples.{fault_in_samples, FaultyRule}
use Rattle.plural_runtime.specs.declared.error.RuleError.TheVariants.{Parse}
use Rattle.plural_runtime.specs.PackedRelations.{relation_bytes}
use Rattle.plural_runtime.specs.PackedTree.{packed, has_large_value, packing}
use Rattle.plural_runtime.proofs.trees.PackedTrees.{packing-high, packing-ok}

-- a test that names another fault never gives this one
one_fault : (found : Bool) (kind : ParseError) → kind ≢ ValueTooLarge → (if found then None else Some kind) ≡ Some ValueTooLarge → ⊥
one_fault true kind n h = cc
one_fault false kind n h = n cc

-- nor does a place that expects an operand
of_operand : (at_end : Option ParseError) (t : Option Token) → at_end ≢ Some ValueTooLarge
    → operand_fault at_end t ≡ Some ValueTooLarge → ⊥
of_operand at_end None n h = n h
of_operand at_end (Some At) n h = n h
of_operand at_end (Some t) n h = one_fault (is_some (operand_of t)) ExpectedOperand (λ e. cc) h

-- nor one that expects an operator
of_operator : (t : Option Token) → operator_fault t ≡ Some ValueTooLarge → ⊥
of_operator (Some (Operator o)) h = cc
of_operator _ h = cc

-- nor one that expects a value
of_value : (t : Option Token) → value_fault t ≡ Some ValueTooLarge → ⊥
of_value None h = cc
of_value (Some t) h = one_fault (is_some (token_value t)) ExpectedValue (λ e. cc) h

-- so no place in a condition gives it
of_condition : (place : Place) (t : Option Token) → fault place t ≡ Some ValueTooLarge → ⊥
of_condition start t h = of_operand None t (λ e. cc) h
of_condition after_or t h = of_operand (Some ExpectedAndCondition) t (λ e. cc) h
of_condition after_and t h = of_operand (Some ExpectedRelation) t (λ e. cc) h
of_condition after_operand (Some Modulo) h = cc
of_condition after_operand t h = of_operator t h
of_condition after_modulo t h = of_value t h
of_condition after_modulus t h = of_operator t h
of_condition before_value t h = of_value t h

-- nor does the place that expects the type of samples
of_type : (t : Option Token) → type_fault t ≡ Some ValueTooLarge → ⊥
of_type (Some Integer) h = cc
of_type (Some Decimal) h = cc
of_type _ h = cc

-- nor one that expects a sample
of_sample : (t : Option Token) → sample_fault t ≡ Some ValueTooLarge → ⊥
of_sample (Some Dot) h = cc
of_sample (Some E) h = cc
of_sample (Some (Operand C)) h = cc
of_sample t h = of_value t h

-- so no place in samples gives it
of_samples : (place : SamplePlace) (t : Option Token) → fault_in_samples place t ≡ Some ValueTooLarge → ⊥
of_samples after_at t h = of_type t h
of_samples before_sample t h = of_sample t h
of_samples after_comma (Some Ellipsis) h = cc
of_samples after_comma t h = of_sample t h
of_samples after_mark t h = of_value t h

-- no tokens have it
pub never_too_large : (tokens : List Token) → FaultyRule tokens ValueTooLarge → ⊥
never_too_large tokens (inl h) = of_condition h.0 (first h.2) h.5
never_too_large tokens (inr h) = let f = h.3 in of_samples f.0 (first f.2) f.5

-- nor does packing give it for a tree without a large value
pub packing_not_large : (condition : Condition) → has_large_value condition ≡ false → packing condition ≡ Err (Parse ValueTooLarge) → ⊥
packing_not_large condition small h = by (has_high_start (map relation_bytes (packed condition))) refl
  where
    by : (high : Bool) → has_high_start (map relation_bytes (packed condition)) ≡ high → ⊥
    by true e = let f = packing-high condition small e in cc
    by false e = let f = packing-ok condition small e in cc
