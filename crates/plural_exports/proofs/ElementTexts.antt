-- The elements of eight texts, and what they are packed as.
use Rattle.std.proofs.Common.{◌≡◌, List, ℕ, Bool, true, false, Option, Some, None, Bor, refl, sym, ◌∙◌, ap, option_map, Result, Err}
use Rattle.std.specs.Option.{option_copied}
use Rattle.icu_plurals.specs.declared.Five.{Five}
use Rattle.icu_plurals.specs.Elements.{Elements, each_by, unless_equal}
use Rattle.icu_plurals.specs.PackedElements.{PackedValue, is_same_value, packed_of, plain_value}
use Rattle.plural_exports.specs.GivenElements.{AreAllUtf8, ArePackedAs, Eight, plain_text, value_given, values_given}
use Rattle.plural_exports.specs.GivenTexts.{text_given}
use Rattle.plural_exports.specs.Inner.GivenResults.{GivesSeen, kept_texts, same_text}
use Rattle.plural_exports.specs.declared.fault.Fault.{Fault}
use Rattle.plural_exports.specs.declared.fault.Fault.TheVariants.{Utf8}

-- the value of a text that is given
pub given_value : (z : Option (Bor (List ℕ))) (bytes : List ℕ) → option_copied z ≡ text_given bytes
    → option_map plain_value z ≡ value_given bytes
given_value None bytes e = ap (option_map plain_text) e
given_value (Some text) bytes e = ap (option_map plain_text) e

-- a value that was left out as an equal one is left out again
of_one : {X V : Type 0} (f : X → V) (eq : X → X → Bool) (same : V → V → Bool) (o x : X) (b : Bool)
    → eq x o ≡ b → eq x o ≡ same (f x) (f o)
    → unless_equal same (f o) (option_map f (unless_equal eq o (Some x))) ≡ unless_equal same (f o) (option_map f (Some x))
of_one f eq same o x true e is = rw (e, sym is ∙ e) refl
of_one f eq same o x false e is = rw (e, sym is ∙ e) refl

pub left_out_once : {X V : Type 0} (f : X → V) (eq : X → X → Bool) (same : V → V → Bool) (o : X) (z : Option X)
    → ((x : X) → eq x o ≡ same (f x) (f o))
    → unless_equal same (f o) (option_map f (unless_equal eq o z)) ≡ unless_equal same (f o) (option_map f z)
left_out_once f eq same o None is = refl
left_out_once f eq same o (Some x) is = of_one f eq same o x (eq x o) refl (is x)

-- elements with the same values, but for those that equal that of other, are packed as the same
pub packed_alike : (e d : Elements PackedValue) → e.other ≡ d.other
    → unless_equal is_same_value e.other e.zero ≡ unless_equal is_same_value d.other d.zero
    → unless_equal is_same_value e.other e.one ≡ unless_equal is_same_value d.other d.one
    → unless_equal is_same_value e.other e.two ≡ unless_equal is_same_value d.other d.two
    → unless_equal is_same_value e.other e.few ≡ unless_equal is_same_value d.other d.few
    → unless_equal is_same_value e.other e.many ≡ unless_equal is_same_value d.other d.many
    → e.explicit_zero ≡ d.explicit_zero → e.explicit_one ≡ d.explicit_one
    → packed_of e ≡ packed_of d
packed_alike e d other zero one two few many explicit_zero explicit_one =
    rw (zero, one, two, few, many, explicit_zero, explicit_one, other) refl

-- the value of a category beside that of other
category_value : (o : Bor (List ℕ)) (z : Option (Bor (List ℕ))) (other text : List ℕ) → o.now ≡ other → option_copied z ≡ text_given text
    → unless_equal is_same_value (plain_value o) (option_map plain_value (unless_equal same_text o z))
    ≡ unless_equal is_same_value (plain_text other) (value_given text)
category_value o z other text is given =
    left_out_once plain_value same_text is_same_value o z (λ x. refl)
    ∙ (ap (λ (t : List ℕ). unless_equal is_same_value (plain_text t) (option_map plain_value z)) is
    ∙ ap (λ (v : Option PackedValue). unless_equal is_same_value (plain_text other) v) (given_value z text given))

-- they are packed as what the texts mean
pub packed_texts : (o : Bor (List ℕ)) (five : Five (Option (Bor (List ℕ)))) (explicit_zero explicit_one : Option (Bor (List ℕ)))
    (texts : Elements (Bor (List ℕ))) (bytes : Eight)
    → texts ≡ kept_texts o five explicit_zero explicit_one
    → o.now ≡ bytes.other → option_copied five.zero ≡ text_given bytes.zero → option_copied five.one ≡ text_given bytes.one
    → option_copied five.two ≡ text_given bytes.two → option_copied five.few ≡ text_given bytes.few
    → option_copied five.many ≡ text_given bytes.many → option_copied explicit_zero ≡ text_given bytes.explicit_zero
    → option_copied explicit_one ≡ text_given bytes.explicit_one
    → packed_of (each_by plain_value texts) ≡ packed_of (values_given bytes)
packed_texts o five explicit_zero explicit_one texts bytes are other z o1 t f m ez eo =
    ap (λ (made : Elements (Bor (List ℕ))). packed_of (each_by plain_value made)) are
    ∙ packed_alike (each_by plain_value (kept_texts o five explicit_zero explicit_one)) (values_given bytes)
    (ap plain_text other)
    (category_value o five.zero bytes.other bytes.zero other z)
    (category_value o five.one bytes.other bytes.one other o1)
    (category_value o five.two bytes.other bytes.two other t)
    (category_value o five.few bytes.other bytes.few other f)
    (category_value o five.many bytes.other bytes.many other m)
    (given_value explicit_zero bytes.explicit_zero ez)
    (given_value explicit_one bytes.explicit_one eo)

-- one of the texts isn't UTF-8
pub not_all_texts : (bytes : Eight) (e : Fault) (r : Result (Elements (Bor (List ℕ))) Fault) → r ≡ Err e → e ≡ Utf8 → ¬ (AreAllUtf8 bytes)
    → GivesSeen (λ texts. packed_of (each_by plain_value texts)) (ArePackedAs bytes) r
not_all_texts bytes e r is same none = rw is (same, none)
