-- The block of the rules of five texts.
use Rattle.std.proofs.Common.{◌≡◌, ◌↔◌, List, ℕ, Option, Result, Ok, Err, IsTrue, refl}
use Rattle.std.specs.Prelude.{Vec}
use Rattle.std.specs.Borrow.{Bor}
use Rattle.std.specs.Str.{IsUtf8}
use Rattle.std.specs.declared.alloc.Global.{Global}
use Rattle.icu_plurals.specs.declared.RulesPackError.{RulesPackError}
use Rattle.icu_plurals.specs.declared.RulesPackError.TheVariants as packing
use Rattle.icu_plurals.specs.declared.Five.{Five}
use Rattle.icu_plurals.specs.FiveRules.{FiveRules, five}
use Rattle.icu_plurals.specs.ListBytes.{has_high_start}
use Rattle.icu_plurals.specs.RuleTexts.{lent_texts}
use Rattle.icu_plurals.specs.RulesBytes.{rule_items}
use Rattle.plural_exports.specs.GivenTexts.{AreUtf8, PackRules, ReadsTexts, text_given}
use Rattle.plural_exports.specs.Inner.Conversions.{rules_pack_fault}
use Rattle.plural_exports.specs.Inner.GivenResults.{GivesSeen}
use Rattle.plural_exports.specs.declared.fault.Fault.{Fault}
use Rattle.plural_exports.specs.declared.fault.Fault.TheVariants.{Utf8}

-- a block, or why there is none
abbrev pub Block : Type 0
Block = Result (Vec ℕ Global) Fault

-- its bytes
abbrev pub bytes_of : Vec ℕ Global → List ℕ
bytes_of block = block.items

-- the texts, as they are lent
abbrev pub Given : Type 0
Given = Result (Five (Option (Bor (List ℕ)))) Fault

-- one of the texts isn't UTF-8
pub not_texts : (texts : Five (List ℕ)) (e : Fault) (r : Given)
    → r ≡ Err e → e ≡ Utf8 → ¬ (AreUtf8 texts) → GivesSeen lent_texts (ReadsTexts texts) r
not_texts texts e r is same none = rw is (same, none)

-- each of the texts was read
pub texts_read : (bytes : Five (List ℕ)) (zero one two few many : Option (List ℕ))
    → IsUtf8 bytes.zero × (zero ≡ text_given bytes.zero) → IsUtf8 bytes.one × (one ≡ text_given bytes.one)
    → IsUtf8 bytes.two × (two ≡ text_given bytes.two) → IsUtf8 bytes.few × (few ≡ text_given bytes.few)
    → IsUtf8 bytes.many × (many ≡ text_given bytes.many) → ReadsTexts bytes (Ok (five zero one two few many))
texts_read bytes zero one two few many z o t f m =
    (record { zero = z.0; one = o.0; two = t.0; few = f.0; many = m.0 }, rw (z.1, o.1, t.1, f.1, m.1) refl)

-- the fault of rules that can't be packed
pub pack_refused : (rules : FiveRules) (e : RulesPackError) (r : Block) → r ≡ Err (rules_pack_fault e)
    → ◌≡◌ {A = Result (Vec ℕ Global) RulesPackError} (Err e) (Err packing.StartLimit) ↔ IsTrue (has_high_start (rule_items rules))
    → GivesSeen bytes_of (PackRules rules) r
pack_refused rules packing.StartLimit r is limit = rw is (limit.0 refl)
pack_refused rules packing.Memory r is limit =
    rw is (λ high.
    (let same : ◌≡◌ {A = Result (Vec ℕ Global) RulesPackError} (Err packing.Memory) (Err packing.StartLimit) =
    limit.1 high in absurd cc))
