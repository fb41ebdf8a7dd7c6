use Rattle.std.proofs.Common.{◌≡◌, ◌<◌, ◌^◌, ◌∙◌, ap, refl, sym, length, Bool, false, true, arith, rules, bit_or}
use Rattle.std.specs.Prelude.{◌&&◌, ◌||◌, not, if◌then◌else◌, None, Some, slice_index_or}
use Rattle.std.proofs.lemmas.Nat.{or_lt}
use Rattle.plural_base.specs.FiveRules.{passes}
use Rattle.plural_base.specs.Inner.Masks.{has_bit}
use Rattle.plural_base.specs.ToldCategories.{rule_or}
use Rattle.plural_base.proofs.integers.Bits.{has-and, has-none, has-not, has-or}
use Rattle.plural_base.proofs.integers.Guesses.{ordered_rule, written, written_by}
use Rattle.plural_base.proofs.rules.told.tell.Goals as goal

pub returns-then-wanted-eq0-clause-written : goal.returns-then-wanted-eq0-clause-written
returns-then-wanted-eq0-clause-written g c = λ class o h within has.
    let sure = passes (rule_or false (g.C.NumberClasses.is_told c.args.classes class) o) c.args.rule.now in
    let maybe = passes (rule_or true (g.C.NumberClasses.is_told c.args.classes class) o) c.args.rule.now in
    let old = slice_index_or c.args.entries.now class None in
    let none = ap (λ n. has_bit n class) c.if-wanted-eq0.true ∙ has-none class in
    sym (ap (λ b. written b sure maybe c.args.category old) none)

pub returns-then-wanted-eq0-clause-left : goal.returns-then-wanted-eq0-clause-left
returns-then-wanted-eq0-clause-left g c = λ class o h has.
    let maybe = passes (rule_or true (g.C.NumberClasses.is_told c.args.classes class) o) c.args.rule.now in
    let none = ap (λ n. has_bit n class) c.if-wanted-eq0.true ∙ has-none class in
    has-none class ∙ sym (ap (λ b. b && not maybe) none)

-- what matters only if something holds
both_if : (p a b : Bool) → (p ≡ true → a ≡ b) → (p && a) ≡ (p && b)
both_if true a b same = same refl
both_if false a b same = refl

-- ... of two
neither_if : (p a b d e : Bool) → (p && a) ≡ (p && d) → (p && b) ≡ (p && e) → (p && not (a || b)) ≡ (p && not (d || e))
neither_if true a b d e first second = ap (λ x. not (x || b)) first ∙ ap (λ x. not (d || x)) second
neither_if false a b d e first second = refl

pub returns-clause-written : goal.returns-clause-written
returns-clause-written g c = λ class o h within has.
    let told = g.C.NumberClasses.is_told c.args.classes class in
    let found = c.told_relations-told.result in
    let wanted = has_bit c.args.wanted class in
    let sure = passes (rule_or false told o) c.args.rule.now in
    let maybe = passes (rule_or true told o) c.args.rule.now in
    let old = slice_index_or c.args.entries.now class None in
    let first = c.write_at.new.entries in
    let there : class < length first = omega (arith, within, c.write_at.auto.entries) in
    let fits_yes : found.yes < 2 ^ 128 = search rules in
    let fits_no : found.no < 2 ^ 128 = search rules in
    let fits : bit_or found.yes found.no < 2 ^ 128 = or_lt 128 found.yes found.no fits_yes fits_no in
    let told_at = λ (is : wanted ≡ true). c.told_relations-told.ensures class o h is has in
    let yes : (wanted && has_bit found.yes class) ≡ (wanted && sure) =
    both_if wanted _ _ (λ is. (told_at is).yes ∙ ap (passes (rule_or false told o)) (sym c.in-Some.is)) in
    let no : (wanted && has_bit found.no class) ≡ (wanted && not maybe) =
    both_if wanted _ _ (λ is. (told_at is).no ∙ ap (λ rule. not (passes (rule_or true told o) rule)) (sym c.in-Some.is)) in
    let rest = has-and c.args.wanted _ class
    ∙ ap (λ b. wanted && b) (has-not (bit_or found.yes found.no) class fits h ∙ ap not (has-or found.yes found.no class))
    ∙ neither_if wanted (has_bit found.yes class) (has_bit found.no class) sure (not maybe) yes no in
    c.write_at-2.ensures class h there
    ∙ ap (λ b. if b then None else slice_index_or first class None) rest
    ∙ ap (λ entry. if wanted && not (sure || not maybe) then None else entry)
    (c.write_at.ensures class h within
    ∙ ap (λ b. if b then Some c.args.category else old) (has-and c.args.wanted found.yes class ∙ yes))
    ∙ written_by wanted sure maybe c.args.category old (ordered_rule told o c.args.rule.now)

pub returns-clause-left : goal.returns-clause-left
returns-clause-left g c = λ class o h has.
    let told = g.C.NumberClasses.is_told c.args.classes class in
    let wanted = has_bit c.args.wanted class in
    has-and c.args.wanted c.told_relations-told.result.no class
    ∙ both_if wanted _ _ (λ is. (c.told_relations-told.ensures class o h is has).no
    ∙ ap (λ rule. not (passes (rule_or true told o) rule)) (sym c.in-Some.is))
