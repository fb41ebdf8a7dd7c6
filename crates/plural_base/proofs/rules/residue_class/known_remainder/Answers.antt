use Rattle.std.proofs.Common.{◌≡◌, ◌≢◌, ◌%◌, ◌∙◌, sym, ap, refl}
use Rattle.std.specs.Prelude.{◌==◌}
use Rattle.plural_base.proofs.integers.Moduli.{told_divided, told_from, told_left, told_of_none}
use Rattle.plural_base.proofs.integers.Residues.{by_divisor, by_multiple, remainder-is}
use Rattle.plural_base.proofs.rules.residue_class.known_remainder.Goals as goal

pub returns-then-divisor-eq0-clause-told : goal.returns-then-divisor-eq0-clause-told
returns-then-divisor-eq0-clause-told c = λ class ranges.
    told_from c.args.modulus c.args.bound class ranges (sym c.from-divisor.ensures ∙ c.if-divisor-eq0.true)

pub returns-then-divisor-eq0-2-clause-fits : goal.returns-then-divisor-eq0-2-clause-fits
returns-then-divisor-eq0-2-clause-fits c = λ class n h.
    let m = c.args.modulus in
    let same : c.from-divisor.result ≡ m = c.from-divisor.ensures in
    let above : m ≢ 0 = λ zero. c.if-divisor-eq0.false (same ∙ zero) in
    let divides : 100 % m ≡ 0 = ap (λ k. 100 % k) (sym same) ∙ c.if-divisor-eq0-2.true in
    by_divisor 100 m n class above divides h.residue_is ∙ sym (remainder-is m class (m == 0) refl above)

pub returns-then-divisor-eq0-2-clause-told : goal.returns-then-divisor-eq0-2-clause-told
returns-then-divisor-eq0-2-clause-told c = λ class ranges.
    let m = c.args.modulus in
    let same : c.from-divisor.result ≡ m = c.from-divisor.ensures in
    let above : m ≢ 0 = λ zero. c.if-divisor-eq0.false (same ∙ zero) in
    let divides : 100 % m ≡ 0 = ap (λ k. 100 % k) (sym same) ∙ c.if-divisor-eq0-2.true in
    told_divided m c.args.bound class ranges above divides

pub returns-then-divisor-eq0-3-clause-fits : goal.returns-then-divisor-eq0-3-clause-fits
returns-then-divisor-eq0-3-clause-fits c = λ class n h.
    let m = c.args.modulus in
    let same : c.from-divisor.result ≡ m = c.from-divisor.ensures in
    let above : m ≢ 0 = λ zero. c.if-divisor-eq0.false (same ∙ zero) in
    let divides : m % 100 ≡ 0 = ap (λ k. k % 100) (sym same) ∙ c.if-divisor-eq0-3.true in
    by_multiple 100 m n class above divides h.residue_is

pub returns-then-divisor-eq0-3-clause-told : goal.returns-then-divisor-eq0-3-clause-told
returns-then-divisor-eq0-3-clause-told c = λ class ranges.
    let m = c.args.modulus in
    let same : c.from-divisor.result ≡ m = c.from-divisor.ensures in
    let above : m ≢ 0 = λ zero. c.if-divisor-eq0.false (same ∙ zero) in
    let other : 100 % m ≢ 0 = λ zero. c.if-divisor-eq0-2.false (ap (λ k. 100 % k) same ∙ zero) in
    let multiple : m % 100 ≡ 0 = ap (λ k. k % 100) (sym same) ∙ c.if-divisor-eq0-3.true in
    told_left m c.args.bound class ranges above other multiple

pub returns-else-divisor-eq0-3-clause-told : goal.returns-else-divisor-eq0-3-clause-told
returns-else-divisor-eq0-3-clause-told c = λ class ranges.
    let m = c.args.modulus in
    let same : c.from-divisor.result ≡ m = c.from-divisor.ensures in
    let above : m ≢ 0 = λ zero. c.if-divisor-eq0.false (same ∙ zero) in
    let other : 100 % m ≢ 0 = λ zero. c.if-divisor-eq0-2.false (ap (λ k. 100 % k) same ∙ zero) in
    let apart : m % 100 ≢ 0 = λ zero. c.if-divisor-eq0-3.false (ap (λ k. k % 100) same ∙ zero) in
    told_of_none m c.args.bound class ranges above other apart
