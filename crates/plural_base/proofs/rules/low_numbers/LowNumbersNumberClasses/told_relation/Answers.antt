use Rattle.std.proofs.Common.{ℕ, ◌∙◌, sym, ap, subst}
use Rattle.plural_runtime.specs.PackedTruth.{is_true_at}
use Rattle.plural_reference.specs.Truth.{is_in_ranges, remainder, under}
use Rattle.plural_runtime.specs.RuleKinds.{tree_operand_of}
use Rattle.plural_runtime.specs.Inner.RuleViews.{lent_relation}
use Rattle.plural_base.specs.Inner.WholeNumbers.{Fits, whole_value}
use Rattle.plural_base.proofs.integers.Lists.{relation_truth-whole}
use Rattle.plural_base.proofs.integers.Told.{told_if_as}
use Rattle.plural_base.proofs.rules.low_numbers.LowNumbersNumberClasses.told_relation.Goals as goal

pub returns : goal.returns
returns c = λ n o h whole.
    let relation = lent_relation c.args.relation.now in
    let meaning = relation.meaning in
    let value = remainder meaning.modulus (whole_value meaning.operand n) in
    let P : ℕ → Type 0 = λ v. Fits c.known_value-known.result n v in
    let same = ap (λ m. remainder m (whole_value (tree_operand_of c.operand.result) n)) c.modulo.ensures
    ∙ ap (λ o. remainder meaning.modulus (whole_value o n)) c.operand.ensures in
    let told = c.told_list.ensures n value h (subst P same (c.known_value-known.ensures.fits n)) in
    let is_in = is_in_ranges meaning.ranges value in
    let truth = ap (λ operator. under operator is_in) c.polarity.ensures ∙ sym (relation_truth-whole meaning n)
    ∙ ap (λ operands. is_true_at operands relation) (sym whole) in
    told_if_as n _ _ _ _ c.under_polarity.result (c.known_value-known.ensures.told n meaning.ranges) truth
    (c.under_polarity.ensures n _ is_in told)
