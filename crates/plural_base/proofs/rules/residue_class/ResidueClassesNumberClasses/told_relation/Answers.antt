use Rattle.std.proofs.Common.{ℕ, ◌∙◌, sym, ap, subst}
use Rattle.plural_runtime.specs.PackedTruth.{is_true_at}
use Rattle.plural_reference.specs.Truth.{is_in_ranges, remainder, under}
use Rattle.plural_runtime.specs.RuleKinds.{tree_operand_of}
use Rattle.plural_runtime.specs.Inner.RuleViews.{lent_relation}
use Rattle.plural_base.specs.Inner.WholeNumbers.{Fits, whole_value}
use Rattle.plural_base.proofs.integers.Lists.{relation_truth-whole}
use Rattle.plural_base.proofs.integers.Told.{told_if_as}
use Rattle.plural_base.proofs.rules.residue_class.ResidueClassesNumberClasses.told_relation.Goals as goal

pub returns : goal.returns
returns c = λ class o h whole.
    let n = whole.0 in
    let relation = lent_relation c.args.relation.now in
    let meaning = relation.meaning in
    let value = remainder meaning.modulus (whole_value meaning.operand n) in
    let P : ℕ → Type 0 = λ v. Fits c.known_value-known.result class v in
    let same = ap (λ m. remainder m (whole_value (tree_operand_of c.operand.result) n)) c.modulo.ensures
    ∙ ap (λ o. remainder meaning.modulus (whole_value o n)) c.operand.ensures in
    let told = c.told_list.ensures class value h (subst P same (c.known_value-known.ensures.fits class n whole.2)) in
    let is_in = is_in_ranges meaning.ranges value in
    let truth = ap (λ operator. under operator is_in) c.polarity.ensures ∙ sym (relation_truth-whole meaning n)
    ∙ ap (λ operands. is_true_at operands relation) (sym whole.1) in
    told_if_as class _ _ _ _ c.under_polarity.result
    (c.known_value-known.ensures.told class relation (sym c.operand.ensures) (sym c.modulo.ensures)) truth
    (c.under_polarity.ensures class _ is_in told)
