use Rattle.std.proofs.Common.{subst, sym}
use Rattle.std.proofs.lemmas.Result.{IfErr-weaker}
use Rattle.plural_base.specs.RuleTexts.{AreRulesOf, texts_of}
use Rattle.plural_base.specs.declared.sure_choice.SureCategoryError.TheVariants.{Rules}
use Rattle.plural_base.proofs.choice.SureFaults.{one_sure_fault, sure_leaves_memory, told_fault}
use Rattle.plural_base.proofs.sure_choice.sure_category.Goals as goal

pub returns-in-Ok-clause-sure : goal.returns-in-Ok-clause-sure
returns-in-Ok-clause-sure c =
    let texts = texts_of c.args.zero c.args.one c.args.two c.args.few c.args.many in
    c.sure_by_rules-sure.ensures.sure texts (subst (AreRulesOf texts) (sym c.from_data-rules.ensures) c.in-Ok.ensures.ok)

pub returns-in-Ok-clause-refused : goal.returns-in-Ok-clause-refused
returns-in-Ok-clause-refused c =
    let texts = texts_of c.args.zero c.args.one c.args.two c.args.few c.args.many in
    c.sure_by_rules-sure.ensures.refused texts (subst (AreRulesOf texts) (sym c.from_data-rules.ensures) c.in-Ok.ensures.ok)

pub returns-in-Ok-clause-told : goal.returns-in-Ok-clause-told
returns-in-Ok-clause-told c =
    let texts = texts_of c.args.zero c.args.one c.args.two c.args.few c.args.many in
    let from : AreRulesOf texts c.from_data-rules.result = subst (AreRulesOf texts) (sym c.from_data-rules.ensures) c.in-Ok.ensures.ok in
    λ error has other.
    told_fault c.texts_give_one_answer.ensures c.texts_write_one_number.ensures.compact texts c.args.number.now
    c.sure_by_rules-sure.result error (c.sure_by_rules-sure.ensures.sure texts from) (c.sure_by_rules-sure.ensures.refused texts from)
    has other

pub returns-in-Ok-clause-given : goal.returns-in-Ok-clause-given
returns-in-Ok-clause-given c =
    let texts = texts_of c.args.zero c.args.one c.args.two c.args.few c.args.many in
    let from : AreRulesOf texts c.from_data-rules.result = subst (AreRulesOf texts) (sym c.from_data-rules.ensures) c.in-Ok.ensures.ok in
    λ sure.
    IfErr-weaker c.sure_by_rules-sure.result _ _
    (λ found has. sure_leaves_memory c.texts_give_one_answer.ensures c.texts_write_one_number.ensures.compact texts c.args.number.now found
    sure has) (c.sure_by_rules-sure.ensures.refused texts from)

pub returns-in-Err-clause-told : goal.returns-in-Err-clause-told
returns-in-Err-clause-told c =
    λ error has other.
    one_sure_fault c.texts_give_one_answer.ensures c.texts_write_one_number.ensures.compact
    (texts_of c.args.zero c.args.one c.args.two c.args.few c.args.many) c.args.number.now (Rules c.in-Err.error) error c.in-Err.ensures.refused has other

pub returns-in-Err-clause-given : goal.returns-in-Err-clause-given
returns-in-Err-clause-given c =
    λ sure.
    sure_leaves_memory c.texts_give_one_answer.ensures c.texts_write_one_number.ensures.compact
    (texts_of c.args.zero c.args.one c.args.two c.args.few c.args.many) c.args.number.now (Rules c.in-Err.error) sure c.in-Err.ensures.refused
