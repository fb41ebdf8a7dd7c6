use Rattle.std.proofs.Common.{◌≡◌, ◌∙◌, ℕ, List, [], false, ap, subst, sym, inl, inr, Err}
use Rattle.plural_reference.specs.declared.ast.Condition.{Condition}
use Rattle.plural_reference.specs.declared.token.Token.{Token}
use Rattle.plural_reference.specs.PrintingLaws.{ConditionsOfTextsAreSpellable}
use Rattle.plural_reference.specs.declared.error.ParseError.TheVariants.{ValueTooLarge}
use Rattle.plural_reference.specs.declared.error.ReadError.TheVariants.{Parse}
use Rattle.plural_reference.specs.Lexer.{AreTokensOf, TextFaulty, TextReads}
use Rattle.plural_reference.specs.RelationSinks.{condition_of, GivesCondition, IsReadBy}
use Rattle.plural_reference.specs.Samples.{ReadsCondition, FaultyRule}
use Rattle.plural_runtime.specs.Inner.TextItems.{HoldsPacked}
use Rattle.plural_runtime.specs.PackedTree.{has_large_value}
use Rattle.plural_runtime.proofs.texts.FaultKinds.{never_too_large}
use Rattle.plural_runtime.proofs.texts.SpellableTrees.{spellable_is_small}
use Rattle.plural_runtime.proofs.texts.TextAnswers.{gives_when_read}
use Rattle.plural_runtime.proofs.texts.TextItems.{cut_is}
use Rattle.plural_runtime.proofs.rule.Rule.of_text.Goals as goal

-- the values of a condition that is read fit
small : (text : List ℕ) (tokens : List Token) (condition : Condition) → ConditionsOfTextsAreSpellable → AreTokensOf text tokens
    → ReadsCondition tokens condition → has_large_value condition ≡ false
small text tokens condition law cut reads =
    ap has_large_value (sym reads.2)
    ∙ spellable_is_small reads.0.condition (law text reads.0.condition (tokens, cut, (reads.1.0, reads.1.1)))

pub of_items-requires : goal.of_items-requires
of_items-requires c =
    let read = c.in-Ok.ensures in
    let text = c.as_bytes.result.now in
    let law = c.one_list_of_tokens.ensures text in
    let condition = condition_of read.0 in (
      condition,
      small text law.0 condition c.conditions_of_texts_are_spellable.ensures law.1 (read.2.only law.0 law.1),
      c.items.ensures ∙ cut_is _ read.0 read.1,
    )

pub returns-in-Ok-clause-gives : goal.returns-in-Ok-clause-gives
returns-in-Ok-clause-gives c =
    let read = c.in-Ok.ensures in
    let text = c.as_bytes.result.now in
    let law = c.one_list_of_tokens.ensures text in
    let condition = condition_of read.0 in
    let reads : ReadsCondition law.0 condition = read.2.only law.0 law.1 in
    let fits = small text law.0 condition c.conditions_of_texts_are_spellable.ensures law.1 reads in
    let here : TextReads ReadsCondition text condition = (law.0, law.1, reads) in
    gives_when_read c.args.text.now condition c.of_items.result
    (subst (λ t. TextReads ReadsCondition t condition) c.as_bytes.ensures.value here)
    (c.of_items.ensures.packs condition fits (c.items.ensures ∙ cut_is _ read.0 read.1))

pub returns-in-Err-Parse-clause-gives : goal.returns-in-Err-Parse-clause-gives
returns-in-Err-Parse-clause-gives c =
    let fault = c.in-Err-Parse.fault in
    let text = c.as_bytes.result.now in
    let law = c.one_list_of_tokens.ensures text in
    let found = c.in-Err-Parse.is ∙ ap Err c.in-Err-Parse.field-0-is in
    let answer : GivesCondition text (Err (Parse fault)) =
    subst (λ r. IsReadBy (λ relations before. HoldsPacked relations before []) text c.read_relations.new.sink r) found c.read_relations.ensures in
    let here : TextFaulty FaultyRule text fault = (law.0, law.1, answer.only law.0 law.1) in
    let said = subst (λ t. TextFaulty FaultyRule t fault) c.as_bytes.ensures.value here in
    inl (inr (fault, said, cc))

pub returns-in-Err-Parse-clause-fits : goal.returns-in-Err-Parse-clause-fits
returns-in-Err-Parse-clause-fits c = λ h.
    let fault = c.in-Err-Parse.fault in
    let text = c.as_bytes.result.now in
    let law = c.one_list_of_tokens.ensures text in
    let found = c.in-Err-Parse.is ∙ ap Err c.in-Err-Parse.field-0-is in
    let answer : GivesCondition text (Err (Parse fault)) =
    subst (λ r. IsReadBy (λ relations before. HoldsPacked relations before []) text c.read_relations.new.sink r) found c.read_relations.ensures in
    let same : fault ≡ ValueTooLarge = cc in
    never_too_large law.0 (subst (λ kind. FaultyRule law.0 kind) same (answer.only law.0 law.1))
