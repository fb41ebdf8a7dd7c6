use Rattle.std.proofs.Common.{ℕ, List, Contains, subst}
use Rattle.plural_runtime.specs.PackedRelations.{PackedRelation}
use Rattle.plural_base.specs.Inner.JsonSteps.{GivesThis, kept_rule}
use Rattle.plural_base.proofs.reading.KeptRules.{among_first, among_last, if_some, of_one}
use Rattle.plural_base.proofs.json.known_rules.KnownRules.get.Goals as goal

pub returns-in-Some-clause-given : goal.returns-in-Some-clause-given
returns-in-Some-clause-given c =
    let entry : List ℕ × List PackedRelation = (c.args.text.now, c.in-Some.rule.now) in
    of_one (λ (e : List ℕ × List PackedRelation). GivesThis e.0 e.1) _ entry c.self.invariant.0
    (among_last kept_rule c.as_slices.result.0.now c.as_slices.result.1.now _ entry c.as_slices.ensures.items c.in-Some.ensures.kept)

pub returns-in-None-clause-given : goal.returns-in-None-clause-given
returns-in-None-clause-given c =
    if_some c.rule_among-in-None.result
    (λ rule among.
    of_one (λ (e : List ℕ × List PackedRelation). GivesThis e.0 e.1) _ (c.args.text.now, rule.now) c.self.invariant.0
    (among_first kept_rule c.as_slices.result.0.now c.as_slices.result.1.now _ (c.args.text.now, rule.now) c.as_slices.ensures.items among))
    c.rule_among-in-None.ensures.kept

pub returns-in-None-clause-kept : goal.returns-in-None-clause-kept
returns-in-None-clause-kept c =
    if_some c.rule_among-in-None.result
    (λ rule among.
    subst (λ (l : List (List ℕ × List PackedRelation)). Contains l (c.args.text.now, rule.now)) c.self.view_is
    (among_first kept_rule c.as_slices.result.0.now c.as_slices.result.1.now _ (c.args.text.now, rule.now) c.as_slices.ensures.items among))
    c.rule_among-in-None.ensures.kept

pub returns-in-Some-clause-kept : goal.returns-in-Some-clause-kept
returns-in-Some-clause-kept c =
    let entry : List ℕ × List PackedRelation = (c.args.text.now, c.in-Some.rule.now) in
    subst (λ (l : List (List ℕ × List PackedRelation)). Contains l entry) c.self.view_is
    (among_last kept_rule c.as_slices.result.0.now c.as_slices.result.1.now _ entry c.as_slices.ensures.items c.in-Some.ensures.kept)
