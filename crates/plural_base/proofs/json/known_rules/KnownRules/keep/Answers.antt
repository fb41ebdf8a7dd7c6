use Rattle.std.proofs.Common.{◌∷◌, ◌-◌, ◌≤◌, [], ℕ, List, drop, length, arith}
use Rattle.std.proofs.lemmas.List.{length-append, length-drop}
use Rattle.plural_runtime.specs.PackedRelations.{PackedRelation}
use Rattle.plural_base.specs.declared.json.known_rules.KnownRule.{KnownRule}
use Rattle.plural_base.specs.Inner.JsonSteps.{GivesThis, kept_rule}
use Rattle.plural_base.proofs.reading.KeptRules.{all_last, all_more, kept_last}
use Rattle.plural_base.proofs.json.known_rules.KnownRules.keep.Goals as goal

-- the text gives the rule
abbrev Gives : List ℕ × List PackedRelation → Type 0
Gives entry = GivesThis entry.0 entry.1

-- at most 63 are left
few_left : (rules : List KnownRule) → length rules ≤ 64 → length (drop (length rules - 63) rules) ≤ 63
few_left rules most = omega (arith, length-drop (length rules - 63) rules)

pub invariant_of-self : goal.invariant_of-self
invariant_of-self c =
    let rules = c.self.inside.rules.items in
    let few = few_left rules c.self.invariant.1 in
    rw (c.in_err-push_back.ensures.items, c.make_room.ensures) (
      all_last kept_rule Gives (length rules - 63) rules c.self.invariant.0,
      omega (arith, few),
    )

pub invariant_of-self-2 : goal.invariant_of-self-2
invariant_of-self-2 c =
    let rules = c.self.inside.rules.items in
    let known : KnownRule = record { text = c.args.text; rule = c.args.rule } in
    let left = drop (length rules - 63) rules in
    let few = few_left rules c.self.invariant.1 in
    let long = length-append left (known ∷ []) in
    rw (c.in_ok-push_back.ensures.items, c.make_room.ensures) (
      all_more kept_rule Gives left known (all_last kept_rule Gives (length rules - 63) rules c.self.invariant.0) c.requires,
      omega (arith, few, long),
    )

pub returns : goal.returns
returns c =
    let rules = c.self.inside.rules.items in
    let known : KnownRule = record { text = c.args.text; rule = c.args.rule } in
    let kept = kept_last kept_rule 63 rules known in
    rw (c.in_ok-push_back.ensures.items, c.make_room.ensures) (rw (← c.self.view_is) kept)
