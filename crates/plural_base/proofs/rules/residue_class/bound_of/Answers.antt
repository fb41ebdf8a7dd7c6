use Rattle.std.proofs.Common.{◌≡◌, ◌++◌, ◌∙◌, List, ℕ, ap, sym, append_assoc}
use Rattle.std.specs.Prelude.{max}
use Rattle.std.proofs.Math.Nat.{zero-max}
use Rattle.plural_base.specs.FiveRules.{rules_of}
use Rattle.plural_base.specs.ToldCategories.{ends_of_rule, first_above}
use Rattle.plural_base.proofs.integers.Bounds.{first_above-append, greater_is}
use Rattle.plural_base.proofs.rules.residue_class.bound_of.Goals as goal

-- one rule more at the end
more : (bound found next : ℕ) (before ends : List ℕ) → bound ≡ first_above before → found ≡ first_above ends → next ≡ max bound found
    → next ≡ first_above (before ++ ends)
more bound found next before ends so_far is next_is =
    next_is ∙ ap (λ b. max b found) so_far ∙ ap (max (first_above before)) is ∙ sym (first_above-append before ends)

pub returns : goal.returns
returns c =
    let rules = rules_of c.args.rules.now in
    let zero = ends_of_rule rules.zero in
    let one = ends_of_rule rules.one in
    let two = ends_of_rule rules.two in
    let few = ends_of_rule rules.few in
    let many = ends_of_rule rules.many in
    let first : c.max-bound.result ≡ first_above zero = c.max-bound.ensures ∙ greater_is 0 c.bound_of_rule.result ∙ zero-max c.bound_of_rule.result ∙ c.bound_of_rule.ensures in
    let second = more _ _ c.max-bound-2.result zero one first c.bound_of_rule-2.ensures c.max-bound-2.ensures in
    let third = more _ _ c.max-bound-3.result (zero ++ one) two second c.bound_of_rule-3.ensures c.max-bound-3.ensures in
    let fourth = more _ _ c.max-bound-4.result ((zero ++ one) ++ two) few third c.bound_of_rule-4.ensures c.max-bound-4.ensures in
    let fifth = more _ _ c.max-bound-5.result (((zero ++ one) ++ two) ++ few) many fourth c.bound_of_rule-5.ensures c.max-bound-5.ensures in
    fifth ∙ ap first_above (simp append_assoc)
