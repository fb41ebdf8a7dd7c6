use Rattle.std.proofs.Common.{◌≡◌, ℕ, List, [], drop, arith, ap, sym, ◌∙◌}
use Rattle.std.proofs.lemmas.List.{drop_all}
use Rattle.icu_plurals.specs.RuleViews.{lent_relation}
use Rattle.icu_plurals.specs.Truth.{is_in_ranges}
use Rattle.form_commands.proofs.JoinLemmas.{holds_here, holds_later}
use Rattle.form_commands.proofs.c_condition.holds_zero.Goals as goal

pub returns-then-start-eq0 : goal.returns-then-start-eq0
returns-then-start-eq0 c =
    let ranges = (lent_relation c.args.relation.now).meaning.ranges in
    sym (c.loop-place.invariant ∙ holds_here ranges c.loop-place.place c.range_at-start.result c.range_at-start.ensures c.if-start-eq0.true)

pub loop-place-preserved : goal.loop-place-preserved
loop-place-preserved c =
    let ranges = (lent_relation c.args.relation.now).meaning.ranges in
    c.loop-place.invariant ∙ holds_later ranges c.loop-place.place c.range_at-start.result c.range_at-start.ensures c.if-start-eq0.false

pub returns : goal.returns
returns c =
    let ranges = (lent_relation c.args.relation.now).meaning.ranges in
    let none : drop c.loop-place.place ranges ≡ [] = drop_all c.loop-place.place ranges (omega arith) in
    sym (c.loop-place.invariant ∙ ap (λ (rs : List (ℕ × ℕ)). is_in_ranges rs 0) none)
