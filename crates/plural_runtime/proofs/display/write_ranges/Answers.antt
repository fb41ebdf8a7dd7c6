use Rattle.std.proofs.Common.{◌≡◌, ◌∙◌, ◌++◌, [], sym, refl, ap, subst, append-nil, true}
use Rattle.std.specs.Prelude.{codes, if◌then◌else◌}
use Rattle.std.specs.Fmt.{HasWritten}
use Rattle.std.proofs.lemmas.Grind.{put_two}
use Rattle.plural_runtime.specs.RuleText.{range_shown, ranges_shown}
use Rattle.plural_runtime.specs.Inner.RuleViews.{lent_relation}
use Rattle.plural_runtime.proofs.texts.RuleTexts.{ranges_all, ranges_from, ranges_more, ranges_none}
use Rattle.plural_runtime.proofs.display.write_ranges.Goals as goal

pub loop-range-init : goal.loop-range-init
loop-range-init g c =
    let all = c.into_iter-range-iterator.ensures.into_iter_gives ∙ c.ranges-range-items.ensures in (
      [],
      ap (ranges_from true) all ∙ ranges_all (lent_relation c.args.relation.now).meaning.ranges,
      λ plain. record { wrote = record { parts = []; calls = refl; whole = refl }; plain = plain },
    )

pub loop-range-preserved : goal.loop-range-preserved
loop-range-preserved g c =
    let before = c.loop-range.invariant in
    let is_first = c.loop-range.is_first in
    let range = c.in-Some.range in (
      before.0 ++ ((if is_first then [] else codes ", ") ++ range_shown range),
      sym (ranges_more is_first before.0 range c.next.new.self)
          ∙ ap (λ left. before.0 ++ ranges_from is_first left) (sym c.in-Some.ensures.steps) ∙ before.1,
      λ plain. let so_far = before.2 plain in put_two _ _ _ _ _ _ _ so_far (c.in_ok-write_next_range.ensures so_far.plain refl) refl,
    )

pub returns : goal.returns
returns g c =
    let before = c.loop-range.invariant in
    let is_first = c.loop-range.is_first in
    let none : [] ≡ ranges_from is_first c.loop-range.range-iterator =
    sym (ranges_none is_first) ∙ ap (ranges_from is_first) (sym c.in-None.ensures.steps.0) in
    let all : before.0 ≡ ranges_shown (lent_relation c.args.relation.now).meaning.ranges =
    sym (append-nil before.0) ∙ ap (λ text. before.0 ++ text) none ∙ before.1 in
    λ plain _. subst (λ bytes. HasWritten g.W.Write.write_str_gives c.args.f.now bytes c.loop-range.f) all (before.2 plain)
