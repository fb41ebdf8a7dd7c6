use Rattle.std.proofs.Common.{◌≡◌, ◌∙◌, ◌++◌, ◌∷◌, [], sym, refl, ap, subst, append-nil}
use Rattle.std.specs.Fmt.{HasWritten}
use Rattle.std.proofs.lemmas.Grind.{put_two}
use Rattle.plural_runtime.specs.RuleText.{mark_text, relation_shown, relations_shown}
use Rattle.plural_runtime.specs.Inner.RuleViews.{lent_relation}
use Rattle.plural_runtime.proofs.texts.RuleTexts.{shown_from, shown_more, shown_none}
use Rattle.plural_runtime.proofs.display.write_relations.Goals as goal

pub loop-item-init : goal.loop-item-init
loop-item-init g c =
    let all = c.into_iter-item-iterator.ensures.into_iter_gives ∙ c.iter-item-items.ensures in
    ([], ap relations_shown all, λ plain. record { wrote = record { parts = []; calls = refl; whole = refl }; plain = plain })

pub loop-item-preserved : goal.loop-item-preserved
loop-item-preserved g c =
    let before = c.loop-item.invariant in
    let is_first = c.loop-item.is_first in
    let relation = lent_relation c.as_relation.result in
    let left = c.in-Some.ensures.steps ∙ ap (λ r. r ∷ c.next.new.self) (sym c.as_relation.ensures) in (
      before.0 ++ (mark_text is_first relation.and_or ++ relation_shown relation.meaning),
      sym (shown_more is_first before.0 relation c.next.new.self) ∙ ap (λ rs. before.0 ++ shown_from is_first rs) (sym left) ∙ before.1,
      λ plain. let so_far = before.2 plain in put_two _ _ _ _ _ _ _ so_far (c.in_ok-write_next.ensures so_far.plain refl) refl,
    )

pub returns : goal.returns
returns g c =
    let before = c.loop-item.invariant in
    let is_first = c.loop-item.is_first in
    let none : [] ≡ shown_from is_first c.loop-item.item-iterator =
    sym (shown_none is_first) ∙ ap (shown_from is_first) (sym c.in-None.ensures.steps.0) in
    let all : before.0 ≡ relations_shown c.args.rule.now = sym (append-nil before.0) ∙ ap (λ text. before.0 ++ text) none ∙ before.1 in
    λ plain _. subst (λ bytes. HasWritten g.W.Write.write_str_gives c.args.f.now bytes c.loop-item.f) all (before.2 plain)
