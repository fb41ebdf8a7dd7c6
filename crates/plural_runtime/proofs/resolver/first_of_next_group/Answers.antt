use Rattle.std.proofs.Common.{◌∙◌, ap, refl, sym}
use Rattle.plural_runtime.specs.Inner.RuleReading.{relation_in}
use Rattle.plural_runtime.proofs.walks.WalkSteps.{relations_behind, skips_one}
use Rattle.plural_runtime.proofs.resolver.first_of_next_group.Goals as goal

pub loop-cursor-preserved : goal.loop-cursor-preserved
loop-cursor-preserved c =
    let first = c.loop-cursor-test.ensures.moved refl in
    let item = c.advance.new.self.item in
    let rest = c.advance.new.self.rest in
    let mark = ap (λ item. (relation_in item).and_or) (sym c.item.ensures) ∙ sym c.and_or_at.ensures ∙ c.in-And.is in
    let parts = relations_behind c.loop-cursor.cursor.rest item rest first c.loop-cursor.invariant.items in
    record {
      items = parts.1;
      skipped = skips_one _ _ _ _ c.loop-cursor.invariant.skipped first mark;
    }
