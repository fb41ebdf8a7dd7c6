use Rattle.std.proofs.Common.{◌≡◌, ◌∙◌, ◌++◌, ℕ, List, ap, append_assoc, string_bytes, subst, sym}
use Rattle.std.specs.Prelude.{codes}
use Rattle.std.proofs.lemmas.Result.{IfOk-weaker}
use Rattle.icu_plurals.specs.declared.PluralCategory.{PluralCategory}
use Rattle.icu_plurals.specs.DecimalChoice.{IsExactChoice, IsKeptChoice}
use Rattle.icu_plurals.specs.Elements.{of_category}
use Rattle.icu_plurals.specs.FiveRules.{FiveRules}
use Rattle.example_callers.specs.RangeLabels.{IsCategoryBy, noun_for}
use Rattle.example_callers.proofs.range_labels.RangeLabels.label.Goals as goal

-- the pieces of a label, grouped from the left or from the right
regrouped : (start to end space noun : List ℕ) → start ++ (to ++ (end ++ (space ++ noun))) ≡ (((start ++ to) ++ end) ++ space) ++ noun
regrouped start to end space noun = sym (simp append_assoc)

-- the label, with an equal noun in place of its own
with_noun : (start to end space noun other label : List ℕ) → label ≡ start ++ (to ++ (end ++ (space ++ noun))) → noun ≡ other
    → label ≡ (((start ++ to) ++ end) ++ space) ++ other
with_noun start to end space noun other label is same =
    is ∙ regrouped start to end space noun ∙ ap (λ (n : List ℕ). (((start ++ to) ++ end) ++ space) ++ n) same

pub returns-clause-kept : goal.returns-clause-kept
returns-clause-kept c =
    let labels = c.args.self.now in
    let start = c.args.start in
    let end = c.args.end in
    let first = c.category_for_compact-first in
    let last = c.category_for_compact-last in
    let noun : c.noun-noun.result.now ≡ noun_for labels first.result last.result =
    c.noun-noun.ensures ∙ ap (λ (category : PluralCategory). (of_category labels.nouns category).now) c.resolve_range.ensures in
    IfOk-weaker c.format.result
    (λ label. string_bytes label ≡ start.text.now ++ (codes " to " ++ (end.text.now ++ (codes " " ++ c.noun-noun.result.now)))) _
    (λ label is. (
      first.result,
      last.result,
      subst (λ (rules : FiveRules). IsCategoryBy IsKeptChoice rules start first.result) c.rules-rules.ensures first.ensures.kept,
      subst (λ (rules : FiveRules). IsCategoryBy IsKeptChoice rules end last.result) c.rules-rules.ensures last.ensures.kept,
      with_noun start.text.now (codes " to ") end.text.now (codes " ") c.noun-noun.result.now
          (noun_for labels first.result last.result) (string_bytes label) is noun,
    ))
    c.format.ensures.ok

pub returns-clause-exact : goal.returns-clause-exact
returns-clause-exact c =
    let labels = c.args.self.now in
    let start = c.args.start in
    let end = c.args.end in
    let first = c.category_for_compact-first in
    let last = c.category_for_compact-last in
    let noun : c.noun-noun.result.now ≡ noun_for labels first.result last.result =
    c.noun-noun.ensures ∙ ap (λ (category : PluralCategory). (of_category labels.nouns category).now) c.resolve_range.ensures in
    IfOk-weaker c.format.result
    (λ label. string_bytes label ≡ start.text.now ++ (codes " to " ++ (end.text.now ++ (codes " " ++ c.noun-noun.result.now)))) _
    (λ label is. (
      first.result,
      last.result,
      subst (λ (rules : FiveRules). IsCategoryBy IsExactChoice rules start first.result) c.rules-rules.ensures first.ensures.exact,
      subst (λ (rules : FiveRules). IsCategoryBy IsExactChoice rules end last.result) c.rules-rules.ensures last.ensures.exact,
      with_noun start.text.now (codes " to ") end.text.now (codes " ") c.noun-noun.result.now
          (noun_for labels first.result last.result) (string_bytes label) is noun,
    ))
    c.format.ensures.ok
