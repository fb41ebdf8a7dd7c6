use Rattle.std.proofs.Common.{◌∙◌, List, ℕ, ap, sym}
use Rattle.std.specs.Borrow.{Bor}
use Rattle.icu_plurals.specs.declared.PluralCategory.{PluralCategory}
use Rattle.icu_plurals.specs.Elements.{of_category}
use Rattle.example_callers.proofs.range_labels.RangeLabels.noun.Goals as goal

pub returns-in-Zero : goal.returns-in-Zero
returns-in-Zero c =
    ap (λ (text : Bor (List ℕ)). text.now) c.zero.ensures
    ∙ sym (ap (λ (category : PluralCategory). (of_category c.args.self.now.nouns category).now) c.in-Zero.is)

pub returns-in-One : goal.returns-in-One
returns-in-One c =
    ap (λ (text : Bor (List ℕ)). text.now) c.one.ensures
    ∙ sym (ap (λ (category : PluralCategory). (of_category c.args.self.now.nouns category).now) c.in-One.is)

pub returns-in-Two : goal.returns-in-Two
returns-in-Two c =
    ap (λ (text : Bor (List ℕ)). text.now) c.two.ensures
    ∙ sym (ap (λ (category : PluralCategory). (of_category c.args.self.now.nouns category).now) c.in-Two.is)

pub returns-in-Few : goal.returns-in-Few
returns-in-Few c =
    ap (λ (text : Bor (List ℕ)). text.now) c.few.ensures
    ∙ sym (ap (λ (category : PluralCategory). (of_category c.args.self.now.nouns category).now) c.in-Few.is)

pub returns-in-Many : goal.returns-in-Many
returns-in-Many c =
    ap (λ (text : Bor (List ℕ)). text.now) c.many.ensures
    ∙ sym (ap (λ (category : PluralCategory). (of_category c.args.self.now.nouns category).now) c.in-Many.is)

pub returns-in-Other : goal.returns-in-Other
returns-in-Other c =
    ap (λ (text : Bor (List ℕ)). text.now) c.other.ensures
    ∙ sym (ap (λ (category : PluralCategory). (of_category c.args.self.now.nouns category).now) c.in-Other.is)
