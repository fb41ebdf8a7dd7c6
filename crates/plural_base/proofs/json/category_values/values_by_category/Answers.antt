use Rattle.std.proofs.Common.{ℕ, List, Option, sym, ap, ◌∙◌, string_bytes}
use Rattle.std.specs.Prelude.{bytes_eq}
use Rattle.plural_base.specs.declared.category.raw.RawPluralCategory.{RawPluralCategory}
use Rattle.plural_base.specs.Categories.{raw_name_of}
use Rattle.plural_base.specs.Inner.CategoryValues.{if_named, kept_or, lent_at}
use Rattle.serde_json.specs.Data.{Data, Members}
use Rattle.serde_json.specs.Find.{get_member}
use Rattle.serde_json.specs.View.{view, members_view}
use Rattle.plural_base.proofs.reading.ValuesRead.{five_found, kept_alone, next_value, none_lent}
use Rattle.plural_base.proofs.json.category_values.values_by_category.Goals as goal

pub loop-name-init : goal.loop-name-init
loop-name-init c =
    let whole = ap members_view (c.into_iter-name-iterator.ensures.into_iter_gives ∙ c.iter-name-items.ensures.rest) in
    λ category.
    ap (λ (found : Option Data). kept_or found (get_member (raw_name_of category) (members_view c.into_iter-name-iterator.result)))
    (none_lent _ c.all-values.ensures category)
    ∙ ap (λ (ms : Members). get_member (raw_name_of category) ms) whole

pub loop-name-preserved : goal.loop-name-preserved
loop-name-preserved c =
    let name = string_bytes c.in-Some.name.now in
    let value = view c.in-Some.value.now in
    let values = c.loop-name.values in
    let step = ap members_view c.in-Some.ensures.steps in
    λ category.
    next_value (raw_name_of category) name value (members_view c.next.new.self) (lent_at values category) (lent_at c.put_named.new.values category) _
    (c.put_named.ensures category
    ∙ ap (λ (k : List ℕ). kept_or (lent_at values category) (if_named (bytes_eq (raw_name_of category) k) value)) c.as_str.ensures.value)
    (ap (λ (ms : Members). kept_or (lent_at values category) (get_member (raw_name_of category) ms)) (sym step)
    ∙ c.loop-name.invariant category)

pub returns : goal.returns
returns c =
    let none = ap members_view c.in-None.ensures.steps.0 in
    five_found c.loop-name.values (members_view c.args.members.now.entries)
    (λ (category : RawPluralCategory).
    sym (kept_alone (lent_at c.loop-name.values category))
    ∙ ap (λ (ms : Members). kept_or (lent_at c.loop-name.values category) (get_member (raw_name_of category) ms)) (sym none)
    ∙ c.loop-name.invariant category)
