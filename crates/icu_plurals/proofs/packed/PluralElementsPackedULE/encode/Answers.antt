use Rattle.std.proofs.Common.{refl, ◌≡◌, ◌≤◌, length, ap, subst, ◌∙◌, ◌↔◌, Some}
use Rattle.std.specs.Prelude.{map, Err}
use Rattle.std.proofs.lemmas.Result.{err_from_is_err_and}
use Rattle.plural_base.specs.declared.elements_pack_error.ElementsPackError.TheVariants.{DefaultLimit, StartLimit}
use Rattle.icu_plurals.specs.Elements.{Elements, each_by}
use Rattle.icu_plurals.specs.PackedElements.{pack_fault, PackedValue, IsPackedValue, ElementsBytes, item_bytes, packed_items, packed_of}
use Rattle.icu_plurals.specs.Inner.ElementsReading.{bytes_with_items}
use Rattle.icu_plurals.specs.Inner.ElementsViews.{lent_value, lent_bytes}
use Rattle.icu_plurals.proofs.Encoded.{answers_as, encoded, default_refused, start_refused, refused, not_refused}
use Rattle.icu_plurals.proofs.Encoded.{bytes_are_no_fault, memory_is_no_default_limit, memory_is_no_start_limit}
use Rattle.icu_plurals.proofs.packed.PluralElementsPackedULE.encode.Goals as goal
use Rattle.icu_plurals.proofs.packed.PluralElementsPackedULE.encode.Goals.{After-list_beside, In-Ok}

-- the values of the borrowed elements
abbrev values : After-list_beside → Elements PackedValue
values c = each_by lent_value c.args.elements.now

-- the default that is packed is other's value
default_is : (c : After-list_beside) → lent_value c.other-default.result.now ≡ (values c).other
default_is c = ap lent_value c.other-default.ensures

-- the borrowed items are the packed items of the elements
items_are : (c : After-list_beside) → lent_bytes c.as_slice-items.result.now ≡ map item_bytes (packed_items (values c))
items_are c = ap lent_bytes c.as_slice-items.ensures.value ∙ c.items_of-items.ensures.bytes

-- ---- the refusals

-- a default is refused as too long exactly if the elements have this fault
long : (c : After-list_beside) → (c.list_beside.result ≡ Err DefaultLimit) ↔ (pack_fault (packed_of (values c)) ≡ Some DefaultLimit)
long c =
    let told = default_refused (values c) (lent_value c.other-default.result.now) c.as_slice-items.result.now (default_is c)
    (items_are c) in
    ((λ h. told.0 (c.list_beside.ensures.default_limit.0 h)), (λ h. c.list_beside.ensures.default_limit.1 (told.1 h)))

-- a start is refused as too high exactly if the elements have this fault
high : (c : After-list_beside) → (c.list_beside.result ≡ Err StartLimit) ↔ (pack_fault (packed_of (values c)) ≡ Some StartLimit)
high c =
    let told = start_refused (values c) (lent_value c.other-default.result.now) c.as_slice-items.result.now (default_is c) (items_are c) in
    ((λ h. told.0 (c.list_beside.ensures.start_limit.0 h)), (λ h. c.list_beside.ensures.start_limit.1 (told.1 h)))

pub returns-in_err-list-clause-default_limit : goal.returns-in_err-list-clause-default_limit
returns-in_err-list-clause-default_limit c =
    let p = err_from_is_err_and c.from_residual.result c.from_residual.ensures.1 in
    refused c.in_err-list.was (p.1 ∙ ap Err p.2) (long (goal.at.returns-in_err-list-clause-default_limit c).After-list_beside)

pub returns-in_err-list-clause-start_limit : goal.returns-in_err-list-clause-start_limit
returns-in_err-list-clause-start_limit c =
    let p = err_from_is_err_and c.from_residual.result c.from_residual.ensures.1 in
    refused c.in_err-list.was (p.1 ∙ ap Err p.2) (high (goal.at.returns-in_err-list-clause-start_limit c).After-list_beside)

pub returns-in-Ok-clause-default_limit : goal.returns-in-Ok-clause-default_limit
returns-in-Ok-clause-default_limit c =
    not_refused c.in_ok-list.was (long (goal.at.returns-in-Ok-clause-default_limit c).After-list_beside) (bytes_are_no_fault _ _)

pub returns-in-Ok-clause-start_limit : goal.returns-in-Ok-clause-start_limit
returns-in-Ok-clause-start_limit c =
    not_refused c.in_ok-list.was (high (goal.at.returns-in-Ok-clause-start_limit c).After-list_beside) (bytes_are_no_fault _ _)

pub returns-in-Err-clause-default_limit : goal.returns-in-Err-clause-default_limit
returns-in-Err-clause-default_limit c =
    not_refused c.in_ok-list.was (long (goal.at.returns-in-Err-clause-default_limit c).After-list_beside) (memory_is_no_default_limit _ refl)

pub returns-in-Err-clause-start_limit : goal.returns-in-Err-clause-start_limit
returns-in-Err-clause-start_limit c =
    not_refused c.in_ok-list.was (high (goal.at.returns-in-Err-clause-start_limit c).After-list_beside) (memory_is_no_start_limit _ refl)

-- ---- the bytes

-- the bytes that are written encode the packed elements
is_encoded : (c : In-Ok) → ElementsBytes (packed_of (each_by lent_value c.args.elements.now)) c.in-Ok.bytes.items
is_encoded c =
    let e = each_by lent_value c.args.elements.now in
    let lent = c.as_slice-items.result.now in
    let other : lent_value c.other-default.result.now ≡ e.other = ap lent_value c.other-default.ensures in
    let same : lent_bytes lent ≡ map item_bytes (packed_items e) =
    ap lent_bytes c.as_slice-items.ensures.value ∙ c.items_of-items.ensures.bytes in
    let told = c.in-Ok.ensures in
    encoded e lent c.in-Ok.bytes.items same c.items_of-items.ensures.valid (subst IsPackedValue other told.valid)
    (λ some. subst (λ value. length value.text ≤ 255) other (c.in_ok-list.ensures.default some))
    c.in_ok-list.ensures.starts
    (told.bytes ∙ ap (λ value. bytes_with_items value (lent_bytes lent)) other)

pub returns-in-Ok-clause-ok : goal.returns-in-Ok-clause-ok
returns-in-Ok-clause-ok c = is_encoded (goal.at.returns-in-Ok-clause-ok c).In-Ok

pub returns-in-Ok-clause-answers : goal.returns-in-Ok-clause-answers
returns-in-Ok-clause-answers c =
    answers_as c.read_again.ensures (each_by lent_value c.args.elements.now) c.in-Ok.bytes.items
    (is_encoded (goal.at.returns-in-Ok-clause-answers c).In-Ok)
