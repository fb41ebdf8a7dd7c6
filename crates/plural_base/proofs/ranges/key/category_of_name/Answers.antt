use Rattle.std.proofs.Common.{◌≡◌, Some, None, sym, ap, ◌∙◌}
use Rattle.plural_base.specs.Categories.{category_of, raw_category_of}
use Rattle.plural_base.proofs.pairs.RangeNames.{category_named_none, named_category, same_name}
use Rattle.plural_base.proofs.ranges.key.category_of_name.Goals as goal

pub returns-in_err-get_for_cldr_string : goal.returns-in_err-get_for_cldr_string
returns-in_err-get_for_cldr_string c =
    let gone : c.get_for_cldr_string.result ≡ None = c.in_err-get_for_cldr_string.was in
    c.from_residual.ensures
    ∙ sym (category_named_none c.args.name.now (λ raw is. let found = (c.get_for_cldr_string.ensures (category_of raw)).1 is in cc))

pub returns : goal.returns
returns c =
    let found : c.get_for_cldr_string.result ≡ Some c.in_ok-get_for_cldr_string.field-0 = c.in_ok-get_for_cldr_string.was in
    let is = (c.get_for_cldr_string.ensures c.in_ok-get_for_cldr_string.field-0).0 found in
    ap Some c.from.ensures
    ∙ named_category c.args.name.now (raw_category_of c.in_ok-get_for_cldr_string.field-0)
    (is ∙ sym (same_name c.in_ok-get_for_cldr_string.field-0))
