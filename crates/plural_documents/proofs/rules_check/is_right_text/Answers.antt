use Rattle.plural_documents.proofs.RightTokens.{name_right}
use Rattle.plural_documents.proofs.rules_check.is_right_text.Goals as goal

pub returns-in-Category : goal.returns-in-Category
returns-in-Category c =
    rw (c.in-Category.is, c.is_some.ensures) (name_right c.args.text.now c.get_for_cldr_string.result c.get_for_cldr_string.ensures)
