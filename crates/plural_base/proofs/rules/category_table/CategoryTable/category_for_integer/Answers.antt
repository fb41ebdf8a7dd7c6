use Rattle.plural_base.proofs.tables.Entries.{table_category}
use Rattle.plural_base.proofs.rules.category_table.CategoryTable.category_for_integer.Goals as goal

pub returns-clause-category : goal.returns-clause-category
returns-clause-category c = λ rules of. table_category rules c.args.self.now c.args.number c.told.result c.told.ensures of
