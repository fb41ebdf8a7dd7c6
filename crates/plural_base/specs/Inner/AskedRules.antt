-- Not a definition of the subject: the rules that are asked in some way, for a view.
use Rattle.plural_base.specs.FiveRules.{FiveRules}
use Rattle.plural_base.specs.declared.rules.asked.Way.{Way}
use Rattle.plural_base.specs.declared.rules.asked.Way.TheVariants.{ManyRanges, Ordered, Rules, Tables}

abbrev pub rules_asked : Way → FiveRules
rules_asked (Rules rules) = rules
rules_asked (ManyRanges rules) = rules
rules_asked (Tables tables) = tables
rules_asked (Ordered ordered) = ordered
