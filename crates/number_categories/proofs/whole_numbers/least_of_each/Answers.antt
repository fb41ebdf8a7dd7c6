use Rattle.std.proofs.Common.{true}
use Rattle.number_categories.proofs.Soughts.{found_of_each}
use Rattle.number_categories.proofs.whole_numbers.least_of_each.Goals as goal

pub returns : goal.returns
returns c = record {
  at = found_of_each c.args.rules.now c.of_each.result c.find.result c.of_each.ensures.sought c.find.ensures c.args.start true
      c.of_each.ensures.start c.of_each.ensures.first_alone;
}
