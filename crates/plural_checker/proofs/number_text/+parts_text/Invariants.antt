use Rattle.plural_checker.proofs.number_text.+parts_text.Given as goal

abbrev pub decreases-parts_text : goal.decreases-parts_text
decreases-parts_text l = l.places
