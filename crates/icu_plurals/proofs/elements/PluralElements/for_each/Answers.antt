use Rattle.icu_plurals.proofs.elements.PluralElements.for_each.Goals as goal

pub returns : goal.returns
returns g c = (c.visit_all.new.f, c.visit_all.ensures)
