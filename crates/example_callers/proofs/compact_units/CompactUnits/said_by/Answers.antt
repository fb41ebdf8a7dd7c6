use Rattle.std.proofs.Common.{◌∙◌, ℕ, ap, refl, sym}
use Rattle.example_callers.specs.CompactUnits.{shown_of}
use Rattle.example_callers.proofs.Exponents.{cut_before}
use Rattle.example_callers.proofs.compact_units.CompactUnits.said_by.Goals as goal

pub returns-in-3-clause-shown : goal.returns-in-3-clause-shown
returns-in-3-clause-shown c =
    let number = c.args.number.now in
    cut_before number c.split_once.result _ c.unwrap_or.result c.split_once.ensures.cases refl c.unwrap_or.ensures
    ∙ sym (ap (λ (e : ℕ). shown_of e number) c.in-3.is)

pub returns-in-6-clause-shown : goal.returns-in-6-clause-shown
returns-in-6-clause-shown c =
    let number = c.args.number.now in
    cut_before number c.split_once.result _ c.unwrap_or.result c.split_once.ensures.cases refl c.unwrap_or.ensures
    ∙ sym (ap (λ (e : ℕ). shown_of e number) c.in-6.is)
