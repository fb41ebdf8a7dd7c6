use Rattle.std.proofs.lemmas.Bool.Decides.{Decides-eqb}
use Rattle.std.proofs.lemmas.Slice.Eq.{slice_eq-Decides}
use Rattle.plural_runtime.proofs.rule.RulePartialEq.eq.Goals as goal

pub returns-clause-equal : goal.returns-clause-equal
returns-clause-equal c =
    let same = slice_eq-Decides Decides-eqb _ _ c.eq.result c.eq.ensures in
    let one =
    c.one_encoding.ensures c.args.self.now c.args.other.now c.as_bytes.result.now c.as_bytes-2.result.now c.as_bytes.ensures
    c.as_bytes-2.ensures in
    ((λ h. one.0 (same.0 h)), (λ h. same.1 (one.1 h)))
