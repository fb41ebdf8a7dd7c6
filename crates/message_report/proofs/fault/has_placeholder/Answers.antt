use Rattle.std.proofs.Common.{[], codes, drop, refl}
use Rattle.std.proofs.lemmas.Bool.Decides.{Decides-eqb}
use Rattle.std.proofs.lemmas.Slice.Eq.{starts_is}
use Rattle.std.proofs.lemmas.Str.Pattern.{contains_text, starts_text}
use Rattle.message_report.proofs.fault.has_placeholder.Goals as goal

pub returns-then-starts_with : goal.returns-then-starts_with
returns-then-starts_with c =
    let text = c.args.text.now in
    let front =
    starts_is Decides-eqb text (codes "{}") c.starts_with.result
    (starts_text c.starts_with.result (codes "{}") text c.starts_with.ensures.cases) in
    ((λ yes. ([], drop 2 text, front.0 c.if-starts_with.true)), λ sub. refl)

pub returns : goal.returns
returns c = contains_text c.contains.result (codes "{}") c.args.text.now c.contains.ensures.cases
