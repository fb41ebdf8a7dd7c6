use Rattle.std.proofs.Common.{◌≡◌, ◌++◌, codes, string_bytes, sym, ◌∙◌, append_assoc}
use Rattle.std.specs.Fmt.{decimal}
use Rattle.std.proofs.lemmas.Result.{IfOk-weaker}
use Rattle.form_commands.specs.FormLines.{wholes_text}
use Rattle.form_commands.proofs.list.wholes_text.Goals as goal

pub returns-in-Some-Some : goal.returns-in-Some-Some
returns-in-Some-Some c =
    let first = decimal c.in-Some-Some.first in
    let second = decimal c.in-Some-Some.second in
    IfOk-weaker c.format.result (λ s. string_bytes s ≡ first ++ (codes ", also " ++ second))
    (λ s. string_bytes s ≡ wholes_text c.args.first c.args.second)
    (λ s wrote. rw (c.in-Some-Some.is-0, c.in-Some-Some.is-1) (wrote ∙ sym (append_assoc first (codes ", also ") second)))
    c.format.ensures.ok
