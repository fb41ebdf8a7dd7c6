use Rattle.std.proofs.Common.{◌≡◌, [], ◌∙◌, codes, map, string_bytes}
use Rattle.std.proofs.lemmas.Result.{IfOk-weaker}
use Rattle.form_commands.specs.CExpressions.{and_text, comparison_text}
use Rattle.form_commands.specs.RuleConditions.{inside}
use Rattle.form_commands.proofs.c_condition.inside_text.Goals as goal

pub returns : goal.returns
returns c = λ modulus is.
    let pieces = map comparison_text (inside modulus c.args.range) in
    IfOk-weaker c.from_str.result (λ s. string_bytes s ≡ c.and_text.result.now) (λ s. string_bytes s ≡ and_text pieces)
    (λ s wrote. wrote ∙ c.and_text.ensures pieces (c.in_ok-push_inside.ensures modulus is [] (c.new-texts.ensures (codes " && "))))
    c.from_str.ensures.ok
