use Rattle.std.proofs.Common.{◌≡◌, ◌-◌, ◌∷◌, ◌∙◌, ℕ, List, take, drop, length, get_or, arith, refl, sym, ap}
use Rattle.std.proofs.lemmas.List.{take_rest}
use Rattle.plural_operands.proofs.numbers.OperandTexts.{first_and_rest}
use Rattle.plural_reference.proofs.plain.PlainBytes.{run_more}
use Rattle.plural_reference.proofs.parser.samples.plain.behind_run.Goals as goal

pub digits-preserved : goal.digits-preserved
digits-preserved c =
    let rest : List ℕ = c.digits.rest.now in
    let parts : rest ≡ get_or rest 0 0 ∷ drop 1 rest = first_and_rest rest (get_or rest 0 0) (omega (arith, c.in-len1-up.len_at_least)) refl in
    let more : take (length rest - 1) (drop 1 rest) ≡ drop 1 rest = take_rest rest 1 in
    run_more c.args.text.now rest _ (get_or rest 0 0) c.digits.invariant (parts ∙ ap (λ l. get_or rest 0 0 ∷ l) (sym more))
    c.if-not-is_ascii_digit.ensures.cases
