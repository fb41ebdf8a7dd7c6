use Rattle.std.proofs.Common.{◌≡◌, ◌∷◌, [], ℕ, List, refl, sym, subst, rules, arith}
use Rattle.std.proofs.lemmas.Grind.{common_steps}
use Rattle.number_lines.specs.NumberAnswers.{command_words_view, AreAnswersFrom, AreNumberAnswers}
use Rattle.number_lines.specs.PrintedTexts.{PrintedText, nothing_printed}
use Rattle.number_lines.specs.declared.printed.Place.TheVariants.{Number}
use Rattle.number_lines.proofs.PrintedLemmas.{answers_grown, empty_words, joined_nothing, start_answers}
use Rattle.number_lines.proofs.number.numbers_by.Goals as goal

pub loop-rest-init : goal.loop-rest-init
loop-rest-init c = λ left is more h.
    subst (λ (p : PrintedText). AreAnswersFrom Number c.args.rules.now 1 (command_words_view c.args.numbers.now) p)
    (start_answers c.new-printed.result more c.new-printed.ensures)
    (subst (λ (ws : List (List ℕ)). AreAnswersFrom Number c.args.rules.now 1 ws more) (sym is) h)

pub loop-rest-preserved : goal.loop-rest-preserved
loop-rest-preserved c = λ left is more h.
    let word = c.as_bytes.result.now in
    let e = c.in_ok-push_answer.ensures in
    let whole : command_words_view c.loop-rest.rest.now ≡ word ∷ left =
    first_of (search rules, grind (arith, common_steps, is, c.as_bytes.ensures.value)) in
    answers_grown Number c.args.rules.now c.loop-rest.place word left (command_words_view c.args.numbers.now) c.loop-rest.printed
    c.push_answer.new.printed e.0 (c.loop-rest.invariant (word ∷ left) whole) e.1 e.2 more
    (subst (λ (n : ℕ). AreAnswersFrom Number c.args.rules.now n left more) c.next_place-place.ensures h)

pub returns : goal.returns
returns c =
    subst (λ (p : PrintedText). AreNumberAnswers c.args.rules.now (command_words_view c.args.numbers.now) p) (joined_nothing c.loop-rest.printed)
    (c.loop-rest.invariant [] (empty_words c.loop-rest.rest.now c.in_default.len_below) nothing_printed refl)
