use Rattle.std.proofs.Common.{ℕ, List, subst}
use Rattle.number_lines.specs.NumberAnswers.{IsAnswerAt}
use Rattle.number_lines.specs.declared.printed.Place.{Place}
use Rattle.number_lines.proofs.stream.end_line.Goals as goal

pub returns : goal.returns
returns c =
    let e = c.in_ok-push_answer.ensures in
    let rules = c.args.rules.now in
    record {
      answer = e.0;
      answers = subst (λ (p : Place). IsAnswerAt rules p c.args.lines.now.line.items e.0) c.place.ensures
          (subst (λ (l : List ℕ). IsAnswerAt rules c.place.result l e.0) c.as_slice.ensures.value e.1);
      line = c.clear.ensures.items;
      place = c.next_place-lines.ensures;
      printed = e.2;
    }
