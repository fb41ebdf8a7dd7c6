use Rattle.std.proofs.Common.{subst}
use Rattle.number_lines.specs.NumberAnswers.{IsAnswerAt}
use Rattle.number_lines.specs.declared.printed.Place.{Place}
use Rattle.number_lines.proofs.stream.answer_line.Goals as goal

pub returns : goal.returns
returns c =
    let e = c.in_ok-push_answer.ensures in
    record {
      answer = e.0;
      answers = subst (λ (p : Place). IsAnswerAt c.args.rules.now p c.args.line.now e.0) c.place.ensures e.1;
      line = c.requires;
      place = c.next_place-lines.ensures;
      printed = e.2;
    }
