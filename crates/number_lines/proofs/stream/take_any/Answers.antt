use Rattle.std.proofs.Common.{◌≡◌, ◌<◌, ◌+◌, ◌++◌, ◌∷◌, [], ℕ, List, length, take, drop, get_or, sym, ◌∙◌, ap, append_assoc, arith, rules}
use Rattle.std.proofs.lemmas.Bool.{eqb-true}
use Rattle.std.proofs.lemmas.List.{length-append, take_rest}
use Rattle.number_lines.proofs.AfterLemmas.{after_more}
use Rattle.number_lines.proofs.LineLemmas.{at_byte, no_end_all, no_end_before}
use Rattle.number_lines.proofs.stream.take_any.Goals as goal

pub take_line-requires : goal.take_line-requires
take_line-requires c = no_end_before c.args.bytes.now c.in-Some.end (omega (arith, c.in-Some.ensures.0.high)) c.in-Some.ensures.0.before

pub returns-in_ok-take_line-in-Some : goal.returns-in_ok-take_line-in-Some
returns-in_ok-take_line-in-Some c =
    let bytes = c.args.bytes.now in
    let end = c.in-Some.end in
    let newline : get_or bytes end 0 ≡ 10 = eqb-true (get_or bytes end 0) 10 c.in-Some.ensures.1 in
    record {
      front = take end bytes ++ 10 ∷ [];
      spelled = at_byte bytes end 10 (omega (arith, c.in-Some.ensures.0.high)) newline
          ∙ sym (append_assoc (take end bytes) (10 ∷ []) (drop (end + 1) bytes))
          ∙ ap (λ (l : List ℕ). (take end bytes ++ 10 ∷ []) ++ l) (sym (take_rest bytes (end + 1)));
      some = omega (arith, length-append (take end bytes) (10 ∷ []));
      takes = c.in_ok-take_line-in-Some.ensures;
    }

pub returns-in_ok-keep-in-None : goal.returns-in_ok-keep-in-None
returns-in_ok-keep-in-None c =
    let bytes = c.args.bytes.now in
    record {
      front = bytes;
      spelled = search rules;
      some = c.requires;
      takes = λ seen text a.
          after_more c.args.rules.now seen text bytes c.args.lines.now c.keep.new.self
          (no_end_all bytes (λ i below e. c.in-None.ensures i (omega arith) below (search rules))) c.in_ok-keep-in-None.ensures a;
    }
