use Rattle.std.proofs.Common.{List, map, sym, ap, subst, ◌∙◌}
use Rattle.std.specs.List.{list_all}
use Rattle.json.specs.Token.{Token}
use Rattle.document_tokens.specs.Inner.HeldParts.{fits}
use Rattle.document_tokens.specs.HeldTokens.{held_token}
use Rattle.document_tokens.specs.TextTokens.{given_names, is_held_name}
use Rattle.document_tokens.specs.Inner.OpenBrackets.{IsAfter}
use Rattle.document_tokens.proofs.HeldPartLemmas.{all_held}
use Rattle.document_tokens.proofs.read_tokens.read_tokens.Goals as goal

pub returns-then-is_end-clause-ok : goal.returns-then-is_end-clause-ok
returns-then-is_end-clause-ok c =
    let l = c.loop-token in
    let none = c.in_default.ensures.value.0 in (
      l.invariant.4 (subst (λ (ts : List Token). IsAfter l.place ts) (sym none) c.if-is_end.ensures),
      l.invariant.1 ∙ ap (list_all fits) none,
      all_held (is_held_name (given_names c.args.names)) c.args.reader.now l.reader
          (map held_token l.tokens.items) _ l.is_held none l.invariant.0,
    )
