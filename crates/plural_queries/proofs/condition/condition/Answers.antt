use Rattle.std.proofs.Common.{ℕ, List, refl, subst}
use Rattle.icu_plurals.specs.Lexer.{AreTokensOf}
use Rattle.plural_queries.proofs.condition.condition.Goals as goal

pub returns-in-Ok : goal.returns-in-Ok
returns-in-Ok c =
    let tokens = c.one_list_of_tokens.ensures c.as_bytes.result.now in (
      tokens.0,
      subst (λ (text : List ℕ). AreTokensOf text tokens.0) c.as_bytes.ensures.value tokens.1,
      c.in-Ok.ensures.only tokens.0 tokens.1,
    )

pub returns-in-Err-Parse : goal.returns-in-Err-Parse
returns-in-Err-Parse c =
    let tokens = c.one_list_of_tokens.ensures c.as_bytes.result.now in (
      c.in-Err-Parse.fault,
      refl,
      (
        tokens.0,
        subst (λ (text : List ℕ). AreTokensOf text tokens.0) c.as_bytes.ensures.value tokens.1,
        rw c.in-Err-Parse.field-0-is at (c.in-Err-Parse.ensures.only tokens.0 tokens.1),
      ),
    )
