use Rattle.std.proofs.Common.{◌≡◌, ◌∙◌, ℕ, List, ◌∷◌, ap, sym, subst, bytes_eq, true, rules}
use Rattle.std.proofs.lemmas.Slice.Eq.{bytes_eq-Decides}
use Rattle.plural_reference.specs.Lexer.{AreTokensOf}
use Rattle.token_comparison.proofs.SpacedTexts.{behind_space}
use Rattle.token_comparison.proofs.same_tokens.is_behind_spaces.Goals as goal

pub spaces-preserved : goal.spaces-preserved
spaces-preserved c tokens are =
    let whole : c.spaces.rest.now ≡ 32 ∷ c.in-Some.after.now =
    c.in-Some.ensures.cases.0 ∙ ap (λ (b : ℕ). b ∷ c.in-Some.after.now) c.if-first-ne32.false in
    let P : List ℕ → Type 0 = λ s. AreTokensOf s tokens in
    c.spaces.invariant tokens (subst P (sym whole) (behind_space c.in-Some.after.now tokens are))

pub returns : goal.returns
returns c holds tokens are =
    let equal : bytes_eq c.spaces.rest.now c.as_bytes.result.now ≡ true = search rules in
    let same : c.spaces.rest.now ≡ c.args.other.now =
    (bytes_eq-Decides c.spaces.rest.now c.as_bytes.result.now).0 equal ∙ c.as_bytes.ensures.value in
    let P : List ℕ → Type 0 = λ s. AreTokensOf s tokens in
    subst P c.as_bytes-rest.ensures.value (c.spaces.invariant tokens (subst P (sym same) are))
