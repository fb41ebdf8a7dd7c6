use Rattle.std.proofs.Common.{◌≡◌, ◌∷◌, ◌++◌, [], ℕ, List, ap, sym, ◌∙◌}
use Rattle.std.proofs.lemmas.Result.{IfOk-weaker}
use Rattle.form_commands.specs.Inner.SimilarSteps.{is_like, similar_key_list, told_in}
use Rattle.form_commands.specs.SimilarKeys.{first_three}
use Rattle.form_commands.specs.declared.similar_keys.SimilarKeys.{SimilarKeys}
use Rattle.form_commands.proofs.SimilarLemmas.{like_told, other_told}
use Rattle.form_commands.proofs.similar_keys.add_key.Goals as goal

pub returns-then-is_like : goal.returns-then-is_like
returns-then-is_like c =
    let key = c.args.key.now in
    let language = c.args.language.now in
    let like = ap (is_like c.args.likeness language) (sym c.as_bytes.ensures.value) ∙ sym c.is_like.ensures ∙ c.if-is_like.true in
    IfOk-weaker c.with_key.result (λ (similar : SimilarKeys). similar ≡ first_three (similar_key_list c.args.before ++ key ∷ []))
    (λ (similar : SimilarKeys). (more : List (List ℕ))
    → told_in c.args.likeness language c.args.before (key ∷ more) ≡ told_in c.args.likeness language similar more)
    (λ similar added more. like_told c.args.likeness language c.args.before similar key more like added) c.with_key.ensures

pub returns-else-is_like : goal.returns-else-is_like
returns-else-is_like c more =
    other_told c.args.likeness c.args.language.now c.args.before c.args.key.now more
    (ap (is_like c.args.likeness c.args.language.now) (sym c.as_bytes.ensures.value) ∙ sym c.is_like.ensures ∙ c.if-is_like.false)
