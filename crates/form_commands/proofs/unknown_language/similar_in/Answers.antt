use Rattle.std.proofs.Common.{◌≡◌, ℕ, List, Option, ap, subst}
use Rattle.std.specs.Prelude.{IfOk}
use Rattle.plural_fallback.specs.LocalesJson.{keys_in_object}
use Rattle.serde_json.specs.Data.{Members}
use Rattle.form_commands.specs.SimilarKeys.{similar_keys}
use Rattle.form_commands.specs.declared.similar_keys.SimilarKeys.{SimilarKeys}
use Rattle.form_commands.proofs.unknown_language.similar_in.Goals as goal

pub returns-in-Some : goal.returns-in-Some
returns-in-Some c =
    subst (λ (keys : List (List ℕ)). IfOk c.similar_keys.result
    (λ (similar : SimilarKeys). similar ≡ similar_keys c.args.language.now keys))
    (ap keys_in_object c.in-Some.ensures) c.similar_keys.ensures

pub returns-in-None : goal.returns-in-None
returns-in-None c = ap (λ (members : Option Members). similar_keys c.args.language.now (keys_in_object members)) c.in-None.ensures
