use Rattle.std.proofs.Common.{◌≡◌, ◌++◌, ap, subst, ◌∙◌}
use Rattle.std.specs.Prelude.{IfOk, filter}
use Rattle.plural_fallback.specs.LocalesJson.{keys_of}
use Rattle.serde_json.specs.View.{members_view}
use Rattle.form_commands.specs.Inner.SimilarSteps.{similar_key_list}
use Rattle.form_commands.specs.SimilarKeys.{first_three, is_one_edit, is_only_alike}
use Rattle.form_commands.specs.declared.similar_keys.SimilarKeys.{SimilarKeys}
use Rattle.form_commands.proofs.SimilarLemmas.{three_of}
use Rattle.form_commands.proofs.similar_keys.similar_keys.Goals as goal

pub returns : goal.returns
returns c =
    let keys = keys_of (members_view c.args.members.now.entries) in
    let near = filter (is_one_edit c.args.language.now) keys in
    let alike = filter (is_only_alike c.args.language.now) keys in
    subst (λ (all : SimilarKeys). IfOk c.add_like-2.result (λ (similar : SimilarKeys). similar ≡ all))
    (ap (λ (similar : SimilarKeys). first_three (similar_key_list similar ++ alike)) c.in_ok-near.ensures ∙ three_of near alike)
    c.add_like-2.ensures
