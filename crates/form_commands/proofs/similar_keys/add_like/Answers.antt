use Rattle.std.proofs.Common.{◌≡◌, sym, subst, ◌∙◌}
use Rattle.plural_fallback.specs.LocalesJson.{keys_of}
use Rattle.serde_json.specs.View.{members_view}
use Rattle.form_commands.specs.Inner.SimilarSteps.{told_in}
use Rattle.form_commands.proofs.SimilarLemmas.{all_told}
use Rattle.form_commands.proofs.similar_keys.add_like.Goals as goal

pub returns : goal.returns
returns c =
    let likeness = c.args.likeness in
    let language = c.args.language.now in
    let all = keys_of (members_view c.args.members.now.entries) in
    let similar = c.loop-key.similar in
    let told = subst (λ es. told_in likeness language c.args.before all ≡ told_in likeness language similar (keys_of (members_view es)))
    c.in-None.ensures.steps.0 c.loop-key.invariant in
    sym (told ∙ all_told similar)
