use Rattle.std.proofs.Common.{◌≡◌, ◌∷◌, [], true, false, get_or, rules, sym, ◌∙◌}
use Rattle.plural_fallback.specs.LocaleNames.{is_same}
use Rattle.form_commands.proofs.SimilarLemmas.{begun_at, ended_at, passed_at, told_at}
use Rattle.form_commands.proofs.similar_keys.is_one_edit.Goals as goal

pub returns-in_default-others : goal.returns-in_default-others
returns-in_default-others c =
    sym (c.loop-ones.invariant ∙ ended_at c.loop-ones.ones.now c.loop-ones.others.now c.in_default-others.len_below)

pub returns-then-not-is_same : goal.returns-then-not-is_same
returns-then-not-is_same c =
    let ones = c.loop-ones.ones.now in
    let others = c.loop-ones.others.now in
    let differs : is_same (get_or ones 0 0 ∷ []) (get_or others 0 0 ∷ []) ≡ false = search rules in
    c.is_edited_here.ensures
    ∙ sym (c.loop-ones.invariant ∙ told_at ones others c.in-len1-up.len_at_least c.in-len1-up-others.len_at_least differs)

pub loop-ones-preserved : goal.loop-ones-preserved
loop-ones-preserved c =
    let ones = c.loop-ones.ones.now in
    let others = c.loop-ones.others.now in
    let same : is_same (get_or ones 0 0 ∷ []) (get_or others 0 0 ∷ []) ≡ true = search rules in
    c.loop-ones.invariant ∙ passed_at ones others c.in-len1-up.len_at_least c.in-len1-up-others.len_at_least same

pub returns : goal.returns
returns c = sym (c.loop-ones.invariant ∙ begun_at c.loop-ones.ones.now c.loop-ones.others.now c.in_default.len_below)
