use Rattle.std.proofs.Common.{◌≡◌, List, [], ◌∷◌, ◌++◌, map, refl, rules, subst, sym}
use Rattle.std.proofs.lemmas.Map.Iter.{iter_end}
use Rattle.std.specs.Map.Iter.{deref}
use Rattle.plural_documents.specs.Inner.KeysStanding.{HasAdded}
use Rattle.plural_documents.specs.RepeatedKeys.{path_view}
use Rattle.plural_documents.specs.declared.repeated_key.RepeatedKey.{RepeatedKey}
use Rattle.plural_documents.proofs.KeyLemmas.{all_added, one_added, shown_at}
use Rattle.plural_documents.proofs.repeated_key.StandingKeys.push_again.Goals as goal

pub loop-key-preserved : goal.loop-key-preserved
loop-key-preserved c =
    let path = path_view c.args.path in
    subst (λ (items : List RepeatedKey). HasAdded c.args.found.now.items items
    (map (shown_at path) (c.loop-key.yielded ++ c.in-Some.key ∷ [])))
    (sym c.in_ok-push.ensures.items)
    (one_added path c.args.found.now.items c.loop-key.found.items _ c.loop-key.yielded c.in-Some.key c.loop-key.invariant refl)

pub returns : goal.returns
returns c keys are =
    let all : map deref c.loop-key.yielded ≡ c.args.self.now.again.keys = search (rules, iter_end) in
    all_added keys c.args.self.now (path_view c.args.path) c.args.found.now.items c.loop-key.found.items c.loop-key.yielded are
    c.iter-key-items.ensures.ordered all c.loop-key.invariant
