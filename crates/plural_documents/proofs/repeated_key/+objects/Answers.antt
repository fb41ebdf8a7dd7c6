use Rattle.std.proofs.Common.{◌≡◌, ℕ, suc, ◌≤◌, ◌∷◌, List, length, Option, option_map, sym, ap, subst, ◌∙◌, arith}
use Rattle.document_tokens.specs.HeldTokens.{Held, held_token}
use Rattle.plural_documents.specs.RepeatedKeys.{Path, path_view}
use Rattle.plural_documents.proofs.KeyWalks.{AddsOfValue, Goes, goes_on, goes_to_end, never_cut, object_added}
use Rattle.plural_documents.proofs.OutlinedLemmas.{on_success}
use Rattle.plural_documents.proofs.WalkLemmas.{no_key}
use Rattle.plural_documents.proofs.repeated_key.+objects.Goals as goal
use Rattle.plural_documents.proofs.repeated_key.+objects.Goals.{add_object-in-Some+in_default-first, add_object-in_default}

one_shorter : (n m k most : ℕ) → n ≤ m → k ≡ suc m → k ≤ most → n ≤ most
one_shorter n m k most less more within = omega arith

pub add_object-loop-first-preserved : goal.add_object-loop-first-preserved
add_object-loop-first-preserved t c =
    let path = path_view c.args.path in
    let old = c.args.found.now.items in
    let now = c.loop-first.found.items in
    let new = c.add_value.new.found.items in (
      (λ members rest is. goes_on path members rest old now new c.loop-first.keys c.add.new.self c.in-Key.key.now c.next.new.self
          c.add_value.new.left
          (subst (λ (ts : List Held). Goes path members rest ts old now c.loop-first.keys)
          (c.in-Some.ensures ∙ ap (λ u. held_token u ∷ c.next.new.self) c.in-Key.is) (c.loop-first.invariant.0 members rest is))
          c.in_ok-add.ensures
          (subst (λ (p : Option Path). AddsOfValue p c.next.new.self now new c.add_value.new.left) c.below.ensures
          c.in_ok-add_value.ensures.found)),
      one_shorter (length c.add_value.new.left) (length c.next.new.self) (length c.loop-first.left) (length c.args.left.now)
          c.in_ok-add_value.ensures.shorter (ap length c.in-Some.ensures) c.loop-first.invariant.1,
    )

pub add_object-returns-clause-found : goal.add_object-returns-clause-found
add_object-returns-clause-found t c =
    let path = path_view c.args.path in
    let old = c.args.found.now.items in
    let now = c.loop-first.found.items in
    let new = c.push_again.new.found.items in
    let keys = c.loop-first.keys in
    on_success c.push_again.result
    (λ again members rest is.
    let goes = c.loop-first.invariant.0 members rest is in
    elim c.match-next.branch [
      | add_object-in-Some+in_default-first w ↦
          goes_to_end path members rest old now new keys keys (held_token w.in-Some.first) c.next.new.self
          (no_key w.in-Some.first w.in_default-first.not-Key)
          (subst (λ (ts : List Held). Goes path members rest ts old now keys) w.in-Some.ensures goes) again
      | add_object-in_default w ↦
          absurd (never_cut path members rest old now keys
          (subst (λ (ts : List Held). Goes path members rest ts old now keys) w.in_default.ensures.0 goes))
    ])
    c.push_again.ensures

pub add_value-returns-in-Some-object_path-clause-found : goal.add_value-returns-in-Some-object_path-clause-found
add_value-returns-in-Some-object_path-clause-found t c =
    let path = option_map path_view c.args.path in
    let old = c.args.found.now.items in
    let new = c.add_object.new.found.items in
    let left = c.add_object.new.left in
    on_success c.add_object.result
    (λ adds. subst (λ (ts : List Held). AddsOfValue path ts old new left) (sym c.in-Some.ensures)
    (object_added path (path_view c.in-Some-object_path.path) (held_token c.in-Some.first) c.next.new.self left old new
    (sym c.in-Some-object_path.ensures) adds))
    c.add_object.ensures.found
