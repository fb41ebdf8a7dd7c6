use Rattle.std.proofs.Common.{◌≡◌, Some, is_some, sym, ap, ◌∙◌, true≢false}
use Rattle.std.specs.BTreeMap.{get_by_text}
use Rattle.std.proofs.lemmas.Map.Text.{btree_map_updates_text}
use Rattle.translation_files.proofs.PlaceLemmas.{after_message}
use Rattle.translation_files.proofs.places.Places.put.Goals as goal

pub returns-in-Some-clause-ok : goal.returns-in-Some-clause-ok
returns-in-Some-clause-ok c =
    let after = c.insert.new.self in
    let there : get_by_text c.args.self.now.locales c.args.locale.now ≡ Some c.in-Some.places.now = sym c.in-Some.ensures.value in
    let puts =
    btree_map_updates_text c.args.locale.now c.args.self.now.locales (c.get_mut.follows.lender after) (Some after)
    ((c.get_mut.follows.holds after).3 c.requires) in
    (after_message c.insert.result c.args.locale.now c.args.kind c.args.key.now c.args.lines c.args.self.now
    (record c.args.self.now { locales = c.get_mut.follows.lender after }) c.in-Some.places.now after there puts c.insert.ensures.ok
    c.insert.ensures.err).0

pub returns-in-Some-clause-err : goal.returns-in-Some-clause-err
returns-in-Some-clause-err c =
    let after = c.insert.new.self in
    let there : get_by_text c.args.self.now.locales c.args.locale.now ≡ Some c.in-Some.places.now = sym c.in-Some.ensures.value in
    let puts =
    btree_map_updates_text c.args.locale.now c.args.self.now.locales (c.get_mut.follows.lender after) (Some after)
    ((c.get_mut.follows.holds after).3 c.requires) in
    (after_message c.insert.result c.args.locale.now c.args.kind c.args.key.now c.args.lines c.args.self.now
    (record c.args.self.now { locales = c.get_mut.follows.lender after }) c.in-Some.places.now after there puts c.insert.ensures.ok
    c.insert.ensures.err).1

pub returns-in-None-clause-ok : goal.returns-in-None-clause-ok
returns-in-None-clause-ok c = absurd (true≢false (sym (ap is_some c.in-None.ensures.value ∙ c.requires)))
