use Rattle.std.proofs.Common.{◌≡◌, ℕ, List, None, OnOk, is_some, false, sym, subst, ◌∙◌, string_bytes}
use Rattle.std.specs.BTreeMap.{get_by_text}
use Rattle.translation_files.specs.Inner.PlaceSteps.{PutsText}
use Rattle.translation_files.proofs.PlaceLemmas.{absent, after_locale}
use Rattle.translation_files.proofs.places.Places.add_locale.Goals as goal

pub returns-clause-keeps : goal.returns-clause-keeps
returns-clause-keeps c =
    let old = c.args.self.now in
    let new = record old { locales = c.insert.new.places } in
    let puts = subst (λ (name : List ℕ). OnOk c.insert.result (PutsText name c.new.result old.locales c.insert.new.places))
    c.in_ok-name.ensures.ok c.insert.ensures.ok in
    (after_locale c.insert.result c.args.locale.now old new c.new.result
    (absent (get_by_text old.locales c.args.locale.now) (sym c.contains_key.ensures ∙ c.if-contains_key.false)) c.new.ensures puts
    c.insert.ensures.err).0

pub returns-clause-there : goal.returns-clause-there
returns-clause-there c =
    let old = c.args.self.now in
    let new = record old { locales = c.insert.new.places } in
    let puts = subst (λ (name : List ℕ). OnOk c.insert.result (PutsText name c.new.result old.locales c.insert.new.places))
    c.in_ok-name.ensures.ok c.insert.ensures.ok in
    (after_locale c.insert.result c.args.locale.now old new c.new.result
    (absent (get_by_text old.locales c.args.locale.now) (sym c.contains_key.ensures ∙ c.if-contains_key.false)) c.new.ensures puts
    c.insert.ensures.err).1
