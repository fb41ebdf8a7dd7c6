use Rattle.std.proofs.Common.{◌≡◌, ◌≢◌, ◌<◌, ℕ, List, All, Contains, map, sym, subst, ap, ◌∙◌}
use Rattle.std.proofs.lemmas.Bool.Decides.{not_from_Decides}
use Rattle.std.proofs.lemmas.List.{get_or-map, length-map, take_all}
use Rattle.std.proofs.lemmas.List.Elements.{All-map, All-more}
use Rattle.std.proofs.lemmas.Slice.Eq.{bytes_eq-Decides}
use Rattle.plural_runtime.specs.PackedRelations.{PackedRelation}
use Rattle.plural_base.specs.declared.json.known_rules.KnownRule.{KnownRule}
use Rattle.plural_base.specs.Inner.JsonSteps.{kept_rule}
use Rattle.plural_base.proofs.json.known_rules.rule_among.Goals as goal

pub loop-known-preserved : goal.loop-known-preserved
loop-known-preserved c =
    let known = c.known-item.result in
    let Other = λ (k : KnownRule). k.text.now ≢ c.args.text.now in
    All-more Other c.args.entries.now c.loop-known.known-index known c.loop-known-test.true c.loop-known.invariant
    (subst Other c.known-item.is (not_from_Decides _ (bytes_eq-Decides known.text.now c.args.text.now) (sym c.eq.ensures ∙ c.if-eq.false)))

pub returns-then-eq-clause-kept : goal.returns-then-eq-clause-kept
returns-then-eq-clause-kept c =
    let known = c.known-item.result in
    let entries = c.args.entries.now in
    let at = c.loop-known.known-index in
    let same : known.text.now ≡ c.args.text.now =
    (bytes_eq-Decides known.text.now c.args.text.now).0 (sym c.eq.ensures ∙ c.if-eq.true) in
    let among : Contains (map kept_rule entries) (kept_rule known) = (
      at,
      subst (λ n. at < n) (sym (length-map entries kept_rule)) c.loop-known-test.true,
      get_or-map kept_rule entries at known (kept_rule known) c.loop-known-test.true ∙ ap kept_rule (sym c.known-item.is),
    ) in
    subst (λ (t : List ℕ). Contains (map kept_rule entries) (t, known.rule)) same among

pub returns-clause-none : goal.returns-clause-none
returns-clause-none c =
    let Other = λ (k : KnownRule). k.text.now ≢ c.args.text.now in
    let OtherEntry = λ (e : List ℕ × List PackedRelation). e.0 ≢ c.args.text.now in
    let entries = c.args.entries.now in
    let all : All Other entries =
    subst (λ (l : List KnownRule). All Other l) (take_all c.loop-known.known-index entries c.loop-known-test.false) c.loop-known.invariant in
    All-map OtherEntry kept_rule entries all
