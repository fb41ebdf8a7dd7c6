use Rattle.std.proofs.Common.{◌≡◌, ◌<◌, ◌++◌, ◌+◌, [], ℕ, List, length, refl, sym, ◌∙◌, ap, subst, append_assoc, arith}
use Rattle.std.proofs.lemmas.Bool.{eqb-true}
use Rattle.std.proofs.lemmas.List.{append-nil, length-append}
use Rattle.number_lines.specs.Inner.LineSteps.{IsAfterBytes}
use Rattle.number_lines.proofs.LineLemmas.{no_items}
use Rattle.number_lines.proofs.stream.take_bytes.Goals as goal

pub loop-rest-init : goal.loop-rest-init
loop-rest-init c = (
  [],
  refl,
  λ bytes text a. subst (λ (b : List ℕ). IsAfterBytes c.args.rules.now b text c.args.lines.now) (sym (append-nil bytes)) a,
)

pub loop-rest-preserved : goal.loop-rest-preserved
loop-rest-preserved c =
    let i = c.loop-rest.invariant in
    let t = c.in_ok-rest.ensures in (
      i.0 ++ t.front,
      i.1 ∙ ap (λ (l : List ℕ). i.0 ++ l) t.spelled ∙ sym (append_assoc i.0 t.front _),
      λ bytes text a.
          subst (λ (b : List ℕ). IsAfterBytes c.args.rules.now b text c.take_front.new.lines)
          (append_assoc bytes i.0 t.front) (t.takes (bytes ++ i.0) text (i.2 bytes text a)),
    )

pub returns : goal.returns
returns c =
    let i = c.loop-rest.invariant in
    let end = no_items c.loop-rest.rest.now (eqb-true (length c.loop-rest.rest.now) 0 (sym c.is_empty.ensures ∙ c.loop-rest-test.false)) in
    let all = i.1 ∙ ap (λ (l : List ℕ). i.0 ++ l) end ∙ append-nil i.0 in
    λ bytes text a. subst (λ (b : List ℕ). IsAfterBytes c.args.rules.now (bytes ++ b) text c.loop-rest.lines) (sym all) (i.2 bytes text a)
