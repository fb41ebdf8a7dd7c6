use Rattle.std.proofs.Common.{◌≡◌, ◌∙◌, ◌++◌, Option, refl, ap, inl, inr}
use Rattle.std.proofs.lemmas.Result.{err_from_is_err_and}
use Rattle.message_pattern.specs.PatternParts.{offset_view}
use Rattle.message_format.specs.FormatArguments.{Value}
use Rattle.message_format.specs.FormatParts.{branches_at}
use Rattle.message_format.specs.FormatSteps.{Step, Stops, Chooses, both, shown_value, IsChoice}
use Rattle.message_format.specs.Inner.FormatViews.{any_value, shown_view}
use Rattle.message_format.proofs.Less.{fault_gives}
use Rattle.message_format.proofs.Walk.{PartIs, does, begins, at_end, at_stop, at_text, at_branch, at_fault, begun, rest_fewer, branch_fewer}
use Rattle.message_format.proofs.saying.step_of.Goals as goal

pub returns-in_default-clause-said : goal.returns-in_default-clause-said
returns-in_default-clause-said g c before h = (
  h,
  at_end (g.A.Arguments.arguments c.args.arguments.now)
      (both (g.R.TextRules.rules c.args.cardinal.now) (g.R.TextRules.rules c.args.ordinal.now)) c.args.hash.now before
      (g.P.MessageParts.parts c.args.parts) c.in_default.ensures,
)

pub returns-in_err-text-in-Argument-clause-said : goal.returns-in_err-text-in-Argument-clause-said
returns-in_err-text-in-Argument-clause-said g c before h =
    let A = g.A.Arguments.arguments c.args.arguments.now in
    let R = both (g.R.TextRules.rules c.args.cardinal.now) (g.R.TextRules.rules c.args.ordinal.now) in
    let part = c.in-Some.found.0 in
    let rest = g.P.MessageParts.parts c.in-Some.found.1 in
    let name = c.in-Argument.name.now in
    let f = c.in_err-text-in-Argument.field-0.0 in
    let p = err_from_is_err_and c.from_residual-in_err-text-in-Argument.result c.from_residual-in_err-text-in-Argument.ensures.1 in
    rw (p.1, p.2)
    (at_fault A R c.args.hash.now before (g.P.MessageParts.parts c.args.parts) part rest f c.in-Some.ensures
    (fault_gives f (λ (s : Step). s ≡ shown_value name (any_value c.value.result)) (PartIs A R c.args.hash.now part rest)
    (λ s k. does A R c.args.hash.now part rest _ s c.in-Argument.is (k ∙ ap (λ (v : Option Value). shown_value name v) c.value.ensures))
    c.in_err-text-in-Argument.ensures.text))

pub returns-in_err-shown-in-Begin-clause-said : goal.returns-in_err-shown-in-Begin-clause-said
returns-in_err-shown-in-Begin-clause-said g c before h =
    let A = g.A.Arguments.arguments c.args.arguments.now in
    let R = both (g.R.TextRules.rules c.args.cardinal.now) (g.R.TextRules.rules c.args.ordinal.now) in
    let ps = g.P.MessageParts.parts c.args.parts in
    let part = c.in-Some.found.0 in
    let rest = g.P.MessageParts.parts c.in-Some.found.1 in
    let b = c.in-Begin in
    let f = c.in_err-shown-in-Begin.field-0.0 in
    let p = err_from_is_err_and c.from_residual-in_err-shown-in-Begin.result c.from_residual-in_err-shown-in-Begin.ensures.1 in
    rw (p.1, p.2)
    (at_fault A R c.args.hash.now before ps part rest f c.in-Some.ensures
    (fault_gives f
    (λ (s : Step). IsChoice R c.args.hash.now b.kind b.name.now (offset_view b.offset) (branches_at ps) (any_value c.value-value.result) s)
    (PartIs A R c.args.hash.now part rest)
    (λ s k. begins A R c.args.hash.now ps part rest b.kind b.name b.offset _ s c.in-Some.ensures b.is c.value-value.ensures k)
    c.in_err-shown-in-Begin.ensures.step))

pub returns-in_ok-add-in-Text-clause-said : goal.returns-in_ok-add-in-Text-clause-said
returns-in_ok-add-in-Text-clause-said g c before h =
    let A = g.A.Arguments.arguments c.args.arguments.now in
    let R = both (g.R.TextRules.rules c.args.cardinal.now) (g.R.TextRules.rules c.args.ordinal.now) in (
      before ++ c.in-Text.text.now,
      c.in_ok-add-in-Text.ensures before h,
      at_text A R c.args.hash.now before c.in-Text.text.now (before ++ c.in-Text.text.now) (g.P.MessageParts.parts c.args.parts)
          c.in-Some.found.0 _ c.in-Some.ensures
          (does A R c.args.hash.now c.in-Some.found.0 _ _ _ c.in-Text.is refl) refl,
    )

pub returns-in_ok-add-in-Hash-clause-said : goal.returns-in_ok-add-in-Hash-clause-said
returns-in_ok-add-in-Hash-clause-said g c before h =
    let A = g.A.Arguments.arguments c.args.arguments.now in
    let R = both (g.R.TextRules.rules c.args.cardinal.now) (g.R.TextRules.rules c.args.ordinal.now) in (
      before ++ c.args.hash.now,
      c.in_ok-add-in-Hash.ensures before h,
      at_text A R c.args.hash.now before c.args.hash.now (before ++ c.args.hash.now) (g.P.MessageParts.parts c.args.parts) c.in-Some.found.0
          _ c.in-Some.ensures
          (does A R c.args.hash.now c.in-Some.found.0 _ _ _ c.in-Hash.is refl) refl,
    )

pub returns-in_ok-add-in-Argument-clause-said : goal.returns-in_ok-add-in-Argument-clause-said
returns-in_ok-add-in-Argument-clause-said g c before h =
    let A = g.A.Arguments.arguments c.args.arguments.now in
    let R = both (g.R.TextRules.rules c.args.cardinal.now) (g.R.TextRules.rules c.args.ordinal.now) in
    let text = c.in_ok-text-in-Argument.text.now in (
      before ++ text,
      c.in_ok-add-in-Argument.ensures before h,
      at_text A R c.args.hash.now before text (before ++ text) (g.P.MessageParts.parts c.args.parts) c.in-Some.found.0 _ c.in-Some.ensures
          (does A R c.args.hash.now c.in-Some.found.0 _ _ _ c.in-Argument.is
          (c.in_ok-text-in-Argument.ensures.text ∙ ap (λ (v : Option Value). shown_value c.in-Argument.name.now v) c.value.ensures)) refl,
    )

pub returns-in_ok-shown-in-Begin-clause-said : goal.returns-in_ok-shown-in-Begin-clause-said
returns-in_ok-shown-in-Begin-clause-said g c before h =
    let A = g.A.Arguments.arguments c.args.arguments.now in
    let R = both (g.R.TextRules.rules c.args.cardinal.now) (g.R.TextRules.rules c.args.ordinal.now) in
    let ps = g.P.MessageParts.parts c.args.parts in
    let part = c.in-Some.found.0 in
    let rest = g.P.MessageParts.parts c.in-Some.found.1 in
    let b = c.in-Begin in
    let chosen = c.in_ok-shown-in-Begin in
    let branch = g.P.MessageParts.parts chosen.taken.branch in (
      before,
      h,
      at_branch A R c.args.hash.now (shown_view chosen.shown) before ps part rest branch (g.P.MessageParts.parts c.behind-rest.result)
          c.in-Some.ensures
          (begins A R c.args.hash.now ps part rest b.kind b.name b.offset _ (Chooses (shown_view chosen.shown) branch) c.in-Some.ensures
          b.is c.value-value.ensures chosen.ensures.step)
          c.behind-rest.ensures.end,
    )

pub returns-in-Branch-clause-said : goal.returns-in-Branch-clause-said
returns-in-Branch-clause-said g c before h =
    let A = g.A.Arguments.arguments c.args.arguments.now in
    let R = both (g.R.TextRules.rules c.args.cardinal.now) (g.R.TextRules.rules c.args.ordinal.now) in
    let part = c.in-Some.found.0 in
    let rest = g.P.MessageParts.parts c.in-Some.found.1 in (
      h,
      at_stop A R c.args.hash.now before (g.P.MessageParts.parts c.args.parts) part rest c.in-Some.ensures
          (elim c.in-Branch.is [
            | inl is ↦ does A R c.args.hash.now part rest _ Stops is.1 refl
            | inr is ↦ does A R c.args.hash.now part rest _ Stops is refl
          ]),
    )

pub returns-in_ok-add-in-Text-clause-fewer : goal.returns-in_ok-add-in-Text-clause-fewer
returns-in_ok-add-in-Text-clause-fewer g c =
    (rest_fewer (g.P.MessageParts.parts c.args.parts) c.in-Some.found.0 (g.P.MessageParts.parts c.in-Some.found.1) c.in-Some.ensures, tt)

pub returns-in_ok-add-in-Hash-clause-fewer : goal.returns-in_ok-add-in-Hash-clause-fewer
returns-in_ok-add-in-Hash-clause-fewer g c =
    (rest_fewer (g.P.MessageParts.parts c.args.parts) c.in-Some.found.0 (g.P.MessageParts.parts c.in-Some.found.1) c.in-Some.ensures, tt)

pub returns-in_ok-add-in-Argument-clause-fewer : goal.returns-in_ok-add-in-Argument-clause-fewer
returns-in_ok-add-in-Argument-clause-fewer g c =
    (rest_fewer (g.P.MessageParts.parts c.args.parts) c.in-Some.found.0 (g.P.MessageParts.parts c.in-Some.found.1) c.in-Some.ensures, tt)

pub returns-in_ok-shown-in-Begin-clause-fewer : goal.returns-in_ok-shown-in-Begin-clause-fewer
returns-in_ok-shown-in-Begin-clause-fewer g c =
    let taken = c.in_ok-shown-in-Begin.taken in
    branch_fewer (g.P.MessageParts.parts c.args.parts) c.in-Some.found.0 (g.P.MessageParts.parts c.in-Some.found.1)
    (g.P.MessageParts.parts taken.branch)
    (g.P.MessageParts.parts c.behind-rest.result) c.in-Some.ensures c.in_ok-shown-in-Begin.ensures.within.shorter
    c.behind-rest.ensures.fewer

pub behind-rest-requires : goal.behind-rest-requires
behind-rest-requires g c = λ k. (
  (refl, tt),
  (
    begun (g.P.MessageParts.parts c.args.parts) c.in-Some.found.0 (g.P.MessageParts.parts c.in-Some.found.1) c.in-Begin.kind c.in-Begin.name
        c.in-Begin.offset c.in-Some.ensures c.in-Begin.is,
    c.in_ok-shown-in-Begin.ensures.within.left,
  ),
)
