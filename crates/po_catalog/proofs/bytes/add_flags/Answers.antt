use Rattle.std.proofs.Common.{◌≡◌, ◌<◌, length, sym, ◌∙◌, arith}
use Rattle.std.proofs.lemmas.Bool.{eqb-true, eqb-false}
use Rattle.po_catalog.proofs.FlagWords.{no_more_flags, more_flags}
use Rattle.po_catalog.proofs.bytes.add_flags.Goals as goal

pub returns-then-is_empty : goal.returns-then-is_empty
returns-then-is_empty c =
    let none : length c.first_flag.result.0.now ≡ 0 = eqb-true _ _ (sym c.is_empty.ensures ∙ c.if-is_empty.true) in
    no_more_flags _ _ c.words.rest.now _ c.words.invariant c.first_flag.ensures.flag none

pub words-preserved : goal.words-preserved
words-preserved c =
    let some : 0 < length c.first_flag.result.0.now = omega (arith, eqb-false _ _ (sym c.is_empty.ensures ∙ c.if-is_empty.false)) in
    more_flags _ _ _ _ c.words.rest.now _ _ c.words.invariant c.first_flag.ensures.flag c.first_flag.ensures.rest some
    c.in_ok-extend_from_slice.ensures.items c.in_ok-push.ensures.items
