use Rattle.std.proofs.Common.{◌≡◌, ℕ, ◌+◌, ◌++◌, List, length, length-append, min, append_assoc, append-nil, subst, sym, ◌∙◌, arith, []}
use Rattle.std.specs.Str.Iter.{split_inclusive_text}
use Rattle.std.specs.Str.Pattern.{EndsAtFirstMatch, FindsChar}
use Rattle.plural_message.specs.Messages.{IsFilling}
use Rattle.plural_message.proofs.Fillings.{cut_filling, filling-nil, uncut_filling}
use Rattle.plural_message.proofs.fill_into.filled_length.Goals as goal

-- what is told of a front part and a piece
told_more : (told more most : ℕ) (front piece : List ℕ) → told ≡ min (length front) most → more ≡ min (told + length piece) most
    → more ≡ min (length (front ++ piece)) most
told_more told more most front piece is adds = omega (arith, is, adds, length-append front piece)

pub loop-piece-preserved-in-Some-strip_suffix : goal.loop-piece-preserved-in-Some-strip_suffix
loop-piece-preserved-in-Some-strip_suffix c =
    let number = c.args.number.now in
    let text = split_inclusive_text c.loop-piece.piece-iterator in
    let piece = c.in-Some.piece.now in
    let before = c.in-Some-strip_suffix.before.now in
    let front = c.loop-piece.invariant.1.0 in
    let steps = c.in-Some.ensures.steps in
    let found = subst (λ p. EndsAtFirstMatch (FindsChar p) text piece) c.loop-piece.invariant.0 steps.1.1 in
    let first = told_more _ _ _ front before c.loop-piece.invariant.1.1 c.saturating_add-told.ensures in (
      steps.0 ∙ c.loop-piece.invariant.0,
      (
        (front ++ before) ++ number,
        told_more _ _ _ (front ++ before) number first c.saturating_add-told-in-Some-strip_suffix.ensures,
        λ out rest.
            subst (λ l. IsFilling number c.args.text.now l)
            (sym (append_assoc (front ++ before) number out ∙ append_assoc front before (number ++ out)))
            (c.loop-piece.invariant.1.2 (before ++ (number ++ out))
            (cut_filling number text piece before (split_inclusive_text c.next.new.self) out found steps.1.0
            c.in-Some-strip_suffix.ensures.cases rest)),
      ),
    )

pub loop-piece-preserved : goal.loop-piece-preserved
loop-piece-preserved c =
    let number = c.args.number.now in
    let text = split_inclusive_text c.loop-piece.piece-iterator in
    let piece = c.in-Some.piece.now in
    let front = c.loop-piece.invariant.1.0 in
    let steps = c.in-Some.ensures.steps in
    let found = subst (λ p. EndsAtFirstMatch (FindsChar p) text piece) c.loop-piece.invariant.0 steps.1.1 in (
      steps.0 ∙ c.loop-piece.invariant.0,
      (
        front ++ piece,
        told_more _ _ _ front piece c.loop-piece.invariant.1.1 c.saturating_add-told-in-None-strip_suffix.ensures,
        λ out rest.
            subst (λ l. IsFilling number c.args.text.now l) (sym (append_assoc front piece out))
            (c.loop-piece.invariant.1.2 (piece ++ out)
            (uncut_filling number text piece (split_inclusive_text c.next.new.self) out found steps.1.0
            c.in-None-strip_suffix.ensures.cases rest)),
      ),
    )

pub returns : goal.returns
returns c =
    let front = c.loop-piece.invariant.1.0 in (
      front,
      subst (λ l. IsFilling c.args.number.now c.args.text.now l) (append-nil front)
          (c.loop-piece.invariant.1.2 []
          (filling-nil c.args.number.now (split_inclusive_text c.loop-piece.piece-iterator) c.in-None.ensures.steps.1.0)),
      c.loop-piece.invariant.1.1,
    )
