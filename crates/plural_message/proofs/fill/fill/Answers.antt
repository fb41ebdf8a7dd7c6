use Rattle.std.proofs.Common.{◌≡◌, ◌++◌, [], string_bytes, append_assoc, append-nil, subst, sym, ap, ◌∙◌}
use Rattle.std.specs.Str.Iter.{split_inclusive_pattern, split_inclusive_text}
use Rattle.std.specs.Str.Pattern.{EndsAtFirstMatch, FindsChar}
use Rattle.plural_message.specs.Messages.{IsFilling}
use Rattle.plural_message.proofs.Fillings.{cut_filling, filling-nil, uncut_filling}
use Rattle.plural_message.proofs.fill.fill.Goals as goal

pub loop-piece-init : goal.loop-piece-init
loop-piece-init c =
    let pieces = c.split_inclusive-piece-items.ensures in
    let same = c.into_iter-piece-iterator.ensures.into_iter_gives in (
      ap split_inclusive_pattern same ∙ pieces.pattern,
      λ out filling.
          subst (λ l. IsFilling c.args.number.now c.args.text.now l) (sym (ap (λ l. l ++ out) c.in_ok-filled.ensures.bytes))
          (subst (λ l. IsFilling c.args.number.now l out) (ap split_inclusive_text same ∙ pieces.text) filling),
    )

pub loop-piece-preserved-in-Continue-branch-3 : goal.loop-piece-preserved-in-Continue-branch-3
loop-piece-preserved-in-Continue-branch-3 c =
    let number = c.args.number.now in
    let text = split_inclusive_text c.loop-piece.piece-iterator in
    let piece = c.in-Some.piece.now in
    let before = c.in-Some-strip_suffix.before.now in
    let front = string_bytes c.loop-piece.filled in
    let steps = c.in-Some.ensures.steps in
    let found = subst (λ p. EndsAtFirstMatch (FindsChar p) text piece) c.loop-piece.invariant.0 steps.1.1 in (
      steps.0 ∙ c.loop-piece.invariant.0,
      λ out rest.
          let grown : string_bytes c.push_str-in-Some-strip_suffix.new.self ≡ (front ++ before) ++ number =
          c.in_ok-push_str-in-Some-strip_suffix-2.ensures.bytes
          ∙ ap (λ l. l ++ number) c.in_ok-push_str-in-Some-strip_suffix.ensures.bytes in
          subst (λ l. IsFilling number c.args.text.now l)
          (sym (ap (λ l. l ++ out) grown ∙ append_assoc (front ++ before) number out ∙ append_assoc front before (number ++ out)))
          (c.loop-piece.invariant.1 (before ++ (number ++ out))
          (cut_filling number text piece before (split_inclusive_text c.next.new.self) out found steps.1.0
          c.in-Some-strip_suffix.ensures.cases rest)),
    )

pub loop-piece-preserved : goal.loop-piece-preserved
loop-piece-preserved c =
    let number = c.args.number.now in
    let text = split_inclusive_text c.loop-piece.piece-iterator in
    let piece = c.in-Some.piece.now in
    let front = string_bytes c.loop-piece.filled in
    let steps = c.in-Some.ensures.steps in
    let found = subst (λ p. EndsAtFirstMatch (FindsChar p) text piece) c.loop-piece.invariant.0 steps.1.1 in (
      steps.0 ∙ c.loop-piece.invariant.0,
      λ out rest.
          subst (λ l. IsFilling number c.args.text.now l)
          (sym (ap (λ l. l ++ out) c.in_ok-push_str-in-None-strip_suffix.ensures.bytes ∙ append_assoc front piece out))
          (c.loop-piece.invariant.1 (piece ++ out)
          (uncut_filling number text piece (split_inclusive_text c.next.new.self) out found steps.1.0
          c.in-None-strip_suffix.ensures.cases rest)),
    )

pub returns : goal.returns
returns c =
    subst (λ l. IsFilling c.args.number.now c.args.text.now l) (append-nil (string_bytes c.loop-piece.filled))
    (c.loop-piece.invariant.1 []
    (filling-nil c.args.number.now (split_inclusive_text c.loop-piece.piece-iterator) c.in-None.ensures.steps.1.0))
