use Rattle.std.proofs.Common.{◌≡◌, ℕ, ◌+◌, ◌≤◌, ◌++◌, List, [], length, length-append, length-take, append_assoc, append-nil, None, take, drop, subst, sym, ap, ◌∙◌, refl, arith}
use Rattle.std.proofs.lemmas.List.{drop-drop, length-take-le, take-append-drop}
use Rattle.std.specs.Str.Iter.{split_inclusive_pattern, split_inclusive_text}
use Rattle.std.specs.Str.Pattern.{EndsAtFirstMatch, FindsChar, FindsTextSuffix, StripsSuffix}
use Rattle.plural_message.specs.Messages.{IsFilling, placeholder}
use Rattle.plural_message.proofs.Fillings.{cut_filling, filling-nil, uncut_filling}
use Rattle.plural_message.proofs.OneWay.{one_filling}
use Rattle.plural_message.proofs.fill_into.write_filled.Goals as goal

-- the buffer has room for the filled text
abbrev HasRoom : List ℕ → List ℕ → List ℕ → Type 0
HasRoom number whole entry = (filled : List ℕ) → IsFilling number whole filled → length filled ≤ length entry

-- what was written, with the remaining text filled, is the whole text filled
abbrev IsSoFar : List ℕ → List ℕ → List ℕ → List ℕ → Type 0
IsSoFar number whole front text = (rest : List ℕ) → IsFilling number text rest → IsFilling number whole (front ++ rest)

-- there is room for a piece that ends with a placeholder, and for the number
room_cut : (number whole text piece before rest now entry : List ℕ) (at : ℕ) → HasRoom number whole entry → at ≤ length now
    → IsSoFar number whole (take at now) text → EndsAtFirstMatch (FindsChar 125) text piece → text ≡ piece ++ rest
    → StripsSuffix (FindsTextSuffix placeholder) piece before → (at + length before) + length number ≤ length entry
room_cut number whole text piece before rest now entry at room inside so_far found cut strips =
    let r = one_filling number rest in
    let h = room (take at now ++ (before ++ (number ++ r.0)))
    (so_far (before ++ (number ++ r.0)) (cut_filling number text piece before rest r.0 found cut strips r.1)) in
    omega (
      arith,
      h,
      inside,
      length-append (take at now) (before ++ (number ++ r.0)),
      length-append before (number ++ r.0),
      length-append number r.0,
      length-take at now,
    )

-- there is room for any other piece
room_uncut : (number whole text piece rest now entry : List ℕ) (at : ℕ) → HasRoom number whole entry → at ≤ length now
    → IsSoFar number whole (take at now) text → EndsAtFirstMatch (FindsChar 125) text piece → text ≡ piece ++ rest
    → FindsTextSuffix placeholder piece None → at + length piece ≤ length entry
room_uncut number whole text piece rest now entry at room inside so_far found cut none =
    let r = one_filling number rest in
    let h = room (take at now ++ (piece ++ r.0)) (so_far (piece ++ r.0) (uncut_filling number text piece rest r.0 found cut none r.1)) in
    omega (arith, h, inside, length-append (take at now) (piece ++ r.0), length-append piece r.0, length-take at now)

-- lists that agree behind a place agree behind a later one
drop_later : (a b k : ℕ) (xs ys : List ℕ) → b ≡ a + k → drop a xs ≡ drop a ys → drop b xs ≡ drop b ys
drop_later a b k xs ys is same =
    ap (λ m. drop m xs) is ∙ sym (drop-drop k a xs) ∙ ap (λ l. drop k l) same ∙ drop-drop k a ys ∙ ap (λ m. drop m ys) (sym is)

pub loop-piece-init : goal.loop-piece-init
loop-piece-init c =
    let pieces = c.split_inclusive-piece-items.ensures in
    let same = c.into_iter-piece-iterator.ensures.into_iter_gives in (
      ap split_inclusive_pattern same ∙ pieces.pattern,
      omega arith,
      refl,
      λ rest filling. subst (λ l. IsFilling c.args.number.now l rest) (ap split_inclusive_text same ∙ pieces.text) filling,
    )

pub write_at-at-requires : goal.write_at-at-requires
write_at-at-requires c =
    let text = split_inclusive_text c.loop-piece.piece-iterator in
    let piece = c.in-Some.piece.now in
    let steps = c.in-Some.ensures.steps in
    let found = subst (λ p. EndsAtFirstMatch (FindsChar p) text piece) c.loop-piece.invariant.0 steps.1.1 in
    let room = room_cut c.args.number.now c.args.text.now text piece c.in-Some-strip_suffix.before.now (split_inclusive_text c.next.new.self)
    c.loop-piece.out c.args.out.now c.loop-piece.at c.requires c.loop-piece.invariant.1 c.loop-piece.invariant.3 found steps.1.0
    c.in-Some-strip_suffix.ensures.cases in
    omega (arith, room, c.loop-piece.auto.out)

pub write_at-at-requires-in-Some-strip_suffix : goal.write_at-at-requires-in-Some-strip_suffix
write_at-at-requires-in-Some-strip_suffix c =
    let text = split_inclusive_text c.loop-piece.piece-iterator in
    let piece = c.in-Some.piece.now in
    let steps = c.in-Some.ensures.steps in
    let found = subst (λ p. EndsAtFirstMatch (FindsChar p) text piece) c.loop-piece.invariant.0 steps.1.1 in
    let room = room_cut c.args.number.now c.args.text.now text piece c.in-Some-strip_suffix.before.now (split_inclusive_text c.next.new.self)
    c.loop-piece.out c.args.out.now c.loop-piece.at c.requires c.loop-piece.invariant.1 c.loop-piece.invariant.3 found steps.1.0
    c.in-Some-strip_suffix.ensures.cases in
    omega (arith, room, c.loop-piece.auto.out, c.write_at-at.ensures.place, c.write_at-at.auto.out)

pub write_at-at-requires-in-None-strip_suffix : goal.write_at-at-requires-in-None-strip_suffix
write_at-at-requires-in-None-strip_suffix c =
    let text = split_inclusive_text c.loop-piece.piece-iterator in
    let piece = c.in-Some.piece.now in
    let steps = c.in-Some.ensures.steps in
    let found = subst (λ p. EndsAtFirstMatch (FindsChar p) text piece) c.loop-piece.invariant.0 steps.1.1 in
    let room = room_uncut c.args.number.now c.args.text.now text piece (split_inclusive_text c.next.new.self) c.loop-piece.out c.args.out.now
    c.loop-piece.at c.requires c.loop-piece.invariant.1 c.loop-piece.invariant.3 found steps.1.0 c.in-None-strip_suffix.ensures.cases in
    omega (arith, room, c.loop-piece.auto.out)

pub loop-piece-preserved-in-Some-strip_suffix : goal.loop-piece-preserved-in-Some-strip_suffix
loop-piece-preserved-in-Some-strip_suffix c =
    let number = c.args.number.now in
    let text = split_inclusive_text c.loop-piece.piece-iterator in
    let piece = c.in-Some.piece.now in
    let before = c.in-Some-strip_suffix.before.now in
    let rest = split_inclusive_text c.next.new.self in
    let front = take c.loop-piece.at c.loop-piece.out in
    let steps = c.in-Some.ensures.steps in
    let found = subst (λ p. EndsAtFirstMatch (FindsChar p) text piece) c.loop-piece.invariant.0 steps.1.1 in
    let strips = c.in-Some-strip_suffix.ensures.cases in
    let first = c.write_at-at.ensures in
    let second = c.write_at-at-in-Some-strip_suffix.ensures in
    let room = room_cut number c.args.text.now text piece before rest c.loop-piece.out c.args.out.now c.loop-piece.at c.requires
    c.loop-piece.invariant.1 c.loop-piece.invariant.3 found steps.1.0 strips in
    let grown = second.front ∙ ap (λ l. l ++ number) first.front in
    let same = first.behind ∙ drop_later _ _ _ c.loop-piece.out c.args.out.now first.place c.loop-piece.invariant.2 in (
      steps.0 ∙ c.loop-piece.invariant.0,
      omega (
        arith,
        room,
        first.place,
        second.place,
        c.loop-piece.auto.out,
        c.write_at-at.auto.out,
        c.write_at-at-in-Some-strip_suffix.auto.out,
      ),
      second.behind ∙ drop_later _ _ _ c.write_at-at.new.out c.args.out.now second.place same,
      λ out filling.
          subst (λ l. IsFilling number c.args.text.now l)
          (sym (ap (λ l. l ++ out) grown ∙ append_assoc (front ++ before) number out ∙ append_assoc front before (number ++ out)))
          (c.loop-piece.invariant.3 (before ++ (number ++ out)) (cut_filling number text piece before rest out found steps.1.0 strips filling)),
    )

pub loop-piece-preserved : goal.loop-piece-preserved
loop-piece-preserved c =
    let number = c.args.number.now in
    let text = split_inclusive_text c.loop-piece.piece-iterator in
    let piece = c.in-Some.piece.now in
    let rest = split_inclusive_text c.next.new.self in
    let front = take c.loop-piece.at c.loop-piece.out in
    let steps = c.in-Some.ensures.steps in
    let found = subst (λ p. EndsAtFirstMatch (FindsChar p) text piece) c.loop-piece.invariant.0 steps.1.1 in
    let none = c.in-None-strip_suffix.ensures.cases in
    let written = c.write_at-at-in-None-strip_suffix.ensures in
    let room = room_uncut number c.args.text.now text piece rest c.loop-piece.out c.args.out.now c.loop-piece.at c.requires
    c.loop-piece.invariant.1 c.loop-piece.invariant.3 found steps.1.0 none in (
      steps.0 ∙ c.loop-piece.invariant.0,
      omega (arith, room, written.place, c.loop-piece.auto.out, c.write_at-at-in-None-strip_suffix.auto.out),
      written.behind ∙ drop_later _ _ _ c.loop-piece.out c.args.out.now written.place c.loop-piece.invariant.2,
      λ out filling.
          subst (λ l. IsFilling number c.args.text.now l) (sym (ap (λ l. l ++ out) written.front ∙ append_assoc front piece out))
          (c.loop-piece.invariant.3 (piece ++ out) (uncut_filling number text piece rest out found steps.1.0 none filling)),
    )

pub returns : goal.returns
returns c =
    let at = c.loop-piece.at in
    let out = c.loop-piece.out in
    let entry = c.args.out.now in (
      take at out,
      subst (λ l. IsFilling c.args.number.now c.args.text.now l) (append-nil (take at out))
          (c.loop-piece.invariant.3 []
          (filling-nil c.args.number.now (split_inclusive_text c.loop-piece.piece-iterator) c.in-None.ensures.steps.1.0)),
      sym (take-append-drop at out) ∙ ap (λ l. take at out ++ l) c.loop-piece.invariant.2
          ∙ ap (λ n. take at out ++ drop n entry) (sym (length-take-le at out c.loop-piece.invariant.1)),
    )
