use Rattle.std.proofs.Common.{◌≡◌, ℕ, suc, ◌≤◌, ◌∷◌, List, length, is_some, sym, ap, subst, ◌∙◌, arith}
use Rattle.std.specs.Prelude.{◌||◌}
use Rattle.std.proofs.lemmas.Bool.{OnTrue_at, OnTrue_from, or_left}
use Rattle.document_tokens.specs.HeldTokens.{Held, held_token}
use Rattle.plural_documents.specs.Inner.RulesPlaces.{AreRightParts, allows_object, place_below}
use Rattle.plural_documents.specs.declared.rules_place.RulesPlace.{RulesPlace}
use Rattle.plural_documents.proofs.RightTokens.{RightGoOn, null_right, object_right, on_right, right_added, right_ended}
use Rattle.plural_documents.proofs.RightTokens.{right_not_cut, text_right}
use Rattle.plural_documents.proofs.WalkLemmas.{no_key}
use Rattle.plural_documents.proofs.rules_check.+check.Goals.{are_right-in-Some+in_default-first, are_right-in_default}
use Rattle.plural_documents.proofs.rules_check.+check.Goals as goal

one_shorter : (n m k most : ℕ) → n ≤ m → k ≡ suc m → k ≤ most → n ≤ most
one_shorter n m k most less more within = omega arith

pub are_right-loop-first-preserved-then-is_any_read : goal.are_right-loop-first-preserved-then-is_any_read
are_right-loop-first-preserved-then-is_any_read t c = (
  (λ members rest whole is read. right_added c.args.place c.in-Key.key.now c.next.new.self c.is_right_below.new.left rest whole
      c.loop-first.is_any_read _
      (subst (λ (ts : List Held). RightGoOn c.args.place ts rest whole c.loop-first.is_any_read)
      (c.in-Some.ensures ∙ ap (λ u. held_token u ∷ c.next.new.self) c.in-Key.is) (c.loop-first.invariant.0 members rest whole is read))
      (rw (← c.below-below.ensures) (OnTrue_at c.if-not-branch.false c.in_ok-is_right_below.ensures.right))
      (or_left c.loop-first.is_any_read (is_some {T = RulesPlace} (place_below c.args.place c.in-Key.key.now)) c.if-is_any_read.true
      ∙ sym c.if-is_any_read.true)),
  one_shorter (length c.is_right_below.new.left) (length c.next.new.self) (length c.loop-first.left) (length c.args.left.now)
      c.in_ok-is_right_below.ensures.shorter (ap length c.in-Some.ensures) c.loop-first.invariant.1,
)

pub are_right-loop-first-preserved : goal.are_right-loop-first-preserved
are_right-loop-first-preserved t c = (
  (λ members rest whole is read. right_added c.args.place c.in-Key.key.now c.next.new.self c.is_right_below.new.left rest whole
      c.loop-first.is_any_read _
      (subst (λ (ts : List Held). RightGoOn c.args.place ts rest whole c.loop-first.is_any_read)
      (c.in-Some.ensures ∙ ap (λ u. held_token u ∷ c.next.new.self) c.in-Key.is) (c.loop-first.invariant.0 members rest whole is read))
      (rw (← c.below-below.ensures) (OnTrue_at c.if-not-branch.false c.in_ok-is_right_below.ensures.right))
      (ap (λ b. b || is_some {T = RulesPlace} (place_below c.args.place c.in-Key.key.now)) c.if-is_any_read.false
      ∙ ap (is_some {T = RulesPlace}) (sym c.below-below.ensures) ∙ sym c.is_some-is_any_read.ensures)),
  one_shorter (length c.is_right_below.new.left) (length c.next.new.self) (length c.loop-first.left) (length c.args.left.now)
      c.in_ok-is_right_below.ensures.shorter (ap length c.in-Some.ensures) c.loop-first.invariant.1,
)

pub are_right-returns-clause-right : goal.are_right-returns-clause-right
are_right-returns-clause-right t c =
    OnTrue_from c.allows_object.result (AreRightParts c.args.place c.args.left.now c.next.new.self) (λ allowed ms rest whole is read.
    let now = c.loop-first.invariant.0 ms rest whole is read in
    let any = c.loop-first.is_any_read in
    elim c.match-next.branch [
      | are_right-in-Some+in_default-first w ↦
          let last = right_ended c.args.place (held_token w.in-Some.first) c.next.new.self rest whole any
          (no_key w.in-Some.first w.in_default-first.not-Key)
          (subst (λ (ts : List Held). RightGoOn c.args.place ts rest whole any) w.in-Some.ensures now) in
          (last.0, (ap (allows_object c.args.place) last.1 ∙ sym c.allows_object.ensures ∙ allowed, last.2))
      | are_right-in_default w ↦
          absurd (right_not_cut c.args.place rest whole any
          (subst (λ (ts : List Held). RightGoOn c.args.place ts rest whole any) w.in_default.ensures.0 now))
    ])

pub is_right-returns-in-BeginObject-clause-right : goal.is_right-returns-in-BeginObject-clause-right
is_right-returns-in-BeginObject-clause-right t c =
    rw (c.in-BeginObject.is) (on_right c.are_right.result (object_right c.args.place c.args.left.now _) c.are_right.ensures.right)

pub is_right-returns-in-String-clause-right : goal.is_right-returns-in-String-clause-right
is_right-returns-in-String-clause-right t c =
    rw (c.in-String.is)
    (on_right c.is_right_text.result (text_right c.args.place c.args.left.now c.in-String.text.now) c.is_right_text.ensures)

pub is_right-returns-in-Null-clause-right : goal.is_right-returns-in-Null-clause-right
is_right-returns-in-Null-clause-right t c =
    rw (c.in-Null.is) (OnTrue_from _ _ (λ allowed. null_right c.args.place c.args.left.now (sym c.allows_null.ensures ∙ allowed)))
