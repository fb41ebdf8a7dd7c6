use Rattle.std.proofs.Common.{◌≡◌, ℕ, suc, ◌+◌, ◌-◌, ◌<◌, ◌≤◌, List, [], ◌∷◌, drop, get_or, length, length-drop, map, take}
use Rattle.std.proofs.Common.{take_all, refl, sym, ap, subst, ◌∙◌, arith}
use Rattle.std.proofs.lemmas.List.{length-map}
use Rattle.document_tokens.specs.HeldTokens.{Held, held_token, opened_after}
use Rattle.document_tokens.specs.declared.held_token.HeldToken.{HeldToken}
use Rattle.plural_documents.proofs.PassLemmas.{Leaves, is_left, leaves_first, leaves_on, none_is_left}
use Rattle.plural_documents.proofs.tokens_left.TokensLeft.pass_value.Goals.{else-loop-opened-test, then-loop-opened-test+in_default}
use Rattle.plural_documents.proofs.tokens_left.TokensLeft.pass_value.Goals as goal

one_more_at_most : (t : Held) (count n m : ℕ) → count + suc n ≤ 1 + m → opened_after count t + n ≤ 1 + m
one_more_at_most Held.begin_object count n m less = omega arith
one_more_at_most Held.end_object count n m less = omega arith
one_more_at_most Held.begin_array count n m less = omega arith
one_more_at_most Held.end_array count n m less = omega arith
one_more_at_most (Held.key k) count n m less = omega arith
one_more_at_most (Held.string s) count n m less = omega arith
one_more_at_most (Held.number s) count n m less = omega arith
one_more_at_most (Held.boolean b) count n m less = omega arith
one_more_at_most Held.null count n m less = omega arith

first_few : (t : Held) (n : ℕ) → opened_after 0 t + n ≤ 1 + n
first_few t n = one_more_at_most t 0 n n (omega arith)

others : (ts : List HeldToken) → take (length ts - 1) (drop 1 ts) ≡ drop 1 ts
others ts = take_all (length ts - 1) (drop 1 ts) (omega (arith, length-drop 1 ts))

-- the first token and the others
parted : (ts : List HeldToken) (d first : HeldToken) → 1 ≤ length ts → first ≡ get_or ts 0 d
    → map held_token ts ≡ held_token first ∷ map held_token (drop 1 ts)
parted [] d first some is = absurd (none some)
  where
    none : 1 ≤ 0 → ⊥
    none some = omega arith
parted (t ∷ ts) d first some is = ap (λ u. held_token u ∷ map held_token ts) (sym is)

shorter : (ts : List HeldToken) → 1 ≤ length ts → suc (length (drop 1 ts)) ≡ length ts
shorter [] some = absurd (none some)
  where
    none : 1 ≤ 0 → ⊥
    none some = omega arith
shorter (t ∷ ts) some = refl

same_length : (n : ℕ) → n ≤ n
same_length n = omega arith

one_shorter : (n m most : ℕ) → suc n ≡ m → m ≤ most → n ≤ most
one_shorter n m most less within = omega arith

pub loop-opened-init : goal.loop-opened-init
loop-opened-init c = rw (c.opened_after-opened.ensures) (
  (λ value rest is. leaves_first value rest (held_token c.args.first) (map held_token c.self.inside.tokens.now) is),
  first_few (held_token c.args.first) (length c.self.inside.tokens.now),
  same_length (length c.self.inside.tokens.now),
)

pub loop-opened-preserved : goal.loop-opened-preserved
loop-opened-preserved c =
    let ts = c.loop-opened.tokens.now in
    rw (others ts, c.opened_after-opened-in-loop-opened.ensures) (
      (λ value rest is. leaves_on rest c.loop-opened.opened (held_token c.token-item.result)
          (map held_token (drop 1 ts)) c.loop-opened-test.true
          (subst (Leaves rest c.loop-opened.opened) (parted ts _ c.token-item.result c.in-len1-up.len_at_least c.token-item.is)
          (c.loop-opened.invariant.0 value rest is))),
      one_more_at_most _ c.loop-opened.opened (length (drop 1 ts)) (length c.self.inside.tokens.now)
          (rw (shorter ts c.in-len1-up.len_at_least) c.loop-opened.invariant.1),
      one_shorter (length (drop 1 ts)) (length ts) (length c.self.inside.tokens.now) (shorter ts c.in-len1-up.len_at_least)
          c.loop-opened.invariant.2,
    )

none_open : (n : ℕ) → n ≤ 0 → n ≡ 0
none_open n less = omega arith

none_left : (ts : List HeldToken) → length ts < 1 → map held_token ts ≡ []
none_left [] less = refl
none_left (t ∷ ts) less = absurd (below less)
  where
    below : suc (length ts) < 1 → ⊥
    below less = omega arith

pub returns-clause-passed : goal.returns-clause-passed
returns-clause-passed c value rest is =
    let ts = map held_token c.loop-opened.tokens.now in
    let leaves = c.loop-opened.invariant.0 value rest (ap (λ us. held_token c.args.first ∷ us) c.self.view_is ∙ is) in
    elim c.loop-opened-test.branch [
      | else-loop-opened-test w ↦
          is_left rest ts (subst (λ (n : ℕ). Leaves rest n ts) (none_open c.loop-opened.opened w.loop-opened-test.false) leaves)
      | then-loop-opened-test+in_default w ↦
          let none = none_left c.loop-opened.tokens.now w.in_default.len_below in
          none ∙ none_is_left rest c.loop-opened.opened (subst (Leaves rest c.loop-opened.opened) none leaves)
    ]

pub returns-clause-shorter : goal.returns-clause-shorter
returns-clause-shorter c =
    rw (← c.self.view_is, length-map c.loop-opened.tokens.now held_token, length-map c.self.inside.tokens.now held_token)
    c.loop-opened.invariant.2
