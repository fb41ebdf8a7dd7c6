-- Texts that are equal, and lists of which the last ones are kept.
use Rattle.std.proofs.Common.{◌≡◌, ◌∷◌, ◌++◌, ◌+◌, ◌-◌, ◌<◌, ℕ, List, [], Bool, true, Option, Some, None, All, Contains, IfNone, IfSome, length}
use Rattle.std.proofs.Common.{drop, map, arith, refl, ap, sym, subst, ◌∙◌}
use Rattle.std.proofs.lemmas.Bool.Decides.{Decides-and, Decides-like}
use Rattle.std.proofs.lemmas.List.{drop-map, get_or-map, length-map, map-append}
use Rattle.std.proofs.lemmas.List.Elements.{All-append, All-drop, All-get_or, All-map, All-push, Contains-append_left, Contains-append_right}
use Rattle.std.proofs.lemmas.Slice.Eq.{bytes_eq-Decides}
use Rattle.std.specs.Bool.{Decides}
use Rattle.std.specs.Borrow.{Bor}
use Rattle.std.specs.Option.{option_copied, option_eq}
use Rattle.std.specs.Prelude.{◌&&◌}
use Rattle.std.specs.Str.{bytes_eq}
use Rattle.plural_checker.specs.LanguageTexts.{six_texts}
use Rattle.plural_checker.specs.declared.texts.LanguageTexts.{LanguageTexts}

-- ---- Texts that are equal

-- `==` of two texts that may be absent
abbrev text_eq : Option (Bor (List ℕ)) → Option (Bor (List ℕ)) → Bool
text_eq = option_eq (λ x y. bytes_eq x.now y.now)

same_text : (a b : Option (Bor (List ℕ))) → text_eq a b ≡ true → option_copied a ≡ option_copied b
same_text None None h = refl
same_text None (Some y) h = cc
same_text (Some x) None h = cc
same_text (Some x) (Some y) h = ap Some ((bytes_eq-Decides x.now y.now).0 h)

equal_text : (a b : Option (Bor (List ℕ))) → option_copied a ≡ option_copied b → text_eq a b ≡ true
equal_text None None h = refl
equal_text None (Some y) h = cc
equal_text (Some x) None h = cc
equal_text (Some x) (Some y) h = (bytes_eq-Decides x.now y.now).1 (cc)

text_decides : (a b : Option (Bor (List ℕ))) → Decides (text_eq a b) (option_copied a ≡ option_copied b)
text_decides a b = (same_text a b, equal_text a b)

same_six : (a b : LanguageTexts) → option_copied a.zero ≡ option_copied b.zero → option_copied a.one ≡ option_copied b.one
    → option_copied a.two ≡ option_copied b.two → option_copied a.few ≡ option_copied b.few
    → option_copied a.many ≡ option_copied b.many → option_copied a.other ≡ option_copied b.other → six_texts a ≡ six_texts b
same_six a b zero one two few many other = rw (zero, one, two, few, many, other) refl

-- `==` of the texts of two languages says whether they are the same
pub texts_decide : (a b : LanguageTexts)
    → Decides (text_eq a.zero b.zero && (text_eq a.one b.one && (text_eq a.two b.two && (text_eq a.few b.few
    && (text_eq a.many b.many && text_eq a.other b.other))))) (six_texts a ≡ six_texts b)
texts_decide a b =
    Decides-like _ (λ h. same_six a b h.0 h.1.0 h.1.1.0 h.1.1.1.0 h.1.1.1.1.0 h.1.1.1.1.1)
    (λ e. (
      ap (λ t. t.five.zero) e,
      (
        ap (λ t. t.five.one) e,
        (ap (λ t. t.five.two) e, (ap (λ t. t.five.few) e, (ap (λ t. t.five.many) e, ap (λ t. t.other) e))),
      ),
    ))
    (Decides-and _ _ (text_decides a.zero b.zero)
    (Decides-and _ _ (text_decides a.one b.one)
    (Decides-and _ _ (text_decides a.two b.two)
    (Decides-and _ _ (text_decides a.few b.few)
    (Decides-and _ _ (text_decides a.many b.many) (text_decides a.other b.other))))))

-- ---- Lists of which the last ones are kept

-- what holds of all holds of one of them
pub of_one : {X : Type 0} (P : X → Type 0) (xs : List X) (x : X) → All P xs → Contains xs x → P x
of_one P xs x all among = subst P among.2 (All-get_or P xs among.0 x among.1 all)

-- what holds where another holds
pub if_some : {A : Type 0} {P Q : A → Type 0} (found : Option A) → ((x : A) → P x → Q x) → IfSome found P → IfSome found Q
if_some None gives h = tt
if_some (Some x) gives h = gives x h

module _ {X Y : Type 0} (f : X → Y) where
  -- what is among the first is among all
  pub among_first : (xs ys all : List X) (y : Y) → xs ++ ys ≡ all → Contains (map f xs) y → Contains (map f all) y
  among_first xs ys all y is h =
      subst (λ (l : List X). Contains (map f l) y) is
      (subst (λ (l : List Y). Contains l y) (sym (map-append f xs ys)) (Contains-append_left (map f xs) (map f ys) y h))

  -- what is among the last is among all
  pub among_last : (xs ys all : List X) (y : Y) → xs ++ ys ≡ all → Contains (map f ys) y → Contains (map f all) y
  among_last xs ys all y is h =
      subst (λ (l : List X). Contains (map f l) y) is
      (subst (λ (l : List Y). Contains l y) (sym (map-append f xs ys)) (Contains-append_right (map f xs) (map f ys) y h))

  -- what holds of the first and of the last holds of all
  pub none_among : {A : Type 0} (P : Y → Type 0) (xs ys all : List X) (seen : List Y) → xs ++ ys ≡ all → map f all ≡ seen
      → All (λ x. P (f x)) ys → (found : Option A) → IfNone found (All (λ x. P (f x)) xs) → IfNone found (All P seen)
  none_among P xs ys all seen is view later None older =
      subst (λ (l : List Y). All P l) view (All-map P f all (subst (λ (l : List X). All (λ x. P (f x)) l) is (All-append (λ x. P (f x)) xs ys older later)))
  none_among P xs ys all seen is view later (Some a) older = tt

  -- where as many are kept as may be, the oldest one goes for one more
  pub kept_behind : (most : ℕ) (xs pushed popped : List X) (x : X) → length xs ≡ most + 1 → pushed ≡ xs ++ x ∷ []
      → popped ≡ drop 1 pushed → map f popped ≡ drop (length (map f xs) - most) (map f xs ++ f x ∷ [])
  kept_behind most xs pushed popped x full push pop =
      let one : length (map f xs) - most ≡ 1 = omega (arith, length-map xs f, full) in
      ap (map f) (pop ∙ ap (drop 1) push)
      ∙ sym (drop-map f 1 (xs ++ x ∷ []))
      ∙ ap (drop 1) (map-append f xs (x ∷ []))
      ∙ ap (λ k. drop k (map f xs ++ f x ∷ [])) (sym one)

  -- what holds of all holds of the last ones
  pub all_last : (P : Y → Type 0) (n : ℕ) (xs : List X) → All P (map f xs) → All P (map f (drop n xs))
  all_last P n xs all = subst (λ (l : List Y). All P l) (drop-map f n xs) (All-drop P n (map f xs) all)

  -- and of one more of which it holds
  pub all_more : (P : Y → Type 0) (xs : List X) (x : X) → All P (map f xs) → P (f x) → All P (map f (xs ++ x ∷ []))
  all_more P xs x all one =
      subst (λ (l : List Y). All P l) (sym (map-append f xs (x ∷ []))) (All-push P (map f xs) (f x) all one)

-- what is among some is among what they become
pub Contains-map : {X Y : Type 0} (f : X → Y) (xs : List X) (x : X) → Contains xs x → Contains (map f xs) (f x)
Contains-map f xs x in' = (
  in'.0,
  subst (λ n. in'.0 < n) (sym (length-map xs f)) in'.1,
  get_or-map f xs in'.0 x (f x) in'.1 ∙ ap f in'.2,
)
