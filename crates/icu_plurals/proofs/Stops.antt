-- Calls at the places of elements in four steps, and calls up to the first that returns `Err`.
use Rattle.std.proofs.Common.{List, [], ◌∷◌, ◌++◌, Option, Some, None, Result, Ok, refl, ap, subst, ◌∙◌}
use Rattle.std.proofs.lemmas.List.{append_assoc}
use Rattle.icu_plurals.specs.ElementCalls.{CallsAt, CallsEach, VisitsAt, VisitsEach, RefusesAt, StopsAt, RefusesChanging, ChangesTo}
use Rattle.icu_plurals.specs.ElementCalls.{StopsAtChanging}

-- calls with three values, and then with others
three_then : {F A B : Type 0} (call : F → A → B → F → Type 0) (f g last : F) (a b c : Option A) (a' b' c' : Option B)
    (xs : List (Option A)) (ys : List (Option B))
    → CallsEach call f (a ∷ b ∷ c ∷ []) (a' ∷ b' ∷ c' ∷ []) g → CallsEach call g xs ys last
    → CallsEach call f (a ∷ b ∷ c ∷ xs) (a' ∷ b' ∷ c' ∷ ys) last
three_then call f g last a b c a' b' c' xs ys three rest =
    (three.0, three.1, (three.2.0, three.2.1, (three.2.2.0, three.2.2.1, subst (λ p. CallsEach call p xs ys last) three.2.2.2 rest)))

-- a call with the value of other, and calls with three places, with three more, and with the last
pub in_steps : {F A B : Type 0} (call : F → A → B → F → Type 0) (f g h i last : F) (x : A) (a b c a' b' c' z : Option A)
    (y : B) (p q r p' q' r' o : Option B)
    → CallsAt call f (Some x) (Some y) g → CallsEach call g (a ∷ b ∷ c ∷ []) (p ∷ q ∷ r ∷ []) h → CallsEach call h (a' ∷ b' ∷ c' ∷ []) (p' ∷ q' ∷ r' ∷ []) i
    → CallsAt call i z o last
    → CallsEach call f (Some x ∷ a ∷ b ∷ c ∷ a' ∷ b' ∷ c' ∷ z ∷ []) (Some y ∷ p ∷ q ∷ r ∷ p' ∷ q' ∷ r' ∷ o ∷ []) last
in_steps call f g h i last x a b c a' b' c' z y p q r p' q' r' o first three more place = (
  g,
  first,
  three_then call g h last a b c p q r (a' ∷ b' ∷ c' ∷ z ∷ []) (p' ∷ q' ∷ r' ∷ o ∷ []) three
      (three_then call h i last a' b' c' p' q' r' (z ∷ []) (o ∷ []) more (last, place, refl)),
)

-- the same, with any results
visits_three_then : {F A B : Type 0} (call : F → A → B → F → Type 0) (f g last : F) (a b c : Option A) (xs : List (Option A))
    → VisitsEach call f (a ∷ b ∷ c ∷ []) g → VisitsEach call g xs last → VisitsEach call f (a ∷ b ∷ c ∷ xs) last
visits_three_then call f g last a b c xs three rest =
    (three.0, three.1, (three.2.0, three.2.1, (three.2.2.0, three.2.2.1, subst (λ p. VisitsEach call p xs last) three.2.2.2 rest)))

pub visits_in_steps : {F A B : Type 0} (call : F → A → B → F → Type 0) (f g h i last : F) (x : A) (a b c a' b' c' z : Option A) (y : B)
    → call f x y g → VisitsEach call g (a ∷ b ∷ c ∷ []) h → VisitsEach call h (a' ∷ b' ∷ c' ∷ []) i → VisitsAt call i z last
    → VisitsEach call f (Some x ∷ a ∷ b ∷ c ∷ a' ∷ b' ∷ c' ∷ z ∷ []) last
visits_in_steps call f g h i last x a b c a' b' c' z y first three more place = (
  g,
  (y, first),
  visits_three_then call g h last a b c (a' ∷ b' ∷ c' ∷ z ∷ []) three
      (visits_three_then call h i last a' b' c' (z ∷ []) more (last, place, refl)),
)

-- the call at the first place returns `Err`
pub stops_here : {F A B E : Type 0} {call : F → A → Result B E → F → Type 0} {f : F} {x : Option A} {xs : List (Option A)}
    {e : E} {last : F}
    → RefusesAt call f x e last → StopsAt call f (x ∷ xs) e last
stops_here {f = f} {x = x} {xs = xs} refused =
    record { before = []; place = x; after = xs; parts = refl; state = f; answered = refl; refused = refused }

-- a call whose result is kept is a visit, whatever it returns
visits : {F A B : Type 0} (call : F → A → B → F → Type 0) (f : F) (x : Option A) (y : Option B) (g : F)
    → CallsAt call f x y g → VisitsAt call f x g
visits call f None y g called = called.1
visits call f (Some x) y g called = (called.0, called.2)

-- calls whose results are kept are visits
pub visits_each : {F A B : Type 0} (call : F → A → B → F → Type 0) (f : F) (xs : List (Option A)) (ys : List (Option B)) (last : F)
    → CallsEach call f xs ys last → VisitsEach call f xs last
visits_each call f [] [] last called = called
visits_each call f (x ∷ xs) (y ∷ ys) last called =
    (called.0, visits call f x y called.0 called.1, visits_each call called.0 xs ys last called.2)
visits_each call f [] (y ∷ ys) last called = absurd called
visits_each call f (x ∷ xs) [] last called = absurd called

-- a call at a later place returns `Err`
pub stops_later : {F A B E : Type 0} {call : F → A → Result B E → F → Type 0} {f : F} {x : Option A} (y : Option B) {g : F}
    {xs : List (Option A)} {e : E} {last : F}
    → CallsAt (λ p a b q. call p a (Ok b) q) f x y g → StopsAt call g xs e last → StopsAt call f (x ∷ xs) e last
stops_later {call = call} {f = f} {x = x} y {g = g} called s = record {
  before = x ∷ s.before;
  place = s.place;
  after = s.after;
  parts = ap (λ ps. x ∷ ps) s.parts;
  state = s.state;
  answered = (g, visits (λ p a b q. call p a (Ok b) q) f x y g called, s.answered);
  refused = s.refused;
}

-- the calls at three places return `Ok`, and a later one `Err`
pub stops_after_three : {F A B E : Type 0} {call : F → A → Result B E → F → Type 0} {f g : F} {a b c : Option A}
    (a' b' c' : Option B) {xs : List (Option A)} {e : E} {last : F}
    → CallsEach (λ p a b q. call p a (Ok b) q) f (a ∷ b ∷ c ∷ []) (a' ∷ b' ∷ c' ∷ []) g → StopsAt call g xs e last
    → StopsAt call f (a ∷ b ∷ c ∷ xs) e last
stops_after_three {call = call} a' b' c' {xs = xs} {e = e} {last = last} three s =
    stops_later a' three.1 (stops_later b' three.2.1
    (stops_later c' three.2.2.1 (subst (λ p. StopsAt call p xs e last) three.2.2.2 s)))

-- calls that stop do so before further places
pub stops_before : {F A B E : Type 0} {call : F → A → Result B E → F → Type 0} {f : F} {xs : List (Option A)} (more : List (Option A))
    {e : E} {last : F}
    → StopsAt call f xs e last → StopsAt call f (xs ++ more) e last
stops_before more s = record {
  before = s.before;
  place = s.place;
  after = s.after ++ more;
  parts = ap (λ ps. ps ++ more) s.parts ∙ append_assoc s.before (s.place ∷ s.after) more;
  state = s.state;
  answered = s.answered;
  refused = s.refused;
}

-- ---- calls that may change their values

-- the call at the first place returns `Err`
pub stops_here_changing : {F A B E : Type 0} {call : F → A → Result B E → F → A → Type 0} {f : F} {x y : Option A}
    {xs : List (Option A)} {e : E} {last : F}
    → RefusesChanging call f x y e last → StopsAtChanging call f (x ∷ xs) (y ∷ xs) e last
stops_here_changing {f = f} {x = x} {y = y} {xs = xs} refused = record {
  before = [];
  place = x;
  after = xs;
  parts = refl;
  changed = [];
  left = y;
  new_parts = refl;
  state = f;
  answered = refl;
  refused = refused;
}

-- a call at a later place returns `Err`
pub stops_later_changing : {F A B E : Type 0} {call : F → A → Result B E → F → A → Type 0} {f : F} {x y : Option A} {g : F}
    {xs ys : List (Option A)} {e : E} {last : F}
    → CallsAt (ChangesTo call) f x y g → StopsAtChanging call g xs ys e last → StopsAtChanging call f (x ∷ xs) (y ∷ ys) e last
stops_later_changing {x = x} {y = y} {g = g} called s = record {
  before = x ∷ s.before;
  place = s.place;
  after = s.after;
  parts = ap (λ ps. x ∷ ps) s.parts;
  changed = y ∷ s.changed;
  left = s.left;
  new_parts = ap (λ ps. y ∷ ps) s.new_parts;
  state = s.state;
  answered = (g, called, s.answered);
  refused = s.refused;
}

-- the calls at three places return `Ok`, and a later one `Err`
pub stops_after_three_changing : {F A B E : Type 0} {call : F → A → Result B E → F → A → Type 0} {f g : F} {a b c a' b' c' : Option A}
    {xs ys : List (Option A)} {e : E} {last : F}
    → CallsEach (ChangesTo call) f (a ∷ b ∷ c ∷ []) (a' ∷ b' ∷ c' ∷ []) g → StopsAtChanging call g xs ys e last
    → StopsAtChanging call f (a ∷ b ∷ c ∷ xs) (a' ∷ b' ∷ c' ∷ ys) e last
stops_after_three_changing {call = call} {xs = xs} {ys = ys} {e = e} {last = last} three s =
    stops_later_changing three.1 (stops_later_changing three.2.1
    (stops_later_changing three.2.2.1 (subst (λ p. StopsAtChanging call p xs ys e last) three.2.2.2 s)))

-- calls that stop do so before further places, which keep their values
pub stops_before_changing : {F A B E : Type 0} {call : F → A → Result B E → F → A → Type 0} {f : F} {xs ys : List (Option A)}
    (more : List (Option A)) {e : E} {last : F}
    → StopsAtChanging call f xs ys e last → StopsAtChanging call f (xs ++ more) (ys ++ more) e last
stops_before_changing more s = record {
  before = s.before;
  place = s.place;
  after = s.after ++ more;
  parts = ap (λ ps. ps ++ more) s.parts ∙ append_assoc s.before (s.place ∷ s.after) more;
  changed = s.changed;
  left = s.left;
  new_parts = ap (λ ps. ps ++ more) s.new_parts ∙ append_assoc s.changed (s.left ∷ s.after) more;
  state = s.state;
  answered = s.answered;
  refused = s.refused;
}
