-- A call with a reference, as its result shows it.
use Rattle.std.proofs.Common.{List, [], ◌∷◌, Option, Some, None, Result, Ok, Err, OnOk, IfErr, Bor, MutBor, refl, ap, ◌∙◌}
use Rattle.std.specs.Prelude.{map, option_map}
use Rattle.std.proofs.lemmas.List.{map-append}
use Rattle.std.specs.Fn.{Mut, Called, CalledAt, CalledAtMut}
use Rattle.icu_plurals.specs.Elements.{Elements, each_by, values_in_order}
use Rattle.icu_plurals.specs.ElementCalls.{CallsAt, CallsEach, VisitsAt, VisitsEach, StopsAt, ChangesTo, RefusesChanging}
use Rattle.icu_plurals.proofs.Stops.{visits_each}

-- the value that is borrowed, if present
abbrev lent : {A : Type 0} → Option (Bor A) → Option A
lent x = option_map (λ b. b.now) x

-- a call with a borrowed value, if present, visits the value
visits_shown_at : {F A B R : Type 0} (g : Mut F (Bor A × Unit {0}) R) (of : B → R) (f : F) (x : Option (Bor A)) (f' : F)
    → VisitsAt (λ p b y q. Called g p (b, tt) (of y) q) f x f' → VisitsAt (λ p b y q. CalledAt g p b (of y) q) f (lent x) f'
visits_shown_at g of f None f' called = called
visits_shown_at g of f (Some b) f' called = (called.0, record { shown = b; shows = refl; called = called.1 })

-- calls with borrowed values visit the values
pub visits_shown : {F A B R : Type 0} (g : Mut F (Bor A × Unit {0}) R) (of : B → R) (f : F) (xs : List (Option (Bor A))) (last : F)
    → VisitsEach (λ p b y q. Called g p (b, tt) (of y) q) f xs last → VisitsEach (λ p b y q. CalledAt g p b (of y) q) f (map lent xs) last
visits_shown g of f [] last called = called
visits_shown g of f (x ∷ xs) last called =
    (called.0, visits_shown_at g of f x called.0 called.1, visits_shown g of called.0 xs last called.2)

-- the same, where the results are kept
pub visits_kept_shown : {F A B E : Type 0} (g : Mut F (Bor A × Unit {0}) (Result B E)) (f : F) (e : Elements (Bor A)) (made : Elements B)
    (last : F)
    → CallsEach (λ p b y q. Called g p (b, tt) (Ok y) q) f (values_in_order e) (values_in_order made) last
    → VisitsEach (λ p b y q. CalledAt g p b (Ok y) q) f (values_in_order (each_by (λ b. b.now) e)) last
visits_kept_shown g f e made last called = visits_shown g Ok f (values_in_order e) last
    (visits_each (λ p b y q. Called g p (b, tt) (Ok y) q) f (values_in_order e) (values_in_order made) last called)

-- calls with borrowed values that stop do so with the values
pub stops_shown : {F A B E : Type 0} (g : Mut F (Bor A × Unit {0}) (Result B E)) (f : F) (xs : List (Option (Bor A))) (e : E) (last : F)
    → StopsAt (λ p b y q. Called g p (b, tt) y q) f xs e last → StopsAt (CalledAt g) f (map lent xs) e last
stops_shown g f xs e last s = record {
  before = map lent s.before;
  place = lent s.place;
  after = map lent s.after;
  parts = ap (map lent) s.parts ∙ map-append lent s.before (s.place ∷ s.after);
  state = s.state;
  answered = visits_shown g Ok f s.before s.state s.answered;
  refused = (s.refused.0.now, ap lent s.refused.1, record { shown = s.refused.0; shows = refl; called = s.refused.2 });
}

-- a call with a value that it may change and that returns `Ok` changes its place
pub lent_ok : {F A B E : Type 0} (g : Mut F (MutBor A × Unit {0}) (Result B E × (MutBor A × Unit {0}))) (f : F)
    (b left : MutBor A) (r : Result B E) (f' : F)
    → Called g f (b, tt) (r, (left, tt)) f' → OnOk r (CallsAt (ChangesTo (CalledAtMut g)) f (Some b.now) (Some left.now) f')
lent_ok g f b left (Ok y) f' called =
    (left.now, refl, (y, record { shown = b; shows = refl; left = left; called = called; leaves = refl }))
lent_ok g f b left (Err e) f' called = tt

-- a call with a value that it may change and that returns `Err` refuses its place and leaves it
-- changed
pub lent_err : {F A B E : Type 0} (g : Mut F (MutBor A × Unit {0}) (Result B E × (MutBor A × Unit {0}))) (f : F)
    (b left : MutBor A) (r : Result B E) (f' : F)
    → Called g f (b, tt) (r, (left, tt)) f' → IfErr r (λ e. RefusesChanging (CalledAtMut g) f (Some b.now) (Some left.now) e f')
lent_err g f b left (Ok y) f' called = tt
lent_err g f b left (Err e) f' called =
    (b.now, left.now, refl, refl, record { shown = b; shows = refl; left = left; called = called; leaves = refl })
