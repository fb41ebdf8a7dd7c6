-- Calls of a closure with values that may be absent, one after another. `call f x y g` says that a
-- call of the closure f with x may return y and leave the closure as g.
--     CallsEach call f xs ys last      one call with each value of xs that is present, in order; ys
--         has the results at their keys
--     VisitsEach call f xs last      the same calls, with any results
--     StopsAt call f xs e last      calls in order, all return Ok, up to the first that returns an
--         Err, Err e, and leaves last
--     StopsAtChanging call f xs ys e last      such calls, which may change their values: ys has
--         what is left at the places of xs
use Rattle.std.specs.Prelude.{◌≡◌, List, [], ◌∷◌, ◌++◌, Option, Some, None, Result, Ok, Err}

-- one place: one call if a value is present, and its result; else no call and no result
abbrev pub CallsAt : {F A B : Type 0} → (F → A → B → F → Type 0) → F → Option A → Option B → F → Type 0
CallsAt call f None y g = (y ≡ None) × (g ≡ f)
CallsAt {F} {A} {B} call f (Some x) y g = (answer : B) × (y ≡ Some answer) × call f x answer g

abbrev pub CallsEach : {F A B : Type 0} → (F → A → B → F → Type 0) → F → List (Option A) → List (Option B) → F → Type 0
CallsEach call f [] [] last = last ≡ f
CallsEach {F} call f (x ∷ xs) (y ∷ ys) last = (g : F) × CallsAt call f x y g × CallsEach call g xs ys last
CallsEach call f _ _ last = ⊥

-- one place, with any result
abbrev pub VisitsAt : {F A B : Type 0} → (F → A → B → F → Type 0) → F → Option A → F → Type 0
VisitsAt call f None g = g ≡ f
VisitsAt {F} {A} {B} call f (Some x) g = (answer : B) × call f x answer g

abbrev pub VisitsEach : {F A B : Type 0} → (F → A → B → F → Type 0) → F → List (Option A) → F → Type 0
VisitsEach call f [] last = last ≡ f
VisitsEach {F} call f (x ∷ xs) last = (g : F) × VisitsAt call f x g × VisitsEach call g xs last

-- one place: a value is present, and the call with it returns Err e
abbrev pub RefusesAt : {F A B E : Type 0} → (F → A → Result B E → F → Type 0) → F → Option A → E → F → Type 0
RefusesAt {F} {A} call f place e g = (x : A) × (place ≡ Some x) × call f x (Err e) g

pub record StopsAt {F A B E : Type 0} (call : F → A → Result B E → F → Type 0) (f : F) (xs : List (Option A)) (e : E)
    (last : F) : Type 0 where
  pub before : List (Option A)
  pub place : Option A
  pub after : List (Option A)
  pub parts : xs ≡ before ++ place ∷ after
  pub state : F
  pub answered : VisitsEach (λ p x y q. call p x (Ok y) q) f before state
  pub refused : RefusesAt call state place e last

-- one place: a value is present, the call with it returns Err e, and y is what it leaves
abbrev pub RefusesChanging : {F A B E : Type 0} → (F → A → Result B E → F → A → Type 0) → F → Option A → Option A → E → F → Type 0
RefusesChanging {F} {A} call f place left e g = (x : A) × (y : A) × (place ≡ Some x) × (left ≡ Some y) × call f x (Err e) g y

-- a call that leaves y
abbrev pub Changes : {F A B : Type 0} → (F → A → B → F → A → Type 0) → F → A → A → F → Type 0
Changes {F} {A} {B} call f x y g = (answer : B) × call f x answer g y

-- a call that returns Ok and leaves y
abbrev pub ChangesTo : {F A B E : Type 0} → (F → A → Result B E → F → A → Type 0) → F → A → A → F → Type 0
ChangesTo {F} {A} {B} call f x y g = (answer : B) × call f x (Ok answer) g y

pub record StopsAtChanging {F A B E : Type 0} (call : F → A → Result B E → F → A → Type 0) (f : F) (xs ys : List (Option A))
    (e : E) (last : F) : Type 0 where
  pub before : List (Option A)
  pub place : Option A
  pub after : List (Option A)
  pub parts : xs ≡ before ++ place ∷ after
  pub changed : List (Option A)
  pub left : Option A
  pub new_parts : ys ≡ changed ++ left ∷ after
  pub state : F
  pub answered : CallsEach (ChangesTo call) f before changed state
  pub refused : RefusesChanging call state place left e last
