-- A pattern says one thing with its arguments.
use Rattle.std.proofs.Common.{◌≡◌, ◌⊎◌, ◌<◌, ◌≤◌, ◌++◌, ◌-◌, ◌/◌, ◌^◌, ℕ, List, [], ◌∷◌, Option, Some, None, refl, sym, ap, subst}
use Rattle.std.proofs.Common.{◌∙◌, inl, inr, arith}
use Rattle.fixed_decimal.specs.Places.{Places}
use Rattle.fixed_decimal.specs.Places.{IsOverLimit}
use Rattle.fixed_decimal.specs.Shown.{decimal_text}
use Rattle.fixed_decimal.specs.Written.{CompactNumber, WritesUnsigned, WritesCompact, IsCompactOverLimit, OneUnsigned, OneCompact}
use Rattle.fixed_decimal.specs.declared.decimal.Decimal.{Decimal}
use Rattle.plural_operands.specs.Operands.{Operands, HasFraction, AreKept}
use Rattle.plural_base.specs.DecimalChoice.{IsKeptChoice}
use Rattle.plural_base.specs.FiveRules.{FiveRules}
use Rattle.plural_base.specs.declared.category.PluralCategory.{PluralCategory}
use Rattle.plural_base.specs.Categories.{name_of}
use Rattle.message_pattern.specs.PatternParts.{Part, PatternPiece, Text, Hash, Argument, Begin, Branch, End, Branching}
use Rattle.message_pattern.specs.declared.part.ArgumentKind.{ArgumentKind}
use Rattle.message_pattern.specs.declared.part.ArgumentKind.TheVariants.{Plural, Ordinal, Select}
use Rattle.message_format.specs.declared.error.ArgumentFault.{ArgumentFault}
use Rattle.message_format.specs.FormatArguments.{Value}
use Rattle.message_format.specs.FormatArguments as argument
use Rattle.message_format.specs.FormatBranches.{behind_end, branch_or_other, IsBranchOfValue, HasBranchOfValue, IsBranchOfNumber}
use Rattle.message_format.specs.FormatOffsets.{IsDifference, plain}
use Rattle.message_format.specs.FormatSteps.{Step, Stops, Prints, Chooses, Fails, TwoRules, StepsFromNumber, IsCounted}
use Rattle.message_format.specs.FormatSteps.{IsCountedBy, IsLess, IsCountedLess, IsPlural, IsChoice, IsPieceStep}
use Rattle.message_format.specs.FormatMeaning.{PatternOutcome, Said, Faulty, MessageSays, ends, stops, prints, chooses, breaks, fails}
use Rattle.message_format.proofs.OneDifference.{one_difference}

-- a text writes one number
pub record OneNumber : Type 0 where
  pub unsigned : OneUnsigned
  pub compact : OneCompact

-- ---- the kept operands of a number are one

abbrev pub operands : ℕ → ℕ → ℕ → ℕ → ℕ → ℕ → Operands
operands i v w f t c = record { i = i; v = v; w = w; f = f; t = t; c = c }

same_operands : (o p : Operands) → o.i ≡ p.i → o.v ≡ p.v → o.w ≡ p.w → o.f ≡ p.f → o.t ≡ p.t → o.c ≡ p.c → o ≡ p
same_operands o p i v w f t c =
    ap (λ (n : ℕ). operands n o.v o.w o.f o.t o.c) i
    ∙ (ap (λ (n : ℕ). operands p.i n o.w o.f o.t o.c) v
    ∙ (ap (λ (n : ℕ). operands p.i p.v n o.f o.t o.c) w
    ∙ (ap (λ (n : ℕ). operands p.i p.v p.w n o.t o.c) f
    ∙ (ap (λ (n : ℕ). operands p.i p.v p.w p.f n o.c) t ∙ ap (λ (n : ℕ). operands p.i p.v p.w p.f p.t n) c))))

one_least : (o p : Operands) (shown written : ℕ) → HasFraction o shown written → HasFraction p shown written → o.w ≡ p.w
one_least o p shown written h k =
    let a : o.w ≤ p.w = h.w_least p.w k.w_divides in
    let b : p.w ≤ o.w = k.w_least o.w h.w_divides in
    omega arith

one_quotient : (o p : Operands) (shown written : ℕ) → HasFraction o shown written → HasFraction p shown written → o.t ≡ p.t
one_quotient o p shown written h k = h.t ∙ (ap (λ (n : ℕ). written / 10 ^ (shown - n)) (one_least o p shown written h k) ∙ sym k.t)

pub one_kept : (x : Places) (e : ℕ) (o p : Operands) → AreKept x e o → AreKept x e p → o ≡ p
one_kept x e o p h k =
    same_operands o p (h.i ∙ sym k.i) (h.fraction.v ∙ sym k.fraction.v) (one_least o p _ _ h.fraction k.fraction)
    (h.fraction.f ∙ sym k.fraction.f) (one_quotient o p _ _ h.fraction k.fraction) (h.c ∙ sym k.c)

-- ---- the branch for a number is one

one_by_value : (x : CompactNumber) (bs : List Branching) (a b : Option (List Part)) → IsBranchOfValue x bs a → IsBranchOfValue x bs b
    → a ≡ b
one_by_value x [] a b h k = h ∙ sym k
one_by_value x (c ∷ bs) a b (inl h) (inl k) = h.1 ∙ sym k.1
one_by_value x (c ∷ bs) a b (inl h) (inr k) = absurd (k.0 h.0)
one_by_value x (c ∷ bs) a b (inr h) (inl k) = absurd (h.0 k.0)
one_by_value x (c ∷ bs) a b (inr h) (inr k) = one_by_value x bs a b h.1 k.1

-- where no branch is that of the value, there is none
pub none_of_value : (x : CompactNumber) (bs : List Branching) → IsBranchOfValue x bs None → HasBranchOfValue x bs → ⊥
none_of_value x bs none some = let e : None ≡ Some some.0 = one_by_value x bs None (Some some.0) none some.1 in cc

one_category : (rules : FiveRules) (x : Places) (e : ℕ) (c d : PluralCategory) → IsKeptChoice rules x e c → IsKeptChoice rules x e d → c ≡ d
one_category rules x e c d h k =
    let same : h.0 ≡ k.0 = one_kept x e h.0 k.0 h.1 k.1 in
    let p : c ≡ _ = h.2 in
    let q : d ≡ _ = k.2 in
    cc

one_branch : (rules : FiveRules) (x y : CompactNumber) (bs : List Branching) (p q : List Part)
    → IsBranchOfNumber rules x y bs p → IsBranchOfNumber rules x y bs q → p ≡ q
one_branch rules x y bs p q (inl h) (inl k) = let e : Some p ≡ Some q = one_by_value x bs _ _ h k in cc
one_branch rules x y bs p q (inl h) (inr k) = let e : Some p ≡ None = one_by_value x bs _ _ h k.0 in cc
one_branch rules x y bs p q (inr h) (inl k) = let e : None ≡ Some q = one_by_value x bs _ _ h.0 k in cc
one_branch rules x y bs p q (inr h) (inr k) =
    let same = one_category rules y.significand.absolute y.exponent h.1.0 k.1.0 h.1.1.kept k.1.1.kept in
    h.1.2 ∙ (ap (λ (c : PluralCategory). branch_or_other (name_of c) bs) same ∙ sym k.1.2)

-- ---- what a part does is one

-- where a text writes one number, what comes of it is one
one_read : {A : Type 0} (Writes IsOver : A → Type 0) → ((x y : A) → Writes x → Writes y → x ≡ y)
    → (name : List ℕ) (Then : A → Step → Type 0)
    → ((x : A) (s t : Step) → Then x s → Then x t → s ≡ t) → (s t : Step) → StepsFromNumber Writes IsOver name Then s
    → StepsFromNumber Writes IsOver name Then t → s ≡ t
one_read Writes IsOver one name Then same s t (inl h) (inl k) = h.1 ∙ sym k.1
one_read Writes IsOver one name Then same s t (inl h) (inr (inl k)) = absurd (h.0 k.0.0 k.0.1)
one_read Writes IsOver one name Then same s t (inl h) (inr (inr k)) = absurd (h.0 k.0 k.1)
one_read Writes IsOver one name Then same s t (inr (inl h)) (inl k) = absurd (k.0 h.0.0 h.0.1)
one_read Writes IsOver one name Then same s t (inr (inl h)) (inr (inl k)) = h.1 ∙ sym k.1
one_read Writes IsOver one name Then same s t (inr (inl h)) (inr (inr k)) = absurd (k.2 (subst IsOver (one h.0.0 k.0 h.0.1 k.1) h.0.2))
one_read Writes IsOver one name Then same s t (inr (inr h)) (inl k) = absurd (k.0 h.0 h.1)
one_read Writes IsOver one name Then same s t (inr (inr h)) (inr (inl k)) = absurd (h.2 (subst IsOver (one k.0.0 h.0 k.0.1 h.1) k.0.2))
one_read {A = A} Writes IsOver one name Then same s t (inr (inr h)) (inr (inr k)) =
    same k.0 s t (subst (λ (x : A). Then x s) (one h.0 k.0 h.1 k.1) h.3) k.3

one_counted : OneNumber → (rules : FiveRules) (name : List ℕ) (bs : List Branching) (text : List ℕ) (s t : Step)
    → IsCounted rules name bs text s → IsCounted rules name bs text t → s ≡ t
one_counted one rules name bs text s t h k =
    one_read (λ (x : CompactNumber). WritesCompact text x) (λ (x : CompactNumber). IsCompactOverLimit x)
    (λ x y p q. one.compact text x y p q) name
    (λ (x : CompactNumber) (u : Step). (parts : List Part) × IsBranchOfNumber rules x x bs parts × (u ≡ Chooses text parts))
    (λ x u v p q. p.2 ∙ (ap (λ (l : List Part). Chooses text l) (one_branch rules x x bs p.0 q.0 p.1 q.1) ∙ sym q.2)) s t h k

one_counted_by : (rules : FiveRules) (name : List ℕ) (bs : List Branching) (x : CompactNumber) (less : Decimal) (s t : Step)
    → IsCountedBy rules name bs x less s → IsCountedBy rules name bs x less t → s ≡ t
one_counted_by rules name bs x less s t (inl h) (inl k) = h.1 ∙ sym k.1
one_counted_by rules name bs x less s t (inl h) (inr k) = absurd (k.0 h.0)
one_counted_by rules name bs x less s t (inr h) (inl k) = absurd (h.0 k.0)
one_counted_by rules name bs x less s t (inr h) (inr k) =
    h.1.2 ∙ (ap (λ (l : List Part). Chooses (decimal_text less) l) (one_branch rules x (plain less) bs h.1.0 k.1.0 h.1.1 k.1.1) ∙ sym k.1.2)

one_less : OneNumber → (rules : FiveRules) (name : List ℕ) (bs : List Branching) (digits : List ℕ) (x : CompactNumber) (s t : Step)
    → IsLess rules name bs digits x s → IsLess rules name bs digits x t → s ≡ t
one_less one rules name bs digits x s t (inl h) (inl k) = h.1 ∙ sym k.1
one_less one rules name bs digits x s t (inl h) (inr k) = let l : 0 < x.exponent = h.0 in let e : x.exponent ≡ 0 =
    k.0 in absurd (omega arith)
one_less one rules name bs digits x s t (inr h) (inl k) = let l : 0 < x.exponent = k.0 in let e : x.exponent ≡ 0 =
    h.0 in absurd (omega arith)
one_less one rules name bs digits x s t (inr h) (inr k) =
    one_read (λ (o : Places). WritesUnsigned digits o) (λ (o : Places). IsOverLimit o) (λ o p q r. one.unsigned digits o p q r) name
    (λ (o : Places) (u : Step). (less : Decimal) × IsDifference x.significand o less × IsCountedBy rules name bs x less u)
    (λ o u v p q.
    let same : p.0 ≡ q.0 = one_difference x.significand o p.0 q.0 p.1 q.1 in
    one_counted_by rules name bs x q.0 u v (subst (λ (d : Decimal). IsCountedBy rules name bs x d u) same p.2) q.2) s t h.1 k.1

one_counted_less : OneNumber → (rules : FiveRules) (name : List ℕ) (bs : List Branching) (digits text : List ℕ) (s t : Step)
    → IsCountedLess rules name bs digits text s → IsCountedLess rules name bs digits text t → s ≡ t
one_counted_less one rules name bs digits text s t h k =
    one_read (λ (x : CompactNumber). WritesCompact text x) (λ (x : CompactNumber). IsCompactOverLimit x)
    (λ x y p q. one.compact text x y p q) name
    (λ (x : CompactNumber) (u : Step). IsLess rules name bs digits x u) (λ x u v p q. one_less one rules name bs digits x u v p q) s t h k

one_plural : OneNumber
    → (rules : FiveRules) (name : List ℕ) (offset : Option (List ℕ)) (bs : List Branching) (value : Option Value) (s t : Step)
    → IsPlural rules name offset bs value s → IsPlural rules name offset bs value t → s ≡ t
one_plural one rules name offset bs None s t h k = h ∙ sym k
one_plural one rules name offset bs (Some (argument.Text text)) s t h k = h ∙ sym k
one_plural one rules name (Some digits) bs (Some (argument.Number text)) s t h k = one_counted_less one rules name bs digits text s t h k
one_plural one rules name None bs (Some (argument.Number text)) s t h k = one_counted one rules name bs text s t h k

one_choice : OneNumber
    → (rules : TwoRules) (hash : List ℕ) (kind : ArgumentKind) (name : List ℕ) (offset : Option (List ℕ)) (bs : List Branching)
    (value : Option Value) (s t : Step)
    → IsChoice rules hash kind name offset bs value s → IsChoice rules hash kind name offset bs value t → s ≡ t
one_choice one rules hash Plural name offset bs value s t h k = one_plural one rules.cardinal name offset bs value s t h k
one_choice one rules hash Ordinal name offset bs value s t h k = one_plural one rules.ordinal name offset bs value s t h k
one_choice one rules hash Select name offset bs value s t h k = h ∙ sym k

one_step : OneNumber
    → (arguments : List argument.Argument) (rules : TwoRules) (hash : List ℕ) (depth : ℕ) (piece : PatternPiece) (rest : List Part)
    (s t : Step)
    → IsPieceStep arguments rules hash depth piece rest s → IsPieceStep arguments rules hash depth piece rest t → s ≡ t
one_step one arguments rules hash depth (Text text) rest s t h k = h ∙ sym k
one_step one arguments rules hash depth Hash rest s t h k = h ∙ sym k
one_step one arguments rules hash depth (Argument name) rest s t h k = h ∙ sym k
one_step one arguments rules hash depth (Begin kind name offset) rest s t h k = one_choice one rules hash kind name offset _ _ s t h k
one_step one arguments rules hash depth (Branch selector) rest s t h k = h ∙ sym k
one_step one arguments rules hash depth End rest s t h k = h ∙ sym k

-- ---- what a message says is one

-- how a message goes on behind what its first part does
abbrev pub GoesOn : List argument.Argument → TwoRules → List ℕ → List ℕ → Part → List Part → Step → PatternOutcome → Type 0
GoesOn arguments rules hash before p rest Stops o = Said before ≡ o
GoesOn arguments rules hash before p rest (Prints text) o = MessageSays arguments rules hash (before ++ text) rest o
GoesOn arguments rules hash before p rest (Chooses number branch) o =
    ((said : List ℕ) × MessageSays arguments rules number before branch (Said said) × MessageSays arguments rules hash said (behind_end p.depth rest) o)
    ⊎ ((fault : ArgumentFault) × (name : List ℕ) × MessageSays arguments rules number before branch (Faulty fault name) × (Faulty fault name ≡ o))
GoesOn arguments rules hash before p rest (Fails fault name) o = Faulty fault name ≡ o

-- how a message goes on
abbrev pub Follows : List argument.Argument → TwoRules → List ℕ → List ℕ → List Part → PatternOutcome → Type 0
Follows arguments rules hash before [] o = Said before ≡ o
Follows arguments rules hash before (p ∷ rest) o =
    (s : Step) × IsPieceStep arguments rules hash p.depth p.piece rest s × GoesOn arguments rules hash before p rest s o

follows : {arguments : List argument.Argument} {rules : TwoRules} {hash before : List ℕ} {parts : List Part} {o : PatternOutcome}
    → MessageSays arguments rules hash before parts o → Follows arguments rules hash before parts o
follows (ends hash before) = refl
follows (stops hash before p rest h) = (Stops, h, refl)
follows (prints hash before text p rest o h k) = (Prints text, h, k)
follows (chooses hash number before said p rest branch o h j k) = (Chooses number branch, h, inl (said, j, k))
follows (breaks hash number before name p rest branch fault h j) = (Chooses number branch, h, inr (fault, name, j, refl))
follows (fails hash before name p rest fault h) = (Fails fault name, h, refl)

-- where the first part does this, the message goes on so
goes_on : {arguments : List argument.Argument} {rules : TwoRules} {hash before : List ℕ} {rest : List Part} {o : PatternOutcome} → OneNumber
    → (p : Part) (s : Step)
    → IsPieceStep arguments rules hash p.depth p.piece rest s → MessageSays arguments rules hash before (p ∷ rest) o
    → GoesOn arguments rules hash before p rest s o
goes_on {arguments = arguments} {rules = rules} {hash = hash} {before = before} {rest = rest} {o = o} one p s h other =
    let f = follows other in
    subst (λ (t : Step). GoesOn arguments rules hash before p rest t o) (one_step one arguments rules hash p.depth p.piece rest f.0 s f.1 h)
    f.2

-- how a message goes on behind the branch that it chose
abbrev pub Behind : List argument.Argument → TwoRules → List ℕ → ℕ → List Part → PatternOutcome → PatternOutcome → Type 0
Behind arguments rules hash depth rest (Said said) o = MessageSays arguments rules hash said (behind_end depth rest) o
Behind arguments rules hash depth rest (Faulty fault name) o = Faulty fault name ≡ o

-- a message says one thing
pub one_outcome : {arguments : List argument.Argument} {rules : TwoRules} {hash before : List ℕ} {parts : List Part} {a b : PatternOutcome}
    → OneNumber
    → MessageSays arguments rules hash before parts a → MessageSays arguments rules hash before parts b → a ≡ b
one_outcome one (ends hash before) other = follows other
one_outcome one (stops hash before p rest h) other = goes_on one p Stops h other
one_outcome one (prints hash before text p rest o h k) other = one_outcome one k (goes_on one p (Prints text) h other)
one_outcome {arguments = arguments} {rules = rules} {b = b} one (chooses hash number before said p rest branch o h j k) other =
    elim (goes_on one p (Chooses number branch) h other) [
      | inl x ↦ one_outcome one k
          (subst (λ (m : PatternOutcome). Behind arguments rules hash p.depth rest m b) (sym (one_outcome one j x.1)) x.2)
      | inr x ↦ let e : Said said ≡ Faulty x.0 x.1 = one_outcome one j x.2 in cc
    ]
one_outcome {b = b} one (breaks hash number before name p rest branch fault h j) other =
    elim (goes_on one p (Chooses number branch) h other) [
      | inl x ↦ let e : Faulty fault name ≡ Said x.0 = one_outcome one j x.1 in cc
      | inr x ↦ one_outcome one j x.2 ∙ x.3
    ]
one_outcome one (fails hash before name p rest fault h) other = goes_on one p (Fails fault name) h other
