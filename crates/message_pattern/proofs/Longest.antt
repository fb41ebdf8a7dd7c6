-- The longest front of bytes of a class is one.
use Rattle.std.proofs.Common.{◌≡◌, ◌<◌, ℕ, zero, suc, List, [], ◌∷◌, ◌++◌, Bool, true, false, length, drop, refl, sym, ap, subst, arith, ◌∙◌, if◌then◌else◌}
use Rattle.pattern_bytes.specs.declared.bytes.Class.{Class}
use Rattle.pattern_bytes.specs.PatternBytes.{begins, class_front, behind_run}
use Rattle.message_pattern.specs.PatternGrammar.{IsLongest}

-- a run and what follows it are the text
class_front-whole : (class : Class) (s : List ℕ) → class_front class s ++ behind_run class s ≡ s
class_front-whole class [] = refl
class_front-whole class (b ∷ s) =
    elim (begins class (b ∷ s)) as (λ (v : Bool). (if v then b ∷ class_front class s else []) ++
    (if v then behind_run class s else b ∷ s) ≡ b ∷ s) [
      | true ↦ ap (λ (t : List ℕ). b ∷ t) (class_front-whole class s)
      | false ↦ refl
    ]

-- at each place before the rest a byte of the class begins
abbrev pub AllBegin : Class → List ℕ → List ℕ → Type 0
AllBegin class s taken = (i : ℕ) → i < length taken → begins class (drop i s) ≡ true

each_step : (class : Class) (b : ℕ) (s r : List ℕ) (v : Bool) → begins class (b ∷ s) ≡ v → AllBegin class s r
    → AllBegin class (b ∷ s) (if v then b ∷ r else [])
each_step class b s r true e h zero l = e
each_step class b s r true e h (suc i) l = h i (omega (arith, l))
each_step class b s r false e h i l = absurd (omega (arith, l))

class_front-each : (class : Class) (s : List ℕ) → AllBegin class s (class_front class s)
class_front-each class [] i l = absurd (omega (arith, l))
class_front-each class (b ∷ s) i l = each_step class b s (class_front class s) (begins class (b ∷ s)) refl (class_front-each class s) i l

stops_step : (class : Class) (b : ℕ) (r s : List ℕ) (v : Bool) → begins class (b ∷ s) ≡ v → begins class r ≡ false
    → begins class (if v then r else b ∷ s) ≡ false
stops_step class b r s true e h = h
stops_step class b r s false e h = e

behind-stops : (class : Class) (s : List ℕ) → begins class (behind_run class s) ≡ false
behind-stops class [] = refl
behind-stops class (b ∷ s) = stops_step class b (behind_run class s) s (begins class (b ∷ s)) refl (behind-stops class s)

-- a run is longest
pub is_longest : (class : Class) (s : List ℕ) → IsLongest class s (class_front class s) (behind_run class s)
is_longest class s = record { whole = sym (class_front-whole class s); each = class_front-each class s; longest = behind-stops class s }

-- behind the first byte
pub later : (class : Class) (b : ℕ) (t s : List ℕ) → AllBegin class (b ∷ s) (b ∷ t) → AllBegin class s t
later class b t s a i l = a (suc i) (omega (arith, l))

pub first : (class : Class) (b : ℕ) (t s : List ℕ) → AllBegin class (b ∷ s) (b ∷ t) → begins class (b ∷ s) ≡ true
first class b t s a = a zero (omega arith)

run_front : (class : Class) (t r : List ℕ) → AllBegin class (t ++ r) t → begins class r ≡ false → class_front class (t ++ r) ≡ t
run_front class [] [] a h = refl
run_front class [] (b ∷ r) a h = ap (λ (v : Bool). if v then b ∷ class_front class r else []) h
run_front class (b ∷ t) r a h =
    ap (λ (v : Bool). if v then b ∷ class_front class (t ++ r) else []) (first class b t (t ++ r) a)
    ∙ ap (λ (l : List ℕ). b ∷ l) (run_front class t r (later class b t (t ++ r) a) h)

behind_front : (class : Class) (t r : List ℕ) → AllBegin class (t ++ r) t → begins class r ≡ false → behind_run class (t ++ r) ≡ r
behind_front class [] [] a h = refl
behind_front class [] (b ∷ r) a h = ap (λ (v : Bool). if v then behind_run class r else b ∷ r) h
behind_front class (b ∷ t) r a h =
    ap (λ (v : Bool). if v then behind_run class (t ++ r) else b ∷ (t ++ r)) (first class b t (t ++ r) a)
    ∙ behind_front class t r (later class b t (t ++ r) a) h

-- in the text that is taken apart
pub each_in : (class : Class) (s t r : List ℕ) → IsLongest class s t r → AllBegin class (t ++ r) t
each_in class s t r l = subst (λ (u : List ℕ). AllBegin class u t) l.whole l.each

-- the longest front is the run
pub longest_run : (class : Class) (s t r : List ℕ) → IsLongest class s t r → class_front class s ≡ t
longest_run class s t r l = ap (λ (u : List ℕ). class_front class u) l.whole ∙ run_front class t r (each_in class s t r l) l.longest

pub longest_rest : (class : Class) (s t r : List ℕ) → IsLongest class s t r → behind_run class s ≡ r
longest_rest class s t r l = ap (λ (u : List ℕ). behind_run class u) l.whole ∙ behind_front class t r (each_in class s t r l) l.longest

-- where a front isn't empty, a byte of the class begins the text
pub longest_begins : (class : Class) (s : List ℕ) (b : ℕ) (t r : List ℕ) → IsLongest class s (b ∷ t) r → begins class (b ∷ (t ++ r)) ≡ true
longest_begins class s b t r l = first class b t (t ++ r) (each_in class s (b ∷ t) r l)
