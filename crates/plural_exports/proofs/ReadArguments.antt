-- Arguments that are read one after another.
use Rattle.std.proofs.Common.{◌≡◌, ℕ, ◌-◌, ◌≤◌, ◌<◌, ◌++◌, List, [], ◌∷◌, length, take, drop, get_or, Result, Ok, Err, inl, inr}
use Rattle.std.proofs.Common.{refl, subst, sym, ap, ◌∙◌, arith}
use Rattle.std.proofs.lemmas.List.{append-nil, append_assoc, map-append, take_all}
use Rattle.message_format.specs.declared.arguments.Argument as arguments
use Rattle.message_format.specs.FormatArguments.{Argument, named_value_view, named_values_view}
use Rattle.plural_exports.specs.GivenArguments.{AreArguments, ReadsArgument}
use Rattle.plural_exports.specs.declared.arguments.GivenArgument.{GivenArgument}
use Rattle.plural_exports.specs.declared.fault.Fault.{Fault}
use Rattle.plural_exports.specs.declared.fault.Fault.TheVariants.{Memory}

-- what is read behind these
abbrev pub behind : List Argument → Result (List Argument) Fault → Result (List Argument) Fault
behind read (Ok others) = Ok (read ++ others)
behind read (Err fault) = Err fault

-- what the rest is read as stands behind what was read
abbrev pub IsReadBefore : List GivenArgument → List Argument → List GivenArgument → Type 0
IsReadBefore given read left =
    (answer : Result (List Argument) Fault) → AreArguments left answer → AreArguments given (behind read answer)

pub begins : (given : List GivenArgument) → IsReadBefore given [] given
begins given (Ok others) is = is
begins given (Err fault) is = is

-- the arguments are the first one and the rest
pub headed : (given : List GivenArgument) (d : GivenArgument) (n : ℕ) → 1 ≤ length given → n ≡ length given
    → given ≡ get_or given 0 d ∷ take (n - 1) (drop 1 given)
headed [] d n h e = absurd (omega arith)
headed (g ∷ given) d n h e = ap (λ (l : List GivenArgument). g ∷ l) (sym (take_all (n - 1) given (omega arith)))

-- one argument more
pub goes_on : (given : List GivenArgument) (read new : List arguments.Argument) (left rest : List GivenArgument) (first : GivenArgument)
    (x : arguments.Argument)
    → left ≡ first ∷ rest → ReadsArgument first (Ok (named_value_view x)) → new ≡ read ++ (x ∷ [])
    → IsReadBefore given (named_values_view read) left → IsReadBefore given (named_values_view new) rest
goes_on given read new left rest first x parts one pushed before (Ok others) is =
    subst (λ (all : List Argument). AreArguments given (Ok all))
    (sym (ap (λ (l : List arguments.Argument). named_values_view l ++ others) pushed
    ∙ ap (λ (l : List Argument). l ++ others) (map-append named_value_view read (x ∷ []))
    ∙ append_assoc (named_values_view read) (named_value_view x ∷ []) others))
    (before (Ok (named_value_view x ∷ others))
    (subst (λ (l : List GivenArgument). AreArguments l (Ok (named_value_view x ∷ others))) (sym parts)
    (Ok (named_value_view x), one, inl (Ok others, is, refl))))
goes_on given read new left rest first x parts one pushed before (Err fault) is =
    before (Err fault)
    (subst (λ (l : List GivenArgument). AreArguments l (Err fault)) (sym parts) (Ok (named_value_view x), one, inl (Err fault, is, refl)))

-- no argument is left
pub ends : (given : List GivenArgument) (read : List Argument) (left : List GivenArgument) → length left < 1 → IsReadBefore given read left
    → AreArguments given (Ok read)
ends given read [] few before =
    subst (λ (all : List Argument). AreArguments given (Ok all)) (append-nil read) (before (Ok []) refl)
ends given read (first ∷ rest) few before = absurd (omega (arith, few))

-- the first fault
pub stops : (given : List GivenArgument) (read : List Argument) (left rest : List GivenArgument) (first : GivenArgument) (fault : Fault)
    → left ≡ first ∷ rest → ReadsArgument first (Err fault) → IsReadBefore given read left → AreArguments given (Err fault)
stops given read left rest first fault parts one before =
    before (Err fault) (subst (λ (l : List GivenArgument). AreArguments l (Err fault)) (sym parts) (Err fault, one, refl))

-- memory runs out for an argument that has no fault
pub runs_out : (given : List GivenArgument) (read : List Argument) (left rest : List GivenArgument) (first : GivenArgument) (x : Argument)
    → left ≡ first ∷ rest → ReadsArgument first (Ok x) → IsReadBefore given read left → AreArguments given (Err Memory)
runs_out given read left rest first x parts one before =
    before (Err Memory) (subst (λ (l : List GivenArgument). AreArguments l (Err Memory)) (sym parts) (Ok x, one, inr refl))
