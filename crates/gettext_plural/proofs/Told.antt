-- What the reader of whole texts returns is the only answer.
use Rattle.std.proofs.Common.{◌≡◌, ◌⊎◌, ℕ, ◌-◌, ◌<◌, ◌≤◌, List, [], ◌∷◌, ◌++◌, length, Result, Ok, Err, refl, sym, ap, ◌∙◌, subst, inl, inr, ⊎_elim, arith}
use Rattle.std.proofs.lemmas.List.{append_assoc, append_cancel_right, append-nil}
use Rattle.std.proofs.lemmas.Bool.{cases_lt}
use Rattle.gettext_plural.specs.declared.error.Fault.{Fault}
use Rattle.gettext_plural.specs.declared.error.FaultKind.{FaultKind}
use Rattle.gettext_plural.specs.declared.error.FaultKind.TheVariants.{TooLong}
use Rattle.gettext_plural.specs.declared.error.PluralFormsError as error
use Rattle.gettext_plural.specs.declared.error.PluralFormsError.TheVariants as errors
use Rattle.gettext_plural.specs.declared.error.ReadError.{ReadError}
use Rattle.gettext_plural.specs.declared.error.ReadError.TheVariants as read
use Rattle.gettext_plural.specs.declared.forms.TheConstants.{SIZE_LIMIT}
use Rattle.gettext_plural.specs.declared.token.Token.{Token}
use Rattle.gettext_plural.specs.PluralTokens.{AreFormulaTokensOf, PassesTokens}
use Rattle.gettext_plural.specs.PluralExpressions.{Formula, Forms, IsPluralExpression, Spells}
use Rattle.gettext_plural.specs.PluralHeaders.{header}
use Rattle.gettext_plural.specs.PluralAnswers.{BeginsExpression, NoneGoesOn, missing, HasExpressionFault, HasPluralFormsFault, HasFaultBefore, HasFaultWithin, IsPluralForms, IsWhatIsSaid, ParsesExactly, SaysOrFails}
use Rattle.gettext_plural.specs.Inner.PluralMachine.{FormulaOutcome, expects, run_from_stage}
use Rattle.gettext_plural.specs.Inner.FormulaViews.{HasRead, IsParsedError, ReadsFormula, Stops, error_at}
use Rattle.gettext_plural.proofs.MachineComplete.{read_whole}
use Rattle.gettext_plural.proofs.MachineSound.{run_sound}
use Rattle.gettext_plural.proofs.MachineStops.{IsFirst, is_first}
use Rattle.gettext_plural.proofs.TokenCuts.{PassedTo, one_cut, one_rest, passed_cut, passed_to, tokens_exist}

-- ---- Expressions

-- what is read is an expression
is_expression : (text : List ℕ) (e : Formula) → ReadsFormula text e → IsPluralExpression text e
is_expression text e r = (r.0, r.1, run_sound r.0 (expects []) [] e refl r.2)

-- a text is one expression at most
one_expression : (text : List ℕ) (a b : Formula) → IsPluralExpression text a → IsPluralExpression text b → a ≡ b
one_expression text a b h k =
    let same : h.0 ≡ k.0 = one_cut text h.0 k.0 h.1 k.1 in
    let first : run_from_stage (expects []) h.0 ≡ Ok a = read_whole h.0 a h.2 in
    let second : run_from_stage (expects []) k.0 ≡ Ok b = read_whole k.0 b k.2 in
    let both : run_from_stage (expects []) h.0 ≡ run_from_stage (expects []) k.0 = ap (run_from_stage (expects [])) same in
    let alike : Ok a ≡ run_from_stage (expects []) k.0 = sym first ∙ both in
    let equal : Ok a ≡ Ok b = alike ∙ second in
    cc

first_fault : (text : List ℕ) (all more : List Token) (kind : FaultKind) (rest : List ℕ) (f : IsFirst all kind more)
    → PassesTokens text f.before rest → AreFormulaTokensOf rest more → HasExpressionFault text kind (length rest)
first_fault text all more kind rest f passed there = record {
  before = f.before;
  more = more;
  rest = rest;
  passed = passed;
  remains = refl;
  there = there;
  begins = f.begins;
  stops = f.stops;
  kind_is = f.kind_is;
}

-- where the reader stops is the first fault
is_fault : (text : List ℕ) (kind : FaultKind) (left : ℕ) → Stops text kind left → HasExpressionFault text kind left
is_fault text kind left s =
    let f = is_first (s.before ++ s.more) kind s.more s.stops in
    let P : List Token → Type 0 = λ ts. PassesTokens text ts s.rest in
    let passed = subst P (append_cancel_right s.before f.before s.more f.parts) s.passed in
    let Q : ℕ → Type 0 = λ n. HasExpressionFault text kind n in
    subst Q (sym s.remains) (first_fault text (s.before ++ s.more) s.more kind s.rest f passed s.there)

-- all tokens of a text with a fault
cut_at : (text : List ℕ) (kind : FaultKind) (left : ℕ) (f : HasExpressionFault text kind left) → AreFormulaTokensOf text (f.before ++ f.more)
cut_at text kind left f = passed_cut text f.before f.rest f.more f.passed f.there

none_there : (before more : List Token) (e : Formula) → NoneGoesOn before more → Spells 0 (before ++ more) e → ⊥
none_there before [] e none s =
    let P : List Token → Type 0 = λ ts. Spells 0 ts e in
    none e (subst P (append-nil before) s)
none_there before (t ∷ more) e none s = none more e s

-- an expression has no fault
no_expression_fault : (text : List ℕ) (e : Formula) (kind : FaultKind) (left : ℕ) → IsPluralExpression text e
    → HasExpressionFault text kind left → ⊥
no_expression_fault text e kind left h f =
    let same : h.0 ≡ f.before ++ f.more = one_cut text h.0 (f.before ++ f.more) h.1 (cut_at text kind left f) in
    let P : List Token → Type 0 = λ ts. Spells 0 ts e in
    none_there f.before f.more e f.stops (subst P same h.2)

-- ---- One fault of an expression

-- two lists are cut from one, and the second reaches so much further
abbrev GoesFurther : List Token → List Token → List Token → List Token → Type 0
GoesFurther a b c d = (e : List Token) × (c ≡ a ++ e) × (b ≡ e ++ d)

two_cuts : (a b c d : List Token) → a ++ b ≡ c ++ d → GoesFurther a b c d ⊎ GoesFurther c d a b
two_cuts [] b c d is = inl (c, refl, is)
two_cuts (t ∷ a) b [] d is = inr (t ∷ a, refl, sym is)
two_cuts (t ∷ a) b (u ∷ c) d is =
    let first : t ≡ u = cc in
    let rest : a ++ b ≡ c ++ d = cc in
    ⊎_elim
    (λ h. inl (h.0, ap (λ x. u ∷ x) h.1 ∙ ap (λ x. x ∷ (a ++ h.0)) (sym first), h.2))
    (λ h. inr (h.0, ap (λ x. t ∷ x) h.1 ∙ ap (λ x. x ∷ (c ++ h.0)) first, h.2))
    (two_cuts a b c d rest)

-- two parts of tokens are the same
abbrev AreBoth : List Token → List Token → List Token → List Token → Type 0
AreBoth a b c d = (a ≡ c) × (b ≡ d)

-- no expression goes on with the next token, so none that begins with more tokens
no_further : (a b c d e : List Token) → NoneGoesOn a b → BeginsExpression c → c ≡ a ++ e → b ≡ e ++ d → AreBoth a b c d
no_further a b c d [] none begun is more = (sym (is ∙ append-nil a), more)
no_further a b c d (t ∷ e) none begun is more =
    let P : List Token → Type 0 = λ ts. NoneGoesOn a ts in
    let Q : List Token → Type 0 = λ ts. Spells 0 ts begun.formula in
    let never : NoneGoesOn a (t ∷ (e ++ d)) = subst P more none in
    let spelled = subst Q (ap (λ x. x ++ begun.behind) is ∙ append_assoc a (t ∷ e) begun.behind) begun.spelled in
    absurd (never (e ++ begun.behind) begun.formula spelled)

one_stop : (a b c d : List Token) → a ++ b ≡ c ++ d → BeginsExpression a → NoneGoesOn a b → BeginsExpression c → NoneGoesOn c d → AreBoth a b c d
one_stop a b c d is first stops second ends =
    ⊎_elim (λ h. no_further a b c d h.0 stops second h.1 h.2)
    (λ h. (let same : AreBoth c d a b = no_further c d a b h.0 ends first h.1 h.2 in (sym same.0, sym same.1)))
    (two_cuts a b c d is)

-- the same kind, and the same number
abbrev AreSame : FaultKind → FaultKind → ℕ → ℕ → Type 0
AreSame k l m n = (k ≡ l) × (m ≡ n)

one_expression_fault : (text : List ℕ) (k l : FaultKind) (m n : ℕ) → HasExpressionFault text k m → HasExpressionFault text l n
    → AreSame k l m n
one_expression_fault text k l m n f g =
    let is = one_cut text (f.before ++ f.more) (g.before ++ g.more) (cut_at text k m f) (cut_at text l n g) in
    let same : AreBoth f.before f.more g.before g.more =
    one_stop f.before f.more g.before g.more is f.begins f.stops g.begins g.stops in
    let P : List Token → Type 0 = λ ts. PassesTokens text ts f.rest in
    let rests = one_rest text g.before f.rest g.rest (subst P same.0 f.passed) g.passed in
    let kinds = ap (λ ts. missing ts f.more) same.0 ∙ ap (missing g.before) same.1 in
    (f.kind_is ∙ kinds ∙ sym g.kind_is, f.remains ∙ ap length rests ∙ sym g.remains)

-- ---- Each expression

-- each text is an expression, or has a fault
abbrev ReadsOrFails : List ℕ → Type 0
ReadsOrFails text = ((e : Formula) × IsPluralExpression text e) ⊎ ((kind : FaultKind) × (left : ℕ) × HasExpressionFault text kind left)

told_by : (text : List ℕ) (ts : List Token) → AreFormulaTokensOf text ts → (r : FormulaOutcome) → run_from_stage (expects []) ts ≡ r → ReadsOrFails text
told_by text ts cut (Ok e) is = inl (e, is_expression text e (ts, cut, is))
told_by text ts cut (Err (kind, more)) is =
    let f : IsFirst ts kind more = is_first ts kind more is in
    let b : PassedTo text f.before more = passed_to text ts f.before more cut f.parts in
    inr (kind, length b.rest, first_fault text ts more kind b.rest f b.passed b.there)

told : (text : List ℕ) → ReadsOrFails text
told text = let ts = tokens_exist text in told_by text ts.0 ts.1 (run_from_stage (expects []) ts.0) refl

-- ---- Whole texts

abbrev IsBoth : ℕ → ℕ → List ℕ → List ℕ → Type 0
IsBoth m n s t = (m ≡ n) × (s ≡ t)

-- what stands before an expression is read in one way
both_are : (text : List ℕ) (m n : ℕ) (s t : List ℕ) → header text ≡ Ok (m, s) → header text ≡ Ok (n, t) → IsBoth m n s t
both_are text m n s t is is' =
    let A : Type 0 = ℕ × List ℕ in
    let first : A = (m, s) in
    let second : A = (n, t) in
    let R : Type 0 = Result A Fault in
    let one : R = Ok first in
    let other : R = Ok second in
    let both : one ≡ other = sym is ∙ is' in
    let pair : first ≡ second = cc in
    (ap (λ (it : ℕ × List ℕ). it.0) pair, ap (λ (it : ℕ × List ℕ). it.1) pair)

-- a text says one thing at most
pub one_thing : (text : List ℕ) (a b : Forms) → IsPluralForms text a → IsPluralForms text b → a ≡ b
one_thing text a b h k =
    let same : IsBoth a.count b.count h.rest k.rest = both_are text a.count b.count h.rest k.rest h.begins k.begins in
    let counts : a.count ≡ b.count = same.0 in
    let rests : h.rest ≡ k.rest = same.1 in
    let P : List ℕ → Type 0 = λ s. IsPluralExpression s a.formula in
    let formulas : a.formula ≡ b.formula = one_expression k.rest a.formula b.formula (subst P rests h.spelled) k.spelled in
    let first : a ≡ record { count = b.count; formula = a.formula } =
    ap (λ n. let f : Forms = record { count = n; formula = a.formula } in f) counts in
    let second : record { count = b.count; formula = a.formula } ≡ b =
    ap (λ e. let f : Forms = record { count = b.count; formula = e } in f) formulas in
    first ∙ second

fault_apart : (text : List ℕ) (forms : Forms) (kind : FaultKind) (left : ℕ) → IsPluralForms text forms → HasFaultBefore text kind left → ⊥
fault_apart text forms kind left h (inl stops) =
    let begins = h.begins in
    cc
fault_apart text forms kind left h (inr b) =
    let same : IsBoth forms.count b.count h.rest b.rest = both_are text forms.count b.count h.rest b.rest h.begins b.begins in
    let rests : h.rest ≡ b.rest = same.1 in
    let P : List ℕ → Type 0 = λ s. IsPluralExpression s forms.formula in
    no_expression_fault b.rest forms.formula kind left (subst P rests h.spelled) b.fault

-- what it says is no fault
pub no_fault : (text : List ℕ) (forms : Forms) (kind : FaultKind) (place : ℕ) → IsPluralForms text forms → HasPluralFormsFault text kind place → ⊥
no_fault text forms kind place h (inl long) = let short = h.short in omega (arith, long.0, short)
no_fault text forms kind place h (inr within) = fault_apart text forms kind within.left h within.stops

one_fault_before : (text : List ℕ) (k l : FaultKind) (m n : ℕ) → HasFaultBefore text k m → HasFaultBefore text l n → AreSame k l m n
one_fault_before text k l m n (inl f) (inl g) =
    let first : Fault = record { kind = k; left = m } in
    let second : Fault = record { kind = l; left = n } in
    let R : Type 0 = Result (ℕ × List ℕ) Fault in
    let one : R = Err first in
    let other : R = Err second in
    let both : one ≡ other = sym f ∙ g in
    let same : first ≡ second = cc in
    (ap (λ (x : Fault). x.kind) same, ap (λ (x : Fault). x.left) same)
one_fault_before text k l m n (inl f) (inr g) = let begins = g.begins in absurd cc
one_fault_before text k l m n (inr f) (inl g) = let begins = f.begins in absurd cc
one_fault_before text k l m n (inr f) (inr g) =
    let same : IsBoth f.count g.count f.rest g.rest = both_are text f.count g.count f.rest g.rest f.begins g.begins in
    let P : List ℕ → Type 0 = λ s. HasExpressionFault s k m in
    one_expression_fault g.rest k l m n (subst P same.1 f.fault) g.fault

-- a text has one fault at most
pub one_fault : (text : List ℕ) (k l : FaultKind) (p q : ℕ) → HasPluralFormsFault text k p → HasPluralFormsFault text l q → AreSame k l p q
one_fault text k l p q (inl f) (inl g) = (f.1 ∙ sym g.1, f.2 ∙ sym g.2)
one_fault text k l p q (inl f) (inr g) = let short = g.short in absurd (omega (arith, f.0, short))
one_fault text k l p q (inr f) (inl g) = let short = f.short in absurd (omega (arith, g.0, short))
one_fault text k l p q (inr f) (inr g) =
    let same : AreSame k l f.left g.left = one_fault_before text k l f.left g.left f.stops g.stops in
    (same.0, f.place_is ∙ ap (λ n. length text - n) same.1 ∙ sym g.place_is)

read_only : (text : List ℕ) (r : Result Forms error.PluralFormsError) → IsWhatIsSaid text r → (forms : Forms) → IsPluralForms text forms
    → (r ≡ Ok forms) ⊎ (r ≡ Err errors.Memory)
read_only text (Ok a) h forms k = inl (ap Ok (one_thing text a forms h k))
read_only text (Err errors.Memory) h forms k = inr refl
read_only text (Err (errors.Fault kind place)) h forms k = absurd (no_fault text forms kind place k h.0)

pub exactly : (text : List ℕ) (r : Result Forms error.PluralFormsError) → IsWhatIsSaid text r → ParsesExactly text r
exactly text r h = record { only = h; read = read_only text r h }

-- a text that isn't too long, and is read
pub read_exactly : (text : List ℕ) (forms : Forms) → length text ≤ SIZE_LIMIT → HasRead text forms → ParsesExactly text (Ok forms)
read_exactly text forms short h =
    exactly text (Ok forms) (record {
      short = short;
      rest = h.rest;
      begins = h.begins;
      spelled = is_expression h.rest forms.formula h.reads;
    })

fault_before : (text : List ℕ) (f : Fault) → IsParsedError text (read.Fault f) → HasFaultBefore text f.kind f.left
fault_before text f (inl stops) = inl stops
fault_before text f (inr b) =
    inr (record { count = b.count; rest = b.rest; begins = b.begins; fault = is_fault b.rest f.kind f.left b.stops })

-- one at which the reader stops
pub stopped_exactly : (text : List ℕ) (e : ReadError) → length text ≤ SIZE_LIMIT → IsParsedError text e
    → ParsesExactly text (Err (error_at text e))
stopped_exactly text read.Memory short h = exactly text (Err errors.Memory) tt
stopped_exactly text (read.Fault f) short h =
    let within : HasFaultWithin text f.kind (length text - f.left) =
    record { short = short; left = f.left; stops = fault_before text f h; place_is = refl } in
    exactly text (Err (errors.Fault f.kind (length text - f.left))) (inr within, omega arith)

pub too_long : (text : List ℕ) → SIZE_LIMIT < length text → ParsesExactly text (Err (errors.Fault TooLong SIZE_LIMIT))
too_long text long = exactly text (Err (errors.Fault TooLong SIZE_LIMIT)) (inl (long, refl, refl), omega arith)

-- ---- Each text

header_told : (text : List ℕ) (r : Result (ℕ × List ℕ) Fault) → length text ≤ SIZE_LIMIT → header text ≡ r → SaysOrFails text
header_told text (Err f) short is =
    inr (f.kind, length text - f.left, inr (record { short = short; left = f.left; stops = inl is; place_is = refl }))
header_told text (Ok (count, rest)) short is =
    ⊎_elim
    (λ h. inl (record { count = count; formula = h.0 }, record { short = short; rest = rest; begins = is; spelled = h.1 }))
    (λ f. inr (
      f.0,
      length text - f.1,
      inr (record {
        short = short;
        left = f.1;
        stops = inr (record { count = count; rest = rest; begins = is; fault = f.2 });
        place_is = refl;
      }),
    ))
    (told rest)

pub says_or_fails : (text : List ℕ) → SaysOrFails text
says_or_fails text =
    ⊎_elim (λ long. inr (TooLong, SIZE_LIMIT, inl (long, refl, refl))) (λ short. header_told text (header text) short refl)
    (cases_lt SIZE_LIMIT (length text))
