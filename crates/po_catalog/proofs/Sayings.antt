-- A line says one text, or has one fault.
use Rattle.std.proofs.Common.{◌≡◌, ◌⊎◌, ◌∙◌, ◌++◌, ℕ, List, [], ◌∷◌, Result, Ok, Err, refl, sym, ap, subst, append_assoc, inl, inr}
use Rattle.std.proofs.lemmas.List.{append-nil}
use Rattle.std.specs.Borrow.{Bor}
use Rattle.std.specs.Global.{Vec}
use Rattle.po_catalog.specs.declared.fault.Cause.{Cause}
use Rattle.po_catalog.specs.declared.fault.ReadError.{ReadError}
use Rattle.po_catalog.specs.declared.fault.ReadError.TheVariants.{Fault, Memory}
use Rattle.po_catalog.specs.Quoted.{Breaks, Said, End, Byte, Says, at_once, ends, goes, fails, fails_later, later, said_front}
use Rattle.po_catalog.specs.ReadTexts.{IsSaid, ReturnsText, ReadsTextExactly}
use Rattle.po_catalog.specs.Inner.QuotedViews.{GoesOn}

-- a byte before what is said
abbrev pub begun : ℕ → Result (List ℕ × List ℕ) Cause → Result (List ℕ × List ℕ) Cause
begun b (Ok (text, rest)) = Ok (b ∷ text, rest)
begun b (Err cause) = Err cause

-- what is said behind a front
abbrev pub Follows : Result Said Cause → Result (List ℕ × List ℕ) Cause → Type 0
Follows (Ok (End rest)) outcome = outcome ≡ Ok ([], rest)
Follows (Ok (Byte b after)) outcome = (later : Result (List ℕ × List ℕ) Cause) × Says after later × (begun b later ≡ outcome)
Follows (Err cause) outcome = outcome ≡ Err cause

follows : {s : List ℕ} {outcome : Result (List ℕ × List ℕ) Cause} → Says s outcome → Follows (said_front s) outcome
follows (ends s rest e) = subst (λ (f : Result Said Cause). Follows f (Ok ([], rest))) (sym e) refl
follows (goes s after text rest b e h) =
    subst (λ (f : Result Said Cause). Follows f (Ok (b ∷ text, rest))) (sym e) (Ok (text, rest), h, refl)
follows (fails s cause e) = subst (λ (f : Result Said Cause). Follows f (Err cause)) (sym e) refl
follows (fails_later s after b cause e h) = subst (λ (f : Result Said Cause). Follows f (Err cause)) (sym e) (Err cause, h, refl)

pub one_saying : {s : List ℕ} {a b : Result (List ℕ × List ℕ) Cause} → Says s a → Says s b → a ≡ b
one_saying {b = b} (ends s rest e) other = sym (subst (λ (f : Result Said Cause). Follows f b) e (follows other))
one_saying {b = b} (fails s cause e) other = sym (subst (λ (f : Result Said Cause). Follows f b) e (follows other))
one_saying {b = b} (goes s after text rest byte e h) other =
    let x : Follows (Ok (Byte byte after)) b = subst (λ (f : Result Said Cause). Follows f b) e (follows other) in
    ap (begun byte) (one_saying h x.1) ∙ x.2
one_saying {b = b} (fails_later s after byte cause e h) other =
    let x : Follows (Ok (Byte byte after)) b = subst (λ (f : Result Said Cause). Follows f b) e (follows other) in
    ap (begun byte) (one_saying h x.1) ∙ x.2

-- what is said before the rest of a line: the rest's text, or its fault, follows
abbrev pub SaysBefore : List ℕ → List ℕ → List ℕ → Type 0
SaysBefore line said rest =
    ((more after : List ℕ) → Says rest (Ok (more, after)) → Says line (Ok (said ++ more, after)))
    × ((more : List ℕ) (cause : Cause) → Breaks rest more cause → Breaks line (said ++ more) cause)

-- a text was made longer by what the line says before what the rest says
abbrev pub IsSaidBefore : List ℕ → List ℕ → List ℕ → List ℕ → Type 0
IsSaidBefore line old new rest = (said : List ℕ) × (new ≡ old ++ said) × SaysBefore line said rest

-- nothing was said before the whole line
pub nothing_said : (line old : List ℕ) → IsSaidBefore line old old line
nothing_said line old = ([], sym (append-nil old), (λ more after h. h, λ more cause h. h))

-- a byte is said
pub more_said : (line old new next : List ℕ) (b : ℕ) (rest after : List ℕ) → IsSaidBefore line old new rest → next ≡ new ++ b ∷ []
    → said_front rest ≡ Ok (Byte b after) → IsSaidBefore line old next after
more_said line old new next b rest after h pushed front =
    let said = h.0 in (
      said ++ b ∷ [],
      pushed ∙ (ap (λ (t : List ℕ). t ++ b ∷ []) h.1 ∙ append_assoc old said (b ∷ [])),
      (
        λ more behind k. subst (λ (t : List ℕ). Says line (Ok (t, behind))) (sym (append_assoc said (b ∷ []) more))
            (h.2.0 (b ∷ more) behind (goes rest after more behind b front k)),
        λ more cause k. subst (λ (t : List ℕ). Breaks line t cause) (sym (append_assoc said (b ∷ []) more))
            (h.2.1 (b ∷ more) cause (later rest after more b cause front k)),
      ),
    )

-- the text ends
pub whole_said : (line old new rest after : List ℕ) → IsSaidBefore line old new rest → said_front rest ≡ Ok (End after)
    → (text : List ℕ) × (new ≡ old ++ text) × Says line (Ok (text, after))
whole_said line old new rest after h front =
    (h.0, h.1, subst (λ (t : List ℕ). Says line (Ok (t, after))) (append-nil h.0) (h.2.0 [] after (ends rest after front)))

-- the text has a fault
pub broken_text : (line old new rest : List ℕ) (cause : Cause) → IsSaidBefore line old new rest → said_front rest ≡ Err cause
    → (text : List ℕ) × (new ≡ old ++ text) × Breaks line text cause
broken_text line old new rest cause h front =
    (h.0, h.1, subst (λ (t : List ℕ). Breaks line t cause) (append-nil h.0) (h.2.1 [] cause (at_once rest cause front)))

-- a text with a fault says no text
pub broken_says : {s text : List ℕ} {cause : Cause} → Breaks s text cause → Says s (Err cause)
broken_says (at_once s cause e) = fails s cause e
broken_says (later s after text b cause e h) = fails_later s after b cause e (broken_says h)

-- what is returned is all that could be
abbrev pub IsText : Result (List ℕ × List ℕ) Cause → Type 0
IsText (Ok said) = Unit {0}
IsText (Err cause) = ⊥

abbrev pub said_of : Result (List ℕ × List ℕ) Cause → List ℕ × List ℕ
said_of (Ok said) = said
said_of (Err cause) = ([], [])

returns_text : (line : List ℕ) (result : Result (Vec ℕ × Bor (List ℕ)) ReadError) (text rest : List ℕ)
    → IsSaid line result → Says line (Ok (text, rest)) → ReturnsText result text rest
returns_text line (Ok said) text rest h k = (
  ap (λ (r : Result (List ℕ × List ℕ) Cause). (said_of r).0) (one_saying h k),
  ap (λ (r : Result (List ℕ × List ℕ) Cause). (said_of r).1) (one_saying h k),
)
returns_text line (Err (Fault cause)) text rest h k =
    absurd (subst (λ (r : Result (List ℕ × List ℕ) Cause). IsText r) (sym (one_saying h k)) tt)
returns_text line (Err Memory) text rest h k = refl

abbrev error_of : Result (List ℕ × List ℕ) Cause → ReadError
error_of (Ok said) = Memory
error_of (Err cause) = Fault cause

returns_fault : (line : List ℕ) (result : Result (Vec ℕ × Bor (List ℕ)) ReadError) (cause : Cause)
    → IsSaid line result → Says line (Err cause) → (result ≡ Err (Fault cause)) ⊎ (result ≡ Err Memory)
returns_fault line (Ok said) cause h k = absurd (subst (λ (r : Result (List ℕ × List ℕ) Cause). IsText r) (one_saying h k) tt)
returns_fault line (Err (Fault found)) cause h k = inl (ap (λ (r : Result (List ℕ × List ℕ) Cause). Err (error_of r)) (one_saying h k))
returns_fault line (Err Memory) cause h k = inr refl

pub exactly : (line : List ℕ) (result : Result (Vec ℕ × Bor (List ℕ)) ReadError) → IsSaid line result → ReadsTextExactly line result
exactly line result h = record {
  only = h;
  text = λ text rest k. returns_text line result text rest h k;
  fault = λ cause k. returns_fault line result cause h k;
}

-- a text of its own
pub ok_said : (line old : List ℕ) (text : Vec ℕ) (rest : Bor (List ℕ)) → old ≡ []
    → (said : List ℕ) × (text.items ≡ old ++ said) × Says line (Ok (said, rest.now))
    → ReadsTextExactly line (Ok (text, rest))
ok_said line old text rest e h =
    exactly line (Ok (text, rest)) (subst (λ (t : List ℕ). Says line (Ok (t, rest.now))) (sym (h.1 ∙ ap (λ (t : List ℕ). t ++ h.0) e)) h.2)

pub err_said : (line old new : List ℕ) (error : ReadError) → GoesOn line old new (Err error) → ReadsTextExactly line (Err error)
err_said line old new (Fault cause) h = exactly line (Err (Fault cause)) (broken_says h.2)
err_said line old new Memory h = exactly line (Err Memory) tt

-- want of memory says nothing of the line
pub out_of_memory : (line old new : List ℕ) (error : ReadError) → error ≡ Memory → GoesOn line old new (Err error)
out_of_memory line old new error e = subst (λ (x : ReadError). GoesOn line old new (Err x)) (sym e) tt
