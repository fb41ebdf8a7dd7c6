-- What is found in the things of a list, thing by thing.
use Rattle.std.proofs.Common.{◌≡◌, ℕ, ◌+◌, ◌<◌, List, [], ◌∷◌, length, get_or, drop, refl, sym, ap, subst, ◌∙◌}
use Rattle.std.proofs.Common.{Result, Ok, Err, add-one}
use Rattle.std.specs.Prelude.{OnOk}
use Rattle.std.proofs.Math.Seq.{drop-cons}
use Rattle.message_report.specs.FoundInMessages.{MessageFound, HasGrownInMessages, IsFoundInEach, nothing_found_in_messages, messages_together}
use Rattle.message_report.proofs.MessagesFound.{messages_together-nothing, messages_together_assoc}

-- whatever is found in the remaining things completes what was found so far
abbrev pub CompletesEach : {A : Type 0} → (A → MessageFound → Type 0) → List A → List A → MessageFound → MessageFound → Type 0
CompletesEach Is left all now first =
    (rest : MessageFound) → IsFoundInEach Is left rest
    → (whole : MessageFound) × IsFoundInEach Is all whole × (messages_together now rest ≡ messages_together first whole)

-- this holds at first
pub each_begins : {A : Type 0} (Is : A → MessageFound → Type 0) (all : List A) (first : MessageFound) → CompletesEach Is all all first first
each_begins Is all first rest h = (rest, h, refl)

-- and after each thing
pub each_goes_on : {A : Type 0} (Is : A → MessageFound → Type 0) (all : List A) (first : MessageFound) (i : ℕ) (d : A) (now next : MessageFound)
    → i < length all → CompletesEach Is (drop i all) all now first → HasGrownInMessages (Is (get_or all i d)) now next
    → CompletesEach Is (drop (i + 1) all) all next first
each_goes_on {A} Is all first i d now next lt so_far added rest h =
    let cons : drop i all ≡ get_or all i d ∷ drop (i + 1) all = rw (add-one, drop-cons all i d lt) refl in
    let whole = subst (λ (left : List A). CompletesEach Is left all now first) cons so_far (messages_together added.0 rest)
    (added.0, rest, added.1, h, refl) in (
      whole.0,
      whole.1,
      ap (λ (f : MessageFound). messages_together f rest) added.2 ∙ messages_together_assoc now added.0 rest ∙ whole.2,
    )

-- at the end all is found
pub each_ends : {A : Type 0} (Is : A → MessageFound → Type 0) (all left : List A) (first now : MessageFound) → left ≡ []
    → CompletesEach Is left all now first → HasGrownInMessages (IsFoundInEach Is all) first now
each_ends {A} Is all left first now none so_far =
    let whole = subst (λ (left : List A). CompletesEach Is left all now first) none so_far nothing_found_in_messages refl in
    (whole.0, whole.1, sym (messages_together-nothing now) ∙ whole.2)

-- what is found in each thing in one way is found in another one, if it is in any thing
pub each_in : {A : Type 0} (Is Was : A → MessageFound → Type 0) → ((x : A) (found : MessageFound) → Was x found → Is x found) → (all : List A)
    (found : MessageFound) → IsFoundInEach Was all found → IsFoundInEach Is all found
each_in Is Was so [] found none = none
each_in Is Was so (x ∷ all) found (first, rest, is, more, both) = (first, rest, so x first is, each_in Is Was so all rest more, both)

-- ---- What a call adds

-- what follows from the statement for an `Ok` also holds for the `Ok`
pub on_ok : {A E P Q : Type 0} (r : Result A E) → (P → Q) → OnOk r P → OnOk r Q
on_ok (Ok x) f h = f h
on_ok (Err e) f h = tt
