-- What a writer took of an output, after one more write.
use Rattle.std.proofs.Common.{◌≡◌, ℕ, ◌-◌, List, ◌++◌, length, take, drop, Option}
use Rattle.std.proofs.Common.{sym, ap, ◌∙◌, append_assoc, take-append-drop}
use Rattle.std.proofs.lemmas.List.{take_rest}
use Rattle.std.specs.Io.KnownBytes.{Appends, Keeps}
use Rattle.std.proofs.KnownBytes.{Appends-kept, Appends-trans}

-- the bytes are what was taken before and by this write, and the rest
taken_and_rest : (bytes taken rest : List ℕ) (n : ℕ) → bytes ≡ taken ++ rest
    → bytes ≡ (taken ++ take n rest) ++ take (length rest - n) (drop n rest)
taken_and_rest bytes taken rest n split =
    split ∙ ap (λ l. taken ++ l) (sym (take-append-drop n rest)) ∙ sym (append_assoc taken (take n rest) (drop n rest))
    ∙ ap (λ l. (taken ++ take n rest) ++ l) (sym (take_rest rest n))

-- after a write that took n bytes
pub more_taken : (old mid new : Option (List ℕ)) (bytes rest : List ℕ) (n : ℕ)
    → (taken : List ℕ) × (bytes ≡ taken ++ rest) × Appends old mid taken → Appends mid new (take n rest)
    → (taken : List ℕ) × (bytes ≡ taken ++ take (length rest - n) (drop n rest)) × Appends old new taken
more_taken old mid new bytes rest n before now =
    let taken = before.0 in
    (taken ++ take n rest, taken_and_rest bytes taken rest n before.1, Appends-trans old mid new taken (take n rest) before.2 now)

-- after a write that took nothing
pub none_taken : (old mid new : Option (List ℕ)) (bytes rest : List ℕ)
    → (taken : List ℕ) × (bytes ≡ taken ++ rest) × Appends old mid taken → Keeps mid new
    → (taken : List ℕ) × (bytes ≡ taken ++ rest) × Appends old new taken
none_taken old mid new bytes rest before now = (before.0, before.1, Appends-kept old mid new before.0 before.2 now)
