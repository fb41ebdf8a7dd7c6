-- Runs of bytes, white space and words.
use Rattle.std.proofs.Common.{◌≡◌, ◌+◌, ◌<◌, ℕ, zero, suc, List, [], ◌∷◌, ◌++◌, Bool, true, false, None, length, take, drop, refl, sym, ap, ◌∙◌, arith, if◌then◌else◌}
use Rattle.std.proofs.lemmas.List.{length-append}
use Rattle.std.proofs.Math.Seq.{take-append_seam, drop-append_seam}
use Rattle.format_arguments.specs.declared.bytes.Class.{Class}
use Rattle.format_arguments.specs.DirectiveBytes.{is_in_directive_class, run_front, behind_directive_run, after_directive_word}

-- a run and what follows it are the text
pub run_front-whole : (class : Class) (s : List ℕ) → run_front class s ++ behind_directive_run class s ≡ s
run_front-whole class [] = refl
run_front-whole class (b ∷ s) =
    elim (is_in_directive_class class b) as (λ (v : Bool). (if v then b ∷ run_front class s else []) ++ (if v then behind_directive_run class s else b ∷ s) ≡ b ∷ s) [
      | true ↦ ap (λ (t : List ℕ). b ∷ t) (run_front-whole class s)
      | false ↦ refl
    ]

-- where what follows the run is as long as the rest, a text is cut into both
run_length : (class : Class) (s rest : List ℕ) (n : ℕ) → rest ≡ behind_directive_run class s → n + length rest ≡ length s
    → n ≡ length (run_front class s)
run_length class s rest n e h =
    omega (arith, length-append (run_front class s) (behind_directive_run class s), ap length (run_front-whole class s), ap length e)

pub cut_front : (class : Class) (s rest : List ℕ) (n : ℕ) → rest ≡ behind_directive_run class s → n + length rest ≡ length s
    → take n s ≡ run_front class s
cut_front class s rest n e h =
    ap (λ (k : ℕ). take k s) (run_length class s rest n e h)
    ∙ (ap (λ (t : List ℕ). take (length (run_front class s)) t) (sym (run_front-whole class s))
    ∙ take-append_seam (run_front class s) (behind_directive_run class s))

pub cut_rest : (class : Class) (s rest : List ℕ) (n : ℕ) → rest ≡ behind_directive_run class s → n + length rest ≡ length s
    → drop n s ≡ behind_directive_run class s
cut_rest class s rest n e h =
    ap (λ (k : ℕ). drop k s) (run_length class s rest n e h)
    ∙ (ap (λ (t : List ℕ). drop (length (run_front class s)) t) (sym (run_front-whole class s))
    ∙ drop-append_seam (run_front class s) (behind_directive_run class s))

-- a word isn't found where the text ends
pub no_rest : (word : List ℕ) (i : ℕ) (rest : List ℕ) → i < length word → length rest < 1 → after_directive_word (drop i word) rest ≡ None
no_rest [] i rest h l = absurd (omega (arith, h))
no_rest (w ∷ word) zero [] h l = refl
no_rest (w ∷ word) zero (b ∷ rest) h l = absurd (omega (arith, l))
no_rest (w ∷ word) (suc i) rest h l = no_rest word i rest (omega (arith, h)) l
