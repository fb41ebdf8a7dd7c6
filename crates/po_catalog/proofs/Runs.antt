-- Runs of bytes.
use Rattle.std.proofs.Common.{◌≡◌, ◌+◌, ℕ, List, [], ◌∷◌, ◌++◌, Bool, true, false, length, take, drop, refl, sym, ap, ◌∙◌, arith, if◌then◌else◌}
use Rattle.std.proofs.lemmas.List.{length-append}
use Rattle.std.proofs.Math.Seq.{take-append_seam, drop-append_seam}
use Rattle.po_catalog.specs.PoBytes.{catalog_run_front, behind_catalog_run}

-- a run and what follows it are the text
pub run_front-whole : (is_such : ℕ → Bool) (s : List ℕ) → catalog_run_front is_such s ++ behind_catalog_run is_such s ≡ s
run_front-whole is_such [] = refl
run_front-whole is_such (b ∷ s) =
    elim (is_such b) as (λ (v : Bool). (if v then b ∷ catalog_run_front is_such s else []) ++ (if v then behind_catalog_run is_such s else b ∷ s) ≡ b ∷ s) [
      | true ↦ ap (λ (t : List ℕ). b ∷ t) (run_front-whole is_such s)
      | false ↦ refl
    ]

-- where what follows the run is as long as the rest, a text is cut into both
run_length : (is_such : ℕ → Bool) (s rest : List ℕ) (n : ℕ) → rest ≡ behind_catalog_run is_such s → n + length rest ≡ length s
    → n ≡ length (catalog_run_front is_such s)
run_length is_such s rest n e h =
    omega (arith, length-append (catalog_run_front is_such s) (behind_catalog_run is_such s), ap length (run_front-whole is_such s), ap length e)

pub cut_front : (is_such : ℕ → Bool) (s rest : List ℕ) (n : ℕ) → rest ≡ behind_catalog_run is_such s → n + length rest ≡ length s
    → take n s ≡ catalog_run_front is_such s
cut_front is_such s rest n e h =
    ap (λ (k : ℕ). take k s) (run_length is_such s rest n e h)
    ∙ (ap (λ (t : List ℕ). take (length (catalog_run_front is_such s)) t) (sym (run_front-whole is_such s))
    ∙ take-append_seam (catalog_run_front is_such s) (behind_catalog_run is_such s))

pub cut_rest : (is_such : ℕ → Bool) (s rest : List ℕ) (n : ℕ) → rest ≡ behind_catalog_run is_such s → n + length rest ≡ length s
    → drop n s ≡ behind_catalog_run is_such s
cut_rest is_such s rest n e h =
    ap (λ (k : ℕ). drop k s) (run_length is_such s rest n e h)
    ∙ (ap (λ (t : List ℕ). drop (length (catalog_run_front is_such s)) t) (sym (run_front-whole is_such s))
    ∙ drop-append_seam (catalog_run_front is_such s) (behind_catalog_run is_such s))
