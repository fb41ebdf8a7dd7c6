-- Lines tell the values on them, one for each and maybe a last one.
use Rattle.std.proofs.Common.{◌≡◌, ℕ, List, [], ◌∷◌, ◌++◌, refl, sym, ap, ◌∙◌, append_assoc}
use Rattle.std.specs.Prelude.{map}
use Rattle.std.specs.List.{All, flat_map}
use Rattle.std.proofs.lemmas.Grind.{flat_map-append}
use Rattle.std.proofs.lemmas.List.{append-nil}
use Rattle.std.proofs.lemmas.List.Elements.{All-head, All-tail}
use Rattle.std.proofs.lemmas.List.Folds.{flat_map-map}
use Rattle.serde_json.specs.Data.{Data}
use Rattle.serde_json.specs.Written.{compact_text}
use Rattle.finding_formats.specs.JsonLines.{json_line}
use Rattle.finding_formats.proofs.PlainData.{IsLineValue, NoNewline, text_free, text_tells}

-- two texts that end at their first newline
cut_line : (s t u v : List ℕ) → NoNewline s → NoNewline t → s ++ 10 ∷ u ≡ t ++ 10 ∷ v → (s ≡ t) × (u ≡ v)
cut_line [] [] u v h k same = let rest : u ≡ v = cc in (refl, rest)
cut_line [] (b ∷ t) u v h k same = let is : b ≡ 10 = cc in absurd (k.0 is)
cut_line (a ∷ s) [] u v h k same = let is : a ≡ 10 = cc in absurd (h.0 is)
cut_line (a ∷ s) (b ∷ t) u v h k same =
    let first : a ≡ b = cc in
    let rest : s ++ 10 ∷ u ≡ t ++ 10 ∷ v = cc in
    let cut = cut_line s t u v h.1 k.1 rest in
    let texts : s ≡ t = cut.0 in
    let lines : a ∷ s ≡ b ∷ t = cc in
    (lines, cut.1)

no_end : (s u : List ℕ) → [] ≡ s ++ 10 ∷ u → ⊥
no_end [] u same = cc
no_end (b ∷ s) u same = cc

-- the first line, and the others
ended : (d : Data) (rest : List ℕ) → json_line d ++ rest ≡ compact_text d ++ 10 ∷ rest
ended d rest = append_assoc (compact_text d) (10 ∷ []) rest

pub lines_tell : (ds es : List Data) → All IsLineValue ds → All IsLineValue es → flat_map json_line ds ≡ flat_map json_line es → ds ≡ es
lines_tell [] [] h k same = refl
lines_tell [] (e ∷ es) h k same = absurd (no_end (compact_text e) (flat_map json_line es) (same ∙ ended e (flat_map json_line es)))
lines_tell (d ∷ ds) [] h k same = absurd (no_end (compact_text d) (flat_map json_line ds) (sym same ∙ ended d (flat_map json_line ds)))
lines_tell (d ∷ ds) (e ∷ es) h k same =
    let good : IsLineValue d = All-head IsLineValue d ds h in
    let fine : IsLineValue e = All-head IsLineValue e es k in
    let cut = cut_line (compact_text d) (compact_text e) (flat_map json_line ds) (flat_map json_line es) (text_free d good.plain)
    (text_free e fine.plain)
    (sym (ended d (flat_map json_line ds)) ∙ same ∙ ended e (flat_map json_line es)) in
    let first : d ≡ e = text_tells d e good fine cut.0 in
    let rest : ds ≡ es = lines_tell ds es (All-tail IsLineValue d ds h) (All-tail IsLineValue e es k) cut.1 in
    cc

-- ---- Lines of objects

-- a line for each object, and one more
pub objects_then : {X : Type 0} (object : X → Data) (xs : List X) (last : Data) (empty lines text : List ℕ)
    → empty ≡ [] → lines ≡ empty ++ flat_map (λ x. json_line (object x)) xs → text ≡ lines ++ json_line last
    → text ≡ flat_map json_line (map object xs) ++ json_line last
objects_then object xs last empty lines text none each ended =
    ended
    ∙ ap (λ bytes. bytes ++ json_line last)
    (each ∙ ap (λ bytes. bytes ++ flat_map (λ x. json_line (object x)) xs) none ∙ sym (flat_map-map json_line object xs))

-- the same as the lines of one list
pub objects_and_last : {X : Type 0} (object : X → Data) (xs : List X) (last : Data) (empty lines text : List ℕ)
    → empty ≡ [] → lines ≡ empty ++ flat_map (λ x. json_line (object x)) xs → text ≡ lines ++ json_line last
    → text ≡ flat_map json_line (map object xs ++ last ∷ [])
objects_and_last object xs last empty lines text none each ended =
    objects_then object xs last empty lines text none each ended
    ∙ sym (flat_map-append json_line (map object xs) (last ∷ [])
    ∙ ap (λ bytes. flat_map json_line (map object xs) ++ bytes) (append-nil (json_line last)))
