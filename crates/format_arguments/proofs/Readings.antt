-- Reading a text, piece by piece.
use Rattle.std.proofs.Common.{◌≡◌, ◌+◌, ◌-◌, ◌≤◌, ◌∙◌, ℕ, List, [], ◌∷◌, ◌++◌, Bool, true, false, length, Option, Some, None, refl, sym, ap, subst, append_assoc, arith, if◌then◌else◌}
use Rattle.std.proofs.lemmas.List.{append-nil, length-append, map-append}
use Rattle.format_arguments.specs.declared.argument.Argument as arguments
use Rattle.format_arguments.specs.declared.format.Format.{Format}
use Rattle.format_arguments.specs.DirectiveTables.{first_place}
use Rattle.format_arguments.specs.Directives.{Directive, PieceFront, End, Takes, Broken, piece_front}
use Rattle.format_arguments.specs.CutTexts.{TextPiece, piece_of, IsCutInto, ends, breaks, goes, bytes_of, FormatArgument, argument_told, next_behind, arguments_from, HasArguments, argument_view, arguments_view}
use Rattle.format_arguments.proofs.Rests.{FrontEndsIn, front_end}

-- the fault behind pieces of which the first begins at this byte
abbrev pub fault_from : ℕ → List TextPiece → Bool → Option ℕ
fault_from at pieces broken = if broken then Some (at + length (bytes_of pieces)) else None

-- the text has these arguments, and then those of the rest
abbrev pub IsReadBefore : Format → List ℕ → List FormatArgument → ℕ → ℕ → List ℕ → Type 0
IsReadBefore f text items next at rest =
    (pieces : List TextPiece) (broken : Bool) → IsCutInto f rest pieces broken
    → HasArguments f text (items ++ arguments_from next at pieces) (fault_from at pieces broken)

-- told in other words
retold : (f : Format) (text : List ℕ) (a b : List FormatArgument) (m n : Option ℕ) → HasArguments f text a m → b ≡ a → n ≡ m
    → HasArguments f text b n
retold f text a b m n h e k = record { pieces = h.pieces; broken = h.broken; cut = h.cut; told = e ∙ h.told; at_fault = k ∙ h.at_fault }

at_most : (broken : Bool) (m n : ℕ) → m ≡ n → (if broken then Some m else None) ≡ (if broken then Some n else None)
at_most broken m n e = ap (λ (x : ℕ). if broken then Some x else None) e

-- nothing was read before the whole text
pub nothing_read : (f : Format) (text : List ℕ) (at : ℕ) → at ≡ 0 → IsReadBefore f text [] (first_place f) at text
nothing_read f text at e pieces broken cut = record {
  pieces = pieces;
  broken = broken;
  cut = cut;
  told = ap (λ (x : ℕ). arguments_from (first_place f) x pieces) e;
  at_fault = at_most broken (at + length (bytes_of pieces)) (length (bytes_of pieces)) (omega arith);
}

-- the bytes of the piece at the piece_front
abbrev Bytes : List ℕ → List ℕ → Type 0
Bytes s rest = (bytes : List ℕ) × (s ≡ bytes ++ rest)

bytes_at : (f : Format) (s rest : List ℕ) (says : Option Directive) → piece_front f s ≡ Takes says rest → Bytes s rest
bytes_at f s rest says e = subst (λ (x : PieceFront). FrontEndsIn s x) e (front_end f s)

-- how far the piece goes
width_of : (text s rest bytes : List ℕ) → length s ≤ length text → s ≡ bytes ++ rest
    → (length text - length s) + length bytes ≡ length text - length rest
width_of text s rest bytes le e = omega (arith, ap length e, length-append bytes rest)

fault_later : (at after : ℕ) (bytes : List ℕ) (pieces : List TextPiece) (broken : Bool) → at + length bytes ≡ after
    → (if broken then Some (after + length (bytes_of pieces)) else None)
    ≡ (if broken then Some (at + length (bytes ++ bytes_of pieces)) else None)
fault_later at after bytes pieces broken e =
    at_most broken (after + length (bytes_of pieces)) (at + length (bytes ++ bytes_of pieces))
    (omega (arith, e, length-append bytes (bytes_of pieces)))

-- a piece is read
pub piece_read : (f : Format) (text s rest : List ℕ) (items more : List FormatArgument) (next : ℕ) (says : Option Directive)
    → length s ≤ length text
    → IsReadBefore f text items next (length text - length s) s → piece_front f s ≡ Takes says rest
    → more ≡ items ++ argument_told next (length text - length s) (length text - length rest) says
    → IsReadBefore f text more (next_behind next says) (length text - length rest) rest
piece_read f text s rest items more next says le h e pushed pieces broken cut =
    let bytes = (bytes_at f s rest says e).0 in
    let is = (bytes_at f s rest says e).1 in
    let at = length text - length s in
    let after = length text - length rest in
    let wide : at + length bytes ≡ after = width_of text s rest bytes le is in
    let piece = piece_of bytes says in
    let behind = next_behind next says in
    retold f text (items ++ arguments_from next at (piece ∷ pieces)) (more ++ arguments_from behind after pieces)
    (fault_from at (piece ∷ pieces) broken) (fault_from after pieces broken)
    (h (piece ∷ pieces) broken (goes s bytes rest says pieces broken is e cut))
    (ap (λ (t : List FormatArgument). t ++ arguments_from behind after pieces) pushed
    ∙ (append_assoc items (argument_told next at after says) (arguments_from behind after pieces)
    ∙ ap (λ (x : ℕ). items ++ (argument_told next at x says ++ arguments_from behind x pieces)) (sym wide)))
    (fault_later at after bytes pieces broken wide)

-- the text ends
pub end_read : (f : Format) (text s : List ℕ) (items : List FormatArgument) (next at : ℕ) → IsReadBefore f text items next at s
    → piece_front f s ≡ End
    → HasArguments f text items None
end_read f text s items next at h e =
    retold f text (items ++ []) items None None (h [] false (ends s e)) (sym (append-nil items)) refl

-- a fault
pub fault_read : (f : Format) (text s : List ℕ) (items : List FormatArgument) (next at : ℕ) → IsReadBefore f text items next at s
    → piece_front f s ≡ Broken
    → HasArguments f text items (Some at)
fault_read f text s items next at h e =
    retold f text (items ++ []) items (Some (at + 0)) (Some at) (h [] true (breaks s e)) (sym (append-nil items))
    (ap (λ (x : ℕ). Some x) (omega arith))

-- an argument is pushed
pub pushed : (old new : List arguments.Argument) (a : arguments.Argument) → new ≡ old ++ a ∷ []
    → arguments_view new ≡ arguments_view old ++ argument_view a ∷ []
pushed old new a e = ap arguments_view e ∙ map-append argument_view old (a ∷ [])

-- none is pushed
pub none_pushed : (old : List FormatArgument) → old ≡ old ++ []
none_pushed old = sym (append-nil old)
