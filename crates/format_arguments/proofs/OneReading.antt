-- A text has one list of arguments, and they stand in it in order.
use Rattle.std.proofs.Common.{◌≡◌, ◌≤◌, ◌+◌, ◌∙◌, ◌++◌, ℕ, List, [], ◌∷◌, Bool, true, false, length, Option, Some, None, Ok, Err, Result, refl, sym, ap, subst, arith}
use Rattle.std.proofs.lemmas.List.{append_cancel_right, length-append}
use Rattle.std.specs.declared.alloc.AllocError.{AllocError}
use Rattle.format_arguments.specs.declared.argument.Arguments.{Arguments}
use Rattle.format_arguments.specs.declared.format.Format.{Format}
use Rattle.format_arguments.specs.DirectiveTables.{first_place}
use Rattle.format_arguments.specs.Directives.{Directive, PieceFront, End, Takes, Broken, piece_front}
use Rattle.format_arguments.specs.CutTexts.{TextPiece, piece_of, IsCutInto, ends, breaks, goes, bytes_of, FormatArgument, argument_at, argument_told, next_behind, arguments_from, arguments_view, fault_behind, HasArguments, ArgumentsHaveOneReading, StandInOrder, none_left, one_more, ArgumentsStandInOrder}
use Rattle.format_arguments.specs.ToldArguments.{AreToldArguments, Tells, TellsExactly}

-- what a text is cut into, by its piece_front
abbrev pub Follows : Format → List ℕ → PieceFront → List TextPiece → Bool → Type 0
Follows f s End pieces broken = (pieces ≡ []) × (broken ≡ false)
Follows f s Broken pieces broken = (pieces ≡ []) × (broken ≡ true)
Follows f s (Takes says rest) pieces broken =
    (bytes : List ℕ) × (later : List TextPiece) × (s ≡ bytes ++ rest) × IsCutInto f rest later broken
    × (pieces ≡ piece_of bytes says ∷ later)

follows : (f : Format) {s : List ℕ} {pieces : List TextPiece} {broken : Bool} → IsCutInto f s pieces broken
    → Follows f s (piece_front f s) pieces broken
follows f (ends s e) = subst (λ (x : PieceFront). Follows f s x [] false) (sym e) (refl, refl)
follows f (breaks s e) = subst (λ (x : PieceFront). Follows f s x [] true) (sym e) (refl, refl)
follows f (goes s bytes rest says pieces broken is e cut) =
    subst (λ (x : PieceFront). Follows f s x (piece_of bytes says ∷ pieces) broken) (sym e) (bytes, pieces, is, cut, refl)

pub one_cut : (f : Format) {s : List ℕ} {a b : List TextPiece} {m n : Bool} → IsCutInto f s a m → IsCutInto f s b n → (a ≡ b) × (m ≡ n)
one_cut f {b = b} {n = n} (ends s e) other =
    let x : Follows f s End b n = subst (λ (x : PieceFront). Follows f s x b n) e (follows f other) in
    (sym x.0, sym x.1)
one_cut f {b = b} {n = n} (breaks s e) other =
    let x : Follows f s Broken b n = subst (λ (x : PieceFront). Follows f s x b n) e (follows f other) in
    (sym x.0, sym x.1)
one_cut f {b = b} {n = n} (goes s bytes rest says pieces broken is e cut) other =
    let x : Follows f s (Takes says rest) b n = subst (λ (x : PieceFront). Follows f s x b n) e (follows f other) in
    let same = one_cut f cut x.3 in
    let alike : bytes ≡ x.0 = append_cancel_right bytes x.0 rest (sym is ∙ x.2) in (
      ap (λ (t : List ℕ). piece_of t says ∷ pieces) alike
          ∙ (ap (λ (t : List TextPiece). piece_of x.0 says ∷ t) same.0 ∙ sym x.4),
      same.1,
    )

pub one_reading : ArgumentsHaveOneReading
one_reading = λ f text a b m n h k.
    let same : (h.pieces ≡ k.pieces) × (h.broken ≡ k.broken) = one_cut f h.cut k.cut in (
      h.told ∙ (ap (arguments_from (first_place f) 0) same.0 ∙ sym k.told),
      h.at_fault ∙ (ap (λ (t : List TextPiece). fault_behind t h.broken) same.0
          ∙ (ap (λ (t : Bool). fault_behind k.pieces t) same.1 ∙ sym k.at_fault)),
    )

-- what is told is all that could be
told_alone : (f : Format) (text : List ℕ) (result : Result Arguments AllocError) (arguments : List FormatArgument) (fault : Option ℕ)
    → AreToldArguments f text result → HasArguments f text arguments fault → Tells result arguments fault
told_alone f text (Ok told) arguments fault h k = one_reading f text (arguments_view told.items.items) arguments told.fault fault h k
told_alone f text (Err error) arguments fault h k = tt

pub tells : (f : Format) (text : List ℕ) (result : Result Arguments AllocError) → AreToldArguments f text result → TellsExactly f text result
tells f text result h = record { only = h; told = λ arguments fault k. told_alone f text result arguments fault h k }

-- pieces have no more bytes than the text
cut_within : (f : Format) {s : List ℕ} {pieces : List TextPiece} {broken : Bool} → IsCutInto f s pieces broken
    → length (bytes_of pieces) ≤ length s
cut_within f (ends s e) = omega arith
cut_within f (breaks s e) = omega arith
cut_within f (goes s bytes rest says pieces broken is e cut) =
    let more : length (bytes_of pieces) ≤ length rest = cut_within f cut in
    omega (arith, more, length-append bytes (bytes_of pieces), length-append bytes rest, ap length is)

-- what stands in order from a byte on does so from one before it on
earlier : {later end : ℕ} {items : List FormatArgument} → StandInOrder later items end → (at : ℕ) → at ≤ later → StandInOrder at items end
earlier (none_left from to h) at le = none_left at to (omega (arith, h, le))
earlier (one_more from to a more h k behind) at le = one_more at to a more (omega (arith, h, le)) k behind

in_order_told : (next at from end : ℕ) (says : Option Directive) (more : List FormatArgument) → at ≤ from → StandInOrder from more end
    → StandInOrder at (argument_told next at from says ++ more) end
in_order_told next at from end None more le h = earlier h at le
in_order_told next at from end (Some d) more le h = one_more at end (argument_at next at from d) more (omega arith) le h

in_order : (next at end : ℕ) (pieces : List TextPiece) → at + length (bytes_of pieces) ≤ end
    → StandInOrder at (arguments_from next at pieces) end
in_order next at end [] le = none_left at end (omega arith)
in_order next at end (piece ∷ pieces) le =
    let from = at + length piece.bytes in
    let later = next_behind next piece.says in
    in_order_told next at from end piece.says (arguments_from later from pieces) (omega arith)
    (in_order later from end pieces (omega (arith, length-append piece.bytes (bytes_of pieces))))

pub stand_in_order : ArgumentsStandInOrder
stand_in_order = λ f text arguments fault h.
    subst (λ (t : List FormatArgument). StandInOrder 0 t (length text)) (sym h.told)
    (in_order (first_place f) 0 (length text) h.pieces (omega (arith, cut_within f h.cut)))
