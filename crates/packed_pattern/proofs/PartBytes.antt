-- The bytes of a part: what is packed is read again.
use Rattle.std.proofs.Common.{◌≡◌, ◌∙◌, ℕ, List, [], ◌∷◌, ◌++◌, ◌-◌, ◌≤◌, length, get_or, take, drop, refl, ap, sym, arith, true, Some, None}
use Rattle.std.specs.Prelude.{Option, bytes_eq, nat_le}
use Rattle.std.specs.Cmp.{second_so}
use Rattle.std.specs.Cmp.Derive.{both_true}
use Rattle.std.proofs.lemmas.Bool.Decides.{nat_tests}
use Rattle.std.proofs.lemmas.List.{length-take, length-take-le, take-append-drop}
use Rattle.std.proofs.Math.Seq.{take-append_seam, drop-append_seam}
use Rattle.std.proofs.lemmas.Slice.Eq.{bytes_eq-Decides}
use Rattle.message_pattern.specs.declared.part.ArgumentKind.{ArgumentKind}
use Rattle.message_pattern.specs.declared.part.ArgumentKind.TheVariants.{Plural, Ordinal, Select}
use Rattle.message_pattern.specs.PatternParts.{Part, PatternPiece, Exactly, Keyword, Text, Hash, Argument, Begin, Branch, End}
use Rattle.packed_part.specs.PackedParts.{has_digits, is_packable, is_packable_piece, part_item_bytes, offset_digits, own_bytes, piece_tag}
use Rattle.packed_part.specs.PackedParts.{place_bytes}
use Rattle.packed_part.specs.Inner.PartReading.{begin_in, offset_in, part_in, piece_in_form, place_room, places_in}

-- equal texts pass the test of bytes
pub bytes_same : (xs ys : List ℕ) → xs ≡ ys → bytes_eq xs ys ≡ true
bytes_same xs ys e = (bytes_eq-Decides xs ys).1 e

-- texts that pass it are equal
pub same_bytes : (xs ys : List ℕ) → bytes_eq xs ys ≡ true → xs ≡ ys
same_bytes xs ys e = (bytes_eq-Decides xs ys).0 e

-- the digits of an offset are read again
offset_again : (offset : Option (List ℕ)) → has_digits offset ≡ true → offset_in (offset_digits offset) ≡ offset
offset_again None h = refl
offset_again (Some []) h = cc
offset_again (Some (digit ∷ digits)) h = refl

-- so is the beginning of an argument
begin_again : (kind : ArgumentKind) (name : List ℕ) (offset : Option (List ℕ)) → has_digits offset ≡ true
    → begin_in kind (length name ∷ (name ++ offset_digits offset)) ≡ Begin kind name offset
begin_again kind name offset h =
    rw (take-append_seam name (offset_digits offset), drop-append_seam name (offset_digits offset), offset_again offset h) refl

-- what begins with the length of a name is one, if there are so many bytes
digits_whole : (digits : List ℕ) → (offset_digits (offset_in digits) ≡ digits) × (has_digits (offset_in digits) ≡ true)
digits_whole [] = (refl, refl)
digits_whole (digit ∷ digits) = (refl, refl)

pub begin_whole : (own : List ℕ) → 1 ≤ length own → get_or own 0 0 ≤ 255 → get_or own 0 0 ≤ length (take (length own - 1) (drop 1 own))
    → (name : List ℕ) × (offset : Option (List ℕ)) × (own ≡ own_bytes (Begin Select name offset)) × (is_packable_piece (Begin Select name offset) ≡ true)
begin_whole [] some byte long = absurd (omega (arith, some))
begin_whole (count ∷ rest) some byte long =
    let e : length (count ∷ rest) - 1 ≡ length rest = omega arith in
    let there : count ≤ length rest = grind (arith, length-take, e) in
    let name = take count rest in
    let digits = drop count rest in
    let counted : length name ≡ count = length-take-le count rest there in
    let fits : nat_le (length name) 255 ≡ true = grind (arith, nat_tests) in (
      name,
      offset_in digits,
      rw (counted, (digits_whole digits).0, take-append-drop count rest) refl,
      both_true fits (digits_whole digits).1,
    )

-- and each piece
pub piece_again : (piece : PatternPiece) → is_packable_piece piece ≡ true → piece_in_form (piece_tag piece) (own_bytes piece) ≡ piece
piece_again (Text text) h = refl
piece_again Hash h = refl
piece_again (Argument name) h = refl
piece_again (Begin Plural name offset) h = begin_again Plural name offset (second_so (nat_le (length name) 255) (has_digits offset) h)
piece_again (Begin Ordinal name offset) h = begin_again Ordinal name offset (second_so (nat_le (length name) 255) (has_digits offset) h)
piece_again (Begin Select name offset) h = begin_again Select name offset (second_so (nat_le (length name) 255) (has_digits offset) h)
piece_again (Branch (Exactly number)) h = refl
piece_again (Branch (Keyword word)) h = refl
piece_again End h = refl

-- places take as many bytes as their form has
pub length-place_bytes : (depth : ℕ) (piece : PatternPiece) (ps : List Part)
    → length (place_bytes (record { depth = depth; piece = piece }) ps) ≡ place_room (piece_tag piece)
length-place_bytes depth (Text text) ps = refl
length-place_bytes depth Hash ps = refl
length-place_bytes depth (Argument name) ps = refl
length-place_bytes depth (Begin Plural name offset) ps = refl
length-place_bytes depth (Begin Ordinal name offset) ps = refl
length-place_bytes depth (Begin Select name offset) ps = refl
length-place_bytes depth (Branch (Exactly number)) ps = refl
length-place_bytes depth (Branch (Keyword word)) ps = refl
length-place_bytes depth End ps = refl

-- and each part, with places of its form
pub part_again : (p : Part) (places : List ℕ) → length places ≡ place_room (piece_tag p.piece) → is_packable p ≡ true
    → part_in (part_item_bytes p places) ≡ p
part_again p places e h =
    let with_own : List ℕ → Part = λ own. record { depth = p.depth; piece = piece_in_form (piece_tag p.piece) own } in
    let with_piece : PatternPiece → Part = λ piece. record { depth = p.depth; piece = piece } in
    ap (λ n. with_own (drop n (places ++ own_bytes p.piece))) (sym e) ∙ ap with_own (drop-append_seam places (own_bytes p.piece))
    ∙ ap with_piece (piece_again p.piece (second_so (nat_le p.depth 32) (is_packable_piece p.piece) h))

-- the places too
pub places_again : (p : Part) (places : List ℕ) → length places ≡ place_room (piece_tag p.piece) → places_in (part_item_bytes p places) ≡ places
places_again p places e = ap (λ n. take n (places ++ own_bytes p.piece)) (sym e) ∙ take-append_seam places (own_bytes p.piece)
