-- Printed keys, character by character.
use Rattle.std.proofs.Common.{◌≡◌, ℕ, ◌+◌, ◌<◌, ◌≤◌, Bool, true, false, List, [], ◌∷◌, ◌++◌, length, get_or}
use Rattle.std.proofs.Common.{encode_utf8, refl, sym, ap, ◌∙◌, arith, append_assoc}
use Rattle.std.proofs.lemmas.Grind.{common_steps, flat_map-append}
use Rattle.std.specs.Prelude.{nat_lt}
use Rattle.std.proofs.lemmas.List.{append-nil}
use Rattle.std.proofs.lemmas.Str.{encode_ascii, inside_one}
use Rattle.std.specs.List.{flat_map}
use Rattle.plural_documents.specs.PrintedKeys.{byte_escape, escaped_key, is_plain, printed_byte}

-- a character of more than one byte has no byte of ASCII
wide_bytes : (c k : ℕ) → 128 ≤ c → k < length (encode_utf8 c) → 128 ≤ get_or (encode_utf8 c) k 0
wide_bytes c k h lt = grind (arith, inside_one c [] (encode_utf8 c) k (sym (append-nil (encode_utf8 c))) lt)

wide_plain : (byte : ℕ) → 128 ≤ byte → is_plain byte ≡ true
wide_plain byte h = grind (arith, common_steps)

-- such bytes are printed as they are
wide_printed : (bytes : List ℕ) → ((k : ℕ) → k < length bytes → 128 ≤ get_or bytes k 0) → flat_map printed_byte bytes ≡ bytes
wide_printed [] h = refl
wide_printed (b ∷ bs) h =
    let head : 128 ≤ b = grind (arith, common_steps, h 0) in
    let tail : (k : ℕ) → k < length bs → 128 ≤ get_or bs k 0 = λ k lt. grind (arith, common_steps, h (k + 1)) in
    rw (wide_plain b head) (ap (λ l. b ∷ l) (wide_printed bs tail))

-- a character of one byte
one_printed : (c : ℕ) → c < 128 → flat_map printed_byte (encode_utf8 c) ≡ printed_byte c
one_printed c h = ap (flat_map printed_byte) (encode_ascii c h) ∙ append-nil (printed_byte c)

-- a plain character is printed as it is
pub plain_printed : (c : ℕ) → is_plain c ≡ true → flat_map printed_byte (encode_utf8 c) ≡ encode_utf8 c
plain_printed c plain = by (nat_lt c 128) refl
  where
    by : (low : Bool) → nat_lt c 128 ≡ low → flat_map printed_byte (encode_utf8 c) ≡ encode_utf8 c
    by true low =
        let small : c < 128 = grind (arith, common_steps, low) in
        one_printed c small ∙ rw plain refl ∙ sym (encode_ascii c small)
    by false low = wide_printed (encode_utf8 c) (λ k lt. wide_bytes c k (grind (arith, common_steps, low)) lt)

-- any other has one byte, and is printed as its escape
pub low_of : (c : ℕ) → is_plain c ≡ false → c < 128
low_of c other = grind (arith, common_steps)

pub escape_printed : (c : ℕ) → is_plain c ≡ false → flat_map printed_byte (encode_utf8 c) ≡ byte_escape c
escape_printed c other = one_printed c (low_of c other) ∙ rw other refl

-- ---- Character after character

-- one character more is printed
pub next_char : (c : ℕ) (now old rest whole : List ℕ) → old ≡ encode_utf8 c ++ rest → now ++ flat_map printed_byte old ≡ whole
    → (now ++ flat_map printed_byte (encode_utf8 c)) ++ flat_map printed_byte rest ≡ whole
next_char c now old rest whole step so_far =
    append_assoc now (flat_map printed_byte (encode_utf8 c)) (flat_map printed_byte rest)
    ∙ ap (λ l. now ++ l) (sym (flat_map-append printed_byte (encode_utf8 c) rest))
    ∙ ap (λ l. now ++ flat_map printed_byte l) (sym step)
    ∙ so_far

-- no character is left
pub no_more : (rest now whole : List ℕ) → length rest ≡ 0 → now ++ flat_map printed_byte rest ≡ whole → now ≡ whole
no_more [] now whole none so_far = sym (append-nil now) ∙ so_far
no_more (b ∷ bs) now whole none so_far = absurd (omega arith)

-- ---- Without escapes

-- a byte prints at least one
some_printed : (byte : ℕ) → 1 ≤ length (printed_byte byte)
some_printed byte = by (is_plain byte) refl
  where
    by : (plain : Bool) → is_plain byte ≡ plain → 1 ≤ length (printed_byte byte)
    by true plain = rw plain (omega arith)
    by false other = rw other (omega arith)

-- a key prints as many bytes at least
as_many : (key : List ℕ) → length key ≤ length (escaped_key key)
as_many [] = omega arith
as_many (b ∷ bs) = grind (arith, common_steps, some_printed b, as_many bs)

-- one that prints no more is printed as it is
pub as_it_is : (key : List ℕ) → length (escaped_key key) ≡ length key → escaped_key key ≡ key
as_it_is [] same = refl
as_it_is (b ∷ bs) same = by (is_plain b) refl (as_it_is bs)
  where
    by : (plain : Bool) → is_plain b ≡ plain → (length (escaped_key bs) ≡ length bs → escaped_key bs ≡ bs)
        → escaped_key (b ∷ bs) ≡ b ∷ bs
    by true plain rest =
        let shorter : length (escaped_key bs) ≡ length bs = grind (arith, common_steps, same, plain) in
        rw plain (ap (λ l. b ∷ l) (rest shorter))
    by false other rest = absurd (grind (arith, common_steps, same, other, as_many bs))
