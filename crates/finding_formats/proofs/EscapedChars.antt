-- Texts in commands, character by character.
use Rattle.std.proofs.Common.{◌≡◌, ℕ, ◌+◌, ◌<◌, ◌≤◌, Bool, true, false, List, [], ◌∷◌, ◌++◌, length, get_or}
use Rattle.std.proofs.Common.{encode_utf8, refl, sym, ap, ◌∙◌, arith, append_assoc, Result, Ok, Err}
use Rattle.std.proofs.lemmas.Grind.{common_steps, flat_map-append}
use Rattle.std.proofs.lemmas.List.{append-nil}
use Rattle.std.proofs.lemmas.Str.{encode_ascii, inside_one}
use Rattle.std.specs.List.{flat_map}
use Rattle.std.specs.Prelude.{nat_lt, OnOk, if◌then◌else◌, is_ok}
use Rattle.percent_encoding.specs.Percent.{percent_encode_byte}
use Rattle.finding_formats.specs.WorkflowCommands.{needs_escape, slot_byte}
use Rattle.finding_formats.specs.declared.workflow.Slot.{Slot}
use Rattle.finding_formats.specs.declared.workflow.Slot.TheVariants.{Message, Property}

-- a character of more than one byte has no byte of ASCII
wide_bytes : (c k : ℕ) → 128 ≤ c → k < length (encode_utf8 c) → 128 ≤ get_or (encode_utf8 c) k 0
wide_bytes c k h lt = grind (arith, inside_one c [] (encode_utf8 c) k (sym (append-nil (encode_utf8 c))) lt)

wide_kept : (slot : Slot) (byte : ℕ) → 128 ≤ byte → needs_escape slot byte ≡ false
wide_kept Message byte h = grind (arith, common_steps)
wide_kept Property byte h = grind (arith, common_steps)

-- such bytes stand for themselves
wide_written : (slot : Slot) (bytes : List ℕ) → ((k : ℕ) → k < length bytes → 128 ≤ get_or bytes k 0)
    → flat_map (slot_byte slot) bytes ≡ bytes
wide_written slot [] h = refl
wide_written slot (b ∷ bs) h =
    let head : 128 ≤ b = grind (arith, common_steps, h 0) in
    let tail : (k : ℕ) → k < length bs → 128 ≤ get_or bs k 0 = λ k lt. grind (arith, common_steps, h (k + 1)) in
    rw (wide_kept slot b head) (ap (λ l. b ∷ l) (wide_written slot bs tail))

-- a character of one byte
one_written : (slot : Slot) (c : ℕ) → c < 128 → flat_map (slot_byte slot) (encode_utf8 c) ≡ slot_byte slot c
one_written slot c h = ap (flat_map (slot_byte slot)) (encode_ascii c h) ∙ append-nil (slot_byte slot c)

pub kept_written : (slot : Slot) (c : ℕ) → needs_escape slot c ≡ false → flat_map (slot_byte slot) (encode_utf8 c) ≡ encode_utf8 c
kept_written slot c kept = by (nat_lt c 128) refl
  where
    by : (low : Bool) → nat_lt c 128 ≡ low → flat_map (slot_byte slot) (encode_utf8 c) ≡ encode_utf8 c
    by true low =
        let small : c < 128 = grind (arith, common_steps, low) in
        one_written slot c small ∙ rw kept refl ∙ sym (encode_ascii c small)
    by false low = wide_written slot (encode_utf8 c) (λ k lt. wide_bytes c k (grind (arith, common_steps, low)) lt)

-- what needs an escape has one byte
pub low_of : (slot : Slot) (c : ℕ) → needs_escape slot c ≡ true → c < 128
low_of Message c other = grind (arith, common_steps)
low_of Property c other = grind (arith, common_steps)

pub escape_written : (slot : Slot) (c : ℕ) → needs_escape slot c ≡ true → flat_map (slot_byte slot) (encode_utf8 c) ≡ percent_encode_byte c
escape_written slot c other = one_written slot c (low_of slot c other) ∙ rw other refl

-- ---- Character after character

-- one character more is written
pub next_char : (slot : Slot) (c : ℕ) (now next old rest whole : List ℕ) → old ≡ encode_utf8 c ++ rest
    → next ≡ now ++ flat_map (slot_byte slot) (encode_utf8 c) → now ++ flat_map (slot_byte slot) old ≡ whole
    → next ++ flat_map (slot_byte slot) rest ≡ whole
next_char slot c now next old rest whole step wrote so_far =
    ap (λ l. l ++ flat_map (slot_byte slot) rest) wrote
    ∙ append_assoc now (flat_map (slot_byte slot) (encode_utf8 c)) (flat_map (slot_byte slot) rest)
    ∙ ap (λ l. now ++ l) (sym (flat_map-append (slot_byte slot) (encode_utf8 c) rest))
    ∙ ap (λ l. now ++ flat_map (slot_byte slot) l) (sym step)
    ∙ so_far

-- no character is left
pub no_more : (slot : Slot) (rest now whole : List ℕ) → length rest ≡ 0 → now ++ flat_map (slot_byte slot) rest ≡ whole → now ≡ whole
no_more slot [] now whole none so_far = sym (append-nil now) ∙ so_far
no_more slot (b ∷ bs) now whole none so_far = absurd (omega arith)

-- ---- What was appended

pub on_ok : {A E P Q : Type 0} (r : Result A E) → (P → Q) → OnOk r P → OnOk r Q
on_ok (Ok x) f h = f h
on_ok (Err e) f h = tt

-- a text that is changed only by an `Ok`
pub if_ok : {A E : Type 0} (r : Result A E) (new changed kept : List ℕ) → new ≡ (if is_ok r then changed else kept)
    → OnOk r (new ≡ changed)
if_ok (Ok x) new changed kept e = e
if_ok (Err e) new changed kept h = tt
