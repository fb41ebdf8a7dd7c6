-- The keys of a message that name no form, key by key.
use Rattle.std.proofs.Common.{◌≡◌, ℕ, suc, ◌+◌, ◌-◌, ◌<◌, ◌≤◌, Bool, true, false, List, ◌∷◌, length, take, map}
use Rattle.std.proofs.Common.{refl, sym, ap, ◌∙◌, arith}
use Rattle.std.specs.Prelude.{nat_lt}
use Rattle.std.proofs.lemmas.Bool.{ltb-true, ltb-false}
use Rattle.std.proofs.Math.Nat.{add-zero}
use Rattle.serde_json.specs.Data.{Data, Members, member}
use Rattle.message_report.specs.FoundInMessages.{MessageFound, message_findings_alone, further_message_faults, messages_together}
use Rattle.message_report.specs.MessageForms.{is_form_name}
use Rattle.message_report.specs.MessagePlaces.{MessagePlace, at_message}
use Rattle.message_report.specs.MessagesReport.{found_of_keys, key_finding, other_keys}
use Rattle.plural_documents.specs.PrintedKeys.{most_told}
use Rattle.message_report.specs.Inner.ToldKeys.{count_at, told_unless_form, told_key}
use Rattle.message_report.proofs.MessagesFound.{nothing-together, messages_together_assoc}

-- what is told of these keys, if so many come before them
abbrev pub told_from : MessagePlace → ℕ → List (List ℕ) → MessageFound
told_from place before keys = record {
  findings = map (key_finding place) (take (most_told - before) keys);
  faults = length keys;
  notes = 0;
  messages = 0;
  forms = 0;
}

-- one that names no form comes first
told_first : (place : MessagePlace) (before : ℕ) (key : List ℕ) (keys : List (List ℕ))
    → told_from place before (key ∷ keys) ≡ messages_together (told_key place before key) (told_from place (before + 1) keys)
told_first place before key keys = by (nat_lt before most_told) refl
  where
    by : (few : Bool) → nat_lt before most_told ≡ few
        → told_from place before (key ∷ keys) ≡ messages_together (told_key place before key) (told_from place (before + 1) keys)
    by true few =
        let low : before < most_told = ltb-true before most_told few in
        let left : most_told - before ≡ suc (most_told - (before + 1)) = omega arith in
        let count : suc (length keys) ≡ 1 + length keys = omega arith in
        rw (few, left, count) refl
    by false many =
        let high : most_told ≤ before = ltb-false before most_told many in
        let none : most_told - before ≡ 0 = omega arith in
        let none_after : most_told - (before + 1) ≡ 0 = omega arith in
        let count : suc (length keys) ≡ 1 + length keys = omega arith in
        rw (many, none, none_after, count) refl

-- of one member more, which is told by its key
pub next_key : (place : MessagePlace) (count after : ℕ) (key : List ℕ) (value : Data) (left : Members) (now next whole : MessageFound)
    → after ≡ count_at count key → next ≡ messages_together now (told_unless_form place count key)
    → messages_together now (told_from place count (other_keys (member key value left))) ≡ whole
    → messages_together next (told_from place after (other_keys left)) ≡ whole
next_key place count after key value left now next whole counted step so_far =
    ap (λ (n : ℕ). messages_together next (told_from place n (other_keys left))) counted
    ∙ ap (λ (f : MessageFound). messages_together f (told_from place (count_at count key) (other_keys left))) step
    ∙ messages_together_assoc now (told_unless_form place count key) (told_from place (count_at count key) (other_keys left))
    ∙ ap (λ (f : MessageFound). messages_together now f) (sym (by (is_form_name key) refl))
    ∙ so_far
  where
    by : (named : Bool) → is_form_name key ≡ named
        → told_from place count (other_keys (member key value left))
        ≡ messages_together (told_unless_form place count key) (told_from place (count_at count key) (other_keys left))
    by true named = rw named (sym (nothing-together (told_from place count (other_keys left))))
    by false other = rw other (told_first place count key (other_keys left))

-- and counted
pub next_count : (count : ℕ) (key : List ℕ) (value : Data) (left : Members) (next whole : ℕ) → next ≡ count_at count key
    → count + length (other_keys (member key value left)) ≡ whole → next + length (other_keys left) ≡ whole
next_count count key value left next whole step so_far = by (is_form_name key) refl
  where
    by : (named : Bool) → is_form_name key ≡ named → next + length (other_keys left) ≡ whole
    by true named =
        let same : next ≡ count = step ∙ rw named refl in
        let all : count + length (other_keys left) ≡ whole = rw named at so_far in
        omega arith
    by false other =
        let more : next ≡ count + 1 = step ∙ rw other refl in
        let all : count + suc (length (other_keys left)) ≡ whole = rw other at so_far in
        omega arith

-- at the end all are told, and the rest is
pub all_told : (place : MessagePlace) (keys : List (List ℕ)) (count : ℕ) (first now new : MessageFound) → count ≡ length keys
    → now ≡ messages_together first (told_from place 0 keys) → new ≡ messages_together now (message_findings_alone (further_message_faults (at_message place) count))
    → new ≡ messages_together first (found_of_keys place keys)
all_told place keys count first now new counted told rest =
    rest
    ∙ ap (λ (f : MessageFound). messages_together f (message_findings_alone (further_message_faults (at_message place) count))) told
    ∙ messages_together_assoc first (told_from place 0 keys) (message_findings_alone (further_message_faults (at_message place) count))
    ∙ ap (λ (f : MessageFound). messages_together first f) joined
  where
    joined : messages_together (told_from place 0 keys) (message_findings_alone (further_message_faults (at_message place) count)) ≡ found_of_keys place keys
    joined = rw (counted, add-zero (length keys)) refl
