-- The value of a text, by the tokens that are held of it.
use Rattle.std.proofs.Common.{◌≡◌, ℕ, List, [], ◌∷◌, ◌++◌, Option, Some, None, Result, Ok, Err, Vec, Global, refl, sym, ap, ◌∙◌}
use Rattle.std.specs.Prelude.{IfOk, option_and_then}
use Rattle.std.specs.Str.{IsUtf8}
use Rattle.std.proofs.lemmas.Str.{is_utf8-from_IsUtf8}
use Rattle.std.specs.declared.alloc.AllocError.{AllocError}
use Rattle.document_tokens.specs.HeldTokens.{Held, held_tokens}
use Rattle.document_tokens.specs.TextTokens.{AreHeldTokens, GivesHeldTokens, is_held_name, json_part}
use Rattle.document_tokens.specs.declared.error.JsonTextError.{JsonTextError}
use Rattle.document_tokens.specs.declared.error.JsonTextError.TheVariants as fault
use Rattle.document_tokens.specs.declared.held_token.HeldToken.{HeldToken}
use Rattle.plural_documents.specs.Inner.OutlineSteps.{GivesTokens, Holds, IsOutlined}
use Rattle.plural_documents.specs.Inputs.{json_of}
use Rattle.plural_documents.specs.Outlines.{GivesHeldText, GivesOutline, HeldText, IsOutlineOf, outline, part_by_names}
use Rattle.plural_documents.specs.declared.outline.Portion.{Portion}
use Rattle.plural_documents.specs.declared.outline.Portion.TheVariants as kept
use Rattle.plural_documents.proofs.HeldValues.{all_of, part_read}
use Rattle.plural_documents.proofs.JsonTextLemmas.{value_refused, value_there}
use Rattle.plural_documents.proofs.OutlinedLemmas.{some_is}
use Rattle.serde_json.specs.Data.{Data}
use Rattle.serde_json.specs.Read.{of_json}
use Rattle.serde_json.specs.View.{view}
use Rattle.serde_json.specs.declared.value.Value.{Value}

pub none_left : {T : Type 0} (ts : List T) → ts ++ [] ≡ ts
none_left [] = refl
none_left (t ∷ ts) = ap (λ us. t ∷ us) (none_left ts)

-- the text is that of a value, and this is held of it
pub text_held : (text : List ℕ) (names : Option (List (List ℕ))) (ts : List Held) → IsUtf8 text → AreHeldTokens names text ts
    → ((whole : Data) × (json_of text ≡ Some whole)) × Holds record { bytes = text; names = names } ts
text_held text names ts utf8 (j, whole, is, read, held) =
    let there = value_there text whole utf8 (ap (option_and_then of_json) is ∙ read) in
    let part = part_read names j whole read in
    ((whole, there), (part.0, (whole, there, part.2), (json_part (is_held_name names) j, held, part.1)))

-- why there are no tokens
pub fault_given : (names : Option (List (List ℕ))) (bytes : List ℕ) (cause : JsonTextError)
    → GivesHeldTokens names bytes (Err cause) → GivesHeldText names bytes (Err cause)
fault_given names bytes fault.Json none = value_refused bytes (λ text. none)
fault_given names bytes fault.Memory some = some

-- all tokens are those of the text's value
pub tokens_given : (text : List ℕ) (r : Result (Vec HeldToken Global) JsonTextError) → IsUtf8 text → GivesHeldTokens None text r
    → GivesTokens text r
tokens_given text (Ok ts) utf8 (j, whole, is, read, held) =
    (j, rw (is_utf8-from_IsUtf8 text utf8) is, held ∙ ap held_tokens (all_of j))
tokens_given text (Err fault.Json) utf8 none = value_refused text (λ text. none)
tokens_given text (Err fault.Memory) utf8 some = tt

-- ---- An outline

-- what is kept of the first tokens is kept of what is held
pub outline_given : {S : Type 0} (keeps : S → List ℕ → Portion S) (sieve : S) (text : HeldText) (ts new : List Held)
    (r : Result Value AllocError)
    → Holds text ts → IfOk r (λ value. IsOutlined keeps (Some sieve) ts (view value) new)
    → IfOk r (λ value. IsOutlineOf keeps sieve text (view value))
outline_given keeps sieve text ts new (Ok value) (held, is_held, (j, spelled, read)) outlined =
    (held, is_held, (outlined j [] held (spelled ∙ sym (none_left (held_tokens j))) read).1)
outline_given keeps sieve text ts new (Err error) holds outlined = outlined

-- where all is held, it is kept of the value of the bytes
pub outline_of_all : {S : Type 0} (keeps : S → List ℕ → Portion S) (sieve : S) (text : HeldText) (bytes : List ℕ) (value : Value)
    → text ≡ record { bytes = bytes; names = None } → IsOutlineOf keeps sieve text (view value) → GivesOutline keeps sieve bytes (Ok value)
outline_of_all keeps sieve text bytes value all (held, (whole, reads, is_held), outlined) = (
  whole,
  ap json_of (sym (ap (λ t. t.bytes) all)) ∙ reads,
  ap (outline keeps (kept.Members sieve)) (some_is whole held (ap (λ t. part_by_names t.names whole) (sym all) ∙ is_held)) ∙ outlined,
)
