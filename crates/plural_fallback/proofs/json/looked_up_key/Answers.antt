use Rattle.std.proofs.Common.{◌∙◌, ap, sym, List, ℕ, Option, Some, String, Global, string_bytes, bytes_eq, option_map}
use Rattle.std.specs.List.{find}
use Rattle.serde_json.specs.View.{members_view}
use Rattle.plural_fallback.specs.LocalesJson.{keys_of}
use Rattle.plural_fallback.proofs.ExactKeys.{looked_up, no_text}
use Rattle.plural_fallback.proofs.json.looked_up_key.Goals as goal

pub returns-in_default : goal.returns-in_default
returns-in_default c = sym (no_text c.args.locale.now c.args.members.now.entries c.in_default.ensures.cases.0)

pub returns-in-Some : goal.returns-in-Some
returns-in-Some c =
    let bytes : Option (String Global) → Option (List ℕ) = option_map (λ k. string_bytes k) in
    let same : (name : List ℕ) → Option (List ℕ) = λ name. find (bytes_eq name) (keys_of (members_view c.args.members.now.entries)) in
    ap Some c.as_str.ensures.value ∙ ap bytes c.in-Some.ensures.key ∙ looked_up c.in-Ok.name.now c.args.members.now.entries
    ∙ ap same c.in-Ok.ensures.cases.0

pub returns-in-None : goal.returns-in-None
returns-in-None c =
    let bytes : Option (String Global) → Option (List ℕ) = option_map (λ k. string_bytes k) in
    let same : (name : List ℕ) → Option (List ℕ) = λ name. find (bytes_eq name) (keys_of (members_view c.args.members.now.entries)) in
    ap bytes c.in-None.ensures.key ∙ looked_up c.in-Ok.name.now c.args.members.now.entries ∙ ap same c.in-Ok.ensures.cases.0
