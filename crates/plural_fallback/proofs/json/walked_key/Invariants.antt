use Rattle.std.proofs.Common.{◌≡◌}
use Rattle.std.specs.Prelude.{bytes_eq}
use Rattle.std.specs.List.{find}
use Rattle.serde_json.specs.View.{members_view}
use Rattle.plural_fallback.specs.LocalesJson.{keys_of}
use Rattle.plural_fallback.proofs.json.walked_key.Given as goal

-- the key is among the members that are left
abbrev pub invariant-loop-key : goal.invariant-loop-key
invariant-loop-key l =
    let test = bytes_eq l.locale in
    find test (keys_of (members_view l.members.entries)) ≡ find test (keys_of (members_view l.key-iterator))
