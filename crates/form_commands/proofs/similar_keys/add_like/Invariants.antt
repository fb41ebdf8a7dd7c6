use Rattle.std.proofs.Common.{◌≡◌}
use Rattle.serde_json.specs.View.{members_view}
use Rattle.plural_fallback.specs.LocalesJson.{keys_of}
use Rattle.form_commands.specs.Inner.SimilarSteps.{told_in}
use Rattle.form_commands.proofs.similar_keys.add_like.Given as goal

-- the keys that are left complete those so far
abbrev pub invariant-loop-key : goal.invariant-loop-key
invariant-loop-key l =
    told_in l.likeness l.language l.fn.before (keys_of (members_view l.members.entries))
    ≡ told_in l.likeness l.language l.similar (keys_of (members_view l.key-iterator))
