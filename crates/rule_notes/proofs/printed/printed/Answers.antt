use Rattle.std.proofs.Common.{ap, ◌∙◌, ◌++◌, string_bytes}
use Rattle.std.proofs.lemmas.Fmt.{contents_after_writes}
use Rattle.plural_reference.specs.Serializer.{condition_text}
use Rattle.rule_notes.proofs.printed.printed.Goals as goal

pub returns-in-Ok : goal.returns-in-Ok
returns-in-Ok c =
    contents_after_writes _ string_bytes (λ w bs v appended. appended) c.new-text.result (condition_text c.args.condition.now)
    c.serialize_condition.new.w c.in-Ok.ensures
    ∙ ap (λ text. text ++ condition_text c.args.condition.now) c.new-text.ensures.bytes
