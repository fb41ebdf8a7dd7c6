use Rattle.std.proofs.Common.{List, ℕ, ap, ◌∙◌, ◌++◌, codes, string_bytes, append_assoc}
use Rattle.std.proofs.lemmas.Fmt.{contents_after_writes}
use Rattle.icu_plurals.specs.Serializer.{samples_text}
use Rattle.form_commands.proofs.list.push_samples.Goals as goal

pub returns-in-Ok : goal.returns-in-Ok
returns-in-Ok c =
    let samples = samples_text c.in-Some.samples.now in
    rw c.in-Some.is (
    contents_after_writes _ string_bytes (λ w bs v appended. appended) c.push_str.new.self samples c.serialize_samples.new.w c.in-Ok.ensures
    ∙ ap (λ (text : List ℕ). text ++ samples) c.in_ok-push_str.ensures.bytes
    ∙ append_assoc (string_bytes c.args.text.now) (codes ";") samples
    )
