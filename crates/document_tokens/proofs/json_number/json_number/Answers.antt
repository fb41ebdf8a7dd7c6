use Rattle.std.proofs.Common.{◌≡◌, true, false, rules, sym, ap, ◌∙◌}
use Rattle.std.specs.Prelude.{slice_index, ◌==◌}
use Rattle.fast_float.specs.Text.{minus, scan}
use Rattle.serde_json.specs.Read.{number_from}
use Rattle.document_tokens.proofs.NumberLemmas.{after_minus, behind, without_minus}
use Rattle.document_tokens.proofs.json_number.json_number.Goals as goal

pub returns-then-starts_with : goal.returns-then-starts_with
returns-then-starts_with c =
    let text = c.args.text.now in
    let sign : (slice_index text 0 == minus) ≡ true = search rules in
    c.signed_number.ensures
    ∙ ap (λ size. number_from true (scan size)) (behind c.as_bytes-bytes.result.now text c.as_bytes-bytes.ensures.value)
    ∙ sym (after_minus text sign)

pub returns-else-starts_with : goal.returns-else-starts_with
returns-else-starts_with c =
    let text = c.args.text.now in
    let sign : (slice_index text 0 == minus) ≡ false = search rules in
    c.signed_number-else-starts_with.ensures ∙ ap (λ size. number_from false (scan size)) c.as_bytes-bytes.ensures.value
    ∙ sym (without_minus text sign)
