use Rattle.std.proofs.Common.{◌≡◌, ◌+◌, ◌-◌, ◌++◌, min, length, take, refl, ap, ◌∙◌, arith, ℕ}
use Rattle.std.proofs.lemmas.Grind.{common_steps}
use Rattle.number_lines.specs.NumberAnswers.{most_number_bytes}
use Rattle.number_lines.proofs.LineLemmas.{kept_with}
use Rattle.number_lines.proofs.stream.Lines.keep.Goals as goal

pub returns : goal.returns
returns c =
    let old = c.args.self.now.line.items in
    let bytes = c.args.bytes.now in
    let room : c.min-kept.result ≡ min (most_number_bytes + 1 - length old) (length bytes) = omega arith in
    let grown : c.extend_from_slice.new.self.items ≡ old ++ take c.min-kept.result bytes =
    grind (arith, common_steps, c.in_ok-extend_from_slice.ensures.items) in
    record {
      line = λ short. grown ∙ ap (λ (n : ℕ). old ++ take n bytes) room ∙ kept_with (most_number_bytes + 1) old bytes short;
      place = refl;
      printed = refl;
    }
