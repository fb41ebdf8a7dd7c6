use Rattle.std.proofs.Common.{◌≡◌, ℕ, List, ◌++◌, codes, string_bytes, ap, sym, ◌∙◌, append_assoc}
use Rattle.std.proofs.lemmas.Result.{IfOk-weaker}
use Rattle.plural_fallback.specs.LocalesJson.{part_name}
use Rattle.form_commands.specs.FormLines.{alone_text, header_line, is_alone}
use Rattle.form_commands.proofs.list.header.Goals as goal

-- the pieces of the line, grouped from the left as they are written, or from the right as they are
-- printed
seven : (a b c d e f g : List ℕ) → (((((a ++ b) ++ c) ++ d) ++ e) ++ f) ++ g ≡ a ++ (b ++ (c ++ (d ++ (e ++ (f ++ g)))))
seven a b c d e f g = simp append_assoc

pub returns : goal.returns
returns c =
    let locale = c.args.locale.now in
    let key = c.args.language.now.key.now in
    let end = codes ", whole numbers below 10000\n" in
    IfOk-weaker c.format.result
    (λ s. string_bytes s
    ≡ locale ++ (codes ": " ++ (c.as_str.result.now ++ (codes " rules of " ++ (key ++ (c.alone_text-alone.result.now ++ end))))))
    (λ s. string_bytes s ≡ header_line c.args.part locale c.args.language.now)
    (λ s wrote. wrote
    ∙ ap (λ (part : List ℕ). locale ++ (codes ": " ++ (part ++ (codes " rules of " ++ (key ++ (c.alone_text-alone.result.now ++ end))))))
    c.as_str.ensures
    ∙ ap (λ (alone : List ℕ). locale ++ (codes ": " ++ (part_name c.args.part ++ (codes " rules of " ++ (key ++ (alone ++ end))))))
    c.alone_text-alone.ensures
    ∙ sym (seven locale (codes ": ") (part_name c.args.part) (codes " rules of ") key (alone_text (is_alone c.args.language.now.rules))
    end))
    c.format.ensures.ok
