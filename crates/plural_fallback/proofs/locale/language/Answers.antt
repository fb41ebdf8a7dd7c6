use Rattle.std.proofs.Common.{ℕ, sym, ap, ◌∙◌, take, arith}
use Rattle.std.proofs.lemmas.List.{take_all}
use Rattle.std.proofs.lemmas.List.Sums.{position_or_len_is}
use Rattle.plural_fallback.specs.LocaleNames.{is_separator}
use Rattle.plural_fallback.proofs.locale.language.Goals as goal

pub returns-then-is_separator : goal.returns-then-is_separator
returns-then-is_separator c =
    let locale = c.args.locale.now in
    ap (λ (n : ℕ). take n locale)
    (sym (position_or_len_is is_separator locale c.loop-index.index 0 (omega arith) c.loop-index.invariant (λ _. sym c.if-is_separator.ensures)))

pub returns : goal.returns
returns c =
    let locale = c.args.locale.now in
    let index = c.loop-index.index in
    sym (ap (λ (n : ℕ). take n locale)
    (position_or_len_is is_separator locale index 0 (omega arith) c.loop-index.invariant (λ within. absurd (omega arith)))
    ∙ take_all index locale (omega arith))
