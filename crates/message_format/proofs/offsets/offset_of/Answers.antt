use Rattle.std.proofs.Common.{sym, subst, List, ℕ}
use Rattle.fixed_decimal.specs.Written.{WritesUnsigned}
use Rattle.message_format.proofs.Ascii.{unsigned_is_utf8}
use Rattle.message_format.proofs.offsets.offset_of.Goals as goal

pub returns-in-Err-clause-syntax : goal.returns-in-Err-clause-syntax
returns-in-Err-clause-syntax c = λ e o w. c.in-Err.ensures.cases.0 (unsigned_is_utf8 c.args.digits.now o w)

pub returns-in-Ok-clause-syntax : goal.returns-in-Ok-clause-syntax
returns-in-Ok-clause-syntax c =
    λ e o w. c.from_str.ensures.syntax.0 e o (subst (λ (t : List ℕ). WritesUnsigned t o) (sym c.in-Ok.ensures.cases.0) w)

pub returns-in-Ok-clause-limit : goal.returns-in-Ok-clause-limit
returns-in-Ok-clause-limit c = λ e.
    let h = c.from_str.ensures.limit.0 e in
    (h.0, subst (λ (t : List ℕ). WritesUnsigned t h.0) c.in-Ok.ensures.cases.0 h.1, h.2)
