use Rattle.std.proofs.Common.{◌≡◌, true, inl, inr, refl}
use Rattle.message_report.proofs.fault.text_fault.Goals as goal

pub returns-then-has_placeholder : goal.returns-then-has_placeholder
returns-then-has_placeholder c = inl (c.has_placeholder.ensures.0 c.if-has_placeholder.true, refl)

pub returns-else-has_placeholder : goal.returns-else-has_placeholder
returns-else-has_placeholder c =
    inr (
      (λ sub.
          let there : c.has_placeholder.result ≡ true = c.has_placeholder.ensures.1 sub in
          cc c.if-has_placeholder.false),
      rw c.numbers.ensures at c.no_number.ensures,
    )
