-- What is found, put together.
use Rattle.std.proofs.Common.{◌≡◌, refl, sym, ap, ◌∙◌}
use Rattle.std.proofs.Math.Nat.{zero-add}
pub use Rattle.document_report.specs.Inner.CheckCalls.{together-nothing, together_assoc}
use Rattle.document_report.specs.FoundInDocuments.{Found, nothing_found, together}

-- adding nothing at the beginning changes nothing
pub nothing-together : (a : Found) → together nothing_found a ≡ a
nothing-together a = rw (zero-add a.faults, zero-add a.checked, zero-add a.cases) refl

-- two additions, one after the other
pub two_added : (old a b one two : Found) → one ≡ together old a → two ≡ together one b → two ≡ together old (together a b)
two_added old a b one two first second = second ∙ ap (λ (f : Found). together f b) first ∙ together_assoc old a b

-- nothing is added
pub none_added : (old : Found) → old ≡ together old nothing_found
none_added old = sym (together-nothing old)
