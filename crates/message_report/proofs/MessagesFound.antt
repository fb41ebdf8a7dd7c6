-- What is found, put messages_together.
use Rattle.std.proofs.Common.{◌≡◌, refl, sym, ap, ◌∙◌}
use Rattle.std.proofs.Math.Nat.{zero-add}
pub use Rattle.message_report.specs.Inner.ToldFindings.{messages_together-nothing, messages_together_assoc}
use Rattle.message_report.specs.FoundInMessages.{MessageFound, nothing_found_in_messages, messages_together}

-- adding nothing at the beginning changes nothing
pub nothing-together : (a : MessageFound) → messages_together nothing_found_in_messages a ≡ a
nothing-together a = rw (zero-add a.faults, zero-add a.notes, zero-add a.messages, zero-add a.forms) refl

-- two additions, one after the other
pub two_added : (old a b one two : MessageFound) → one ≡ messages_together old a → two ≡ messages_together one b → two ≡ messages_together old (messages_together a b)
two_added old a b one two first second = second ∙ ap (λ (f : MessageFound). messages_together f b) first ∙ messages_together_assoc old a b

-- nothing is added
pub none_added : (old : MessageFound) → old ≡ messages_together old nothing_found_in_messages
none_added old = sym (messages_together-nothing old)
