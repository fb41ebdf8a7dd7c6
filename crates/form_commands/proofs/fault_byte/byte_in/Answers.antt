use Rattle.std.proofs.Common.{◌≡◌, ◌≢◌, Some, None, rules, subst}
use Rattle.form_commands.proofs.FoundBytes.{IsByteIn, other, told, without}
use Rattle.form_commands.proofs.fault_byte.byte_in.Goals as goal

pub returns-in-Some : goal.returns-in-Some
returns-in-Some c =
    let fault = c.in-Some.fault in
    let same : fault.kind ≡ c.args.kind = search rules in
    subst (λ text. IsByteIn text c.args.kind (Some fault.byte)) c.as_bytes.ensures.value
    (told c.as_bytes.result.now c.args.kind c.in_ok-fault.field-0 fault c.in-Some.is same c.in_ok-fault.ensures.fault)

pub returns-in-Some-2 : goal.returns-in-Some-2
returns-in-Some-2 c =
    let fault = c.in-Some.fault in
    let differs : fault.kind ≢ c.args.kind = search rules in
    subst (λ text. IsByteIn text c.args.kind None) c.as_bytes.ensures.value
    (other c.as_bytes.result.now c.args.kind c.in_ok-fault.field-0 fault c.in-Some.is differs c.in_ok-fault.ensures.fault)

pub returns-in-None : goal.returns-in-None
returns-in-None c =
    subst (λ text. IsByteIn text c.args.kind None) c.as_bytes.ensures.value
    (without c.as_bytes.result.now c.args.kind c.in_ok-fault.field-0 c.in-None.is c.in_ok-fault.ensures.fault)
