-- From every list of tokens exactly one condition is read, or it has exactly one fault: each is
-- what the reader returns, by ReaderSound and ReaderComplete. The law of this name cites it, and so
-- does Answered, which makes a result of the parser exact.
use Rattle.std.proofs.Common.{◌≡◌, List, Result, Ok, Err, inl, inr}
use Rattle.plural_reference.specs.declared.ast.Condition.{Condition}
use Rattle.plural_reference.specs.declared.error.ParseError.{ParseError}
use Rattle.plural_reference.specs.declared.token.Token.{Token}
use Rattle.plural_reference.specs.Parser.{Reads, Faulty}
use Rattle.plural_reference.specs.ReadingLaws.{HasOneReading, HaveOneReading}
use Rattle.plural_reference.specs.Inner.Reader.{run, begin, Outcome}
use Rattle.plural_reference.proofs.reading.ReaderComplete.{reads_run, faulty_run}
use Rattle.plural_reference.proofs.reading.ReaderSound.{Said, said}
use Rattle.plural_reference.proofs.reading.PlacedFaults.{fault_place, placed_fault}

-- one result has one value
same_ok : {A B : Type 0} (r : Result A B) (x y : A) → r ≡ Ok x → r ≡ Ok y → x ≡ y
same_ok r x y h k = cc

-- nor has it two faults
same_left : {A B : Type 0} (r : Result A B) (x y : B) → r ≡ Err x → r ≡ Err y → x ≡ y
same_left r x y h k = cc

-- two conditions that are read of the same tokens are one
one_condition : (tokens : List Token) (c d : Condition) → Reads tokens c → Reads tokens d → c ≡ d
one_condition tokens c d h k =
    let e = same_ok (run begin tokens) (c, h.0) (d, k.0) (reads_run tokens c h.0 h.1) (reads_run tokens d k.0 k.1) in
    λ i. (e i).0

-- two faults of the same tokens are one
one_fault : (tokens : List Token) (e f : ParseError) → Faulty tokens e → Faulty tokens f → e ≡ f
one_fault tokens e f h k =
    let same = same_left (run begin tokens) (e, h.2) (f, k.2) (faulty_run tokens e h.2 (fault_place tokens e h)) (faulty_run tokens f k.2 (fault_place tokens f k)) in
    λ i. (same i).0

-- tokens of which a condition is read have no fault
pub not_both : (tokens : List Token) (c : Condition) (e : ParseError) → Reads tokens c → Faulty tokens e → ⊥
not_both tokens c e h k = let a = reads_run tokens c h.0 h.1 in let b = faulty_run tokens e k.2 (fault_place tokens e k) in cc

-- a condition or a fault that is returned is the only one
one_of : (tokens : List Token) (r : Outcome) → Said tokens r → HasOneReading Reads Faulty tokens
one_of tokens (Ok (c, rest)) h =
    inl ((c, (rest, h), (λ d k. one_condition tokens d c k (rest, h))), (λ kind k. not_both tokens c kind (rest, h) k))
one_of tokens (Err (kind, rest)) h =
    let f = placed_fault tokens kind rest h in
    inr ((kind, f, (λ other k. one_fault tokens other kind k f)), (λ c k. not_both tokens c kind k f))

-- of every list of tokens one condition is read, or it has one fault
pub one_reading : HaveOneReading
one_reading tokens = one_of tokens (run begin tokens) (said tokens)
