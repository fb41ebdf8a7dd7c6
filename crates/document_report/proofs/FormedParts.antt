-- Parts that have their form together have it one by one.
use Rattle.std.proofs.Common.{◌≡◌, Result, Ok, Err, refl}
use Rattle.std.specs.Prelude.{⊤}
use Rattle.plural_documents.specs.Steps.{◌>>=◌}
use Rattle.document_report.specs.declared.error.CheckError.{CheckError}

-- each step had a value
pub record ThreeFormed (cardinal ordinal ranges : Result ⊤ CheckError) : Type 0 where
  pub cardinal_is : cardinal ≡ Ok tt
  pub ordinal_is : ordinal ≡ Ok tt
  pub ranges_is : ranges ≡ Ok tt

pub three_formed : (cardinal ordinal ranges : Result ⊤ CheckError)
    → (cardinal >>= λ first. ordinal >>= λ second. ranges) ≡ Ok tt → ThreeFormed cardinal ordinal ranges
three_formed (Err fault) ordinal ranges h = absurd cc
three_formed (Ok c) (Err fault) ranges h = absurd cc
three_formed (Ok c) (Ok o) (Err fault) h = absurd cc
three_formed (Ok c) (Ok o) (Ok r) h = record { cardinal_is = refl; ordinal_is = refl; ranges_is = refl }
