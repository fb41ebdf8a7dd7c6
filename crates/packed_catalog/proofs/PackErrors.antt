-- Different outcomes of packing are different.
use Rattle.std.proofs.Common.{◌≡◌, ℕ, Result, Ok, Err}
use Rattle.std.specs.Global.{Vec}
use Rattle.packed_catalog.specs.declared.error.PackCatalogError.{PackCatalogError}
use Rattle.packed_catalog.specs.declared.error.PackCatalogError.TheVariants.{Order, TooLong, Memory}

abbrev Outcome : Type 0
Outcome = Result (Vec ℕ) PackCatalogError

abbrev packed : Vec ℕ → Outcome
packed bytes = Ok bytes

abbrev failed : PackCatalogError → Outcome
failed error = Err error

pub too_long_isnt_order : (index : ℕ) → failed TooLong ≡ failed (Order index) → ⊥
too_long_isnt_order index e = cc

pub order_isnt_too_long : (index : ℕ) → failed (Order index) ≡ failed TooLong → ⊥
order_isnt_too_long index e = cc

pub memory_isnt_order : (index : ℕ) → failed Memory ≡ failed (Order index) → ⊥
memory_isnt_order index e = cc

pub bytes_arent_order : (bytes : Vec ℕ) (index : ℕ) → packed bytes ≡ failed (Order index) → ⊥
bytes_arent_order bytes index e = cc
