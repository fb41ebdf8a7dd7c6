use Rattle.std.proofs.Common.{◌≡◌, ◌≢◌, ◌↔◌, ℕ, Result, Ok, Err, refl}
use Rattle.std.proofs.lemmas.Result.{err_from_is_err_and}
use Rattle.plural_base.specs.declared.json.error.JsonError.{JsonError}
use Rattle.plural_base.specs.declared.json.error.JsonError.TheVariants.{RangeKey, Memory}
use Rattle.plural_base.specs.declared.category.raw.RawPluralCategory.{RawPluralCategory}
use Rattle.plural_base.specs.Ranges.{range_byte}
use Rattle.plural_base.proofs.ranges.key.UnvalidatedPluralRange.to_json.Goals as goal

-- a byte that names a range isn't refused as a key
named : {A : Type 0} (r : Result A JsonError) (byte : ℕ) (start end : RawPluralCategory) → byte ≡ range_byte start end
    → (r ≡ Err RangeKey → ⊥)
    → (r ≡ Err RangeKey) ↔ ((s : RawPluralCategory) (e : RawPluralCategory) → byte ≢ range_byte s e)
named r byte start end is no_key = (λ key. absurd (no_key key), λ never. absurd (never start end is))

memory_is_no_key : {A : Type 0} (r : Result A JsonError) (e : JsonError) → r ≡ Err e → e ≡ Memory → r ≡ Err RangeKey → ⊥
memory_is_no_key r e is memory key = cc

ok_is_no_key : {A : Type 0} (x : A) → ◌≡◌ {A = Result A JsonError} (Ok x) (Err RangeKey) → ⊥
ok_is_no_key x key = cc

pub returns-in_err-text_of-clause-key : goal.returns-in_err-text_of-clause-key
returns-in_err-text_of-clause-key c =
    let p = err_from_is_err_and c.from_residual.result c.from_residual.ensures.1 in
    named c.from_residual.result c.args.self.0 c.in-Some.start c.in-Some.end ((c.in-Some.ensures c.in-Some.start c.in-Some.end).0 refl)
    (memory_is_no_key c.from_residual.result _ p.1 p.2)

pub returns-clause-key : goal.returns-clause-key
returns-clause-key c =
    named _ c.args.self.0 c.in-Some.start c.in-Some.end ((c.in-Some.ensures c.in-Some.start c.in-Some.end).0 refl) (ok_is_no_key _)
