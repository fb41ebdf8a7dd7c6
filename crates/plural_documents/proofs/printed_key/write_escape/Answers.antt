use Rattle.std.proofs.Common.{◌<◌, ◌∷◌, ℕ, [], zero, suc, arith}
use Rattle.std.specs.Str.{IsAscii}
use Rattle.std.proofs.lemmas.Str.{IsUtf8-from_ascii}
use Rattle.plural_documents.proofs.printed_key.write_escape.Goals as goal

four_ascii : (a b c d : ℕ) → a < 128 → b < 128 → c < 128 → d < 128 → IsAscii (a ∷ b ∷ c ∷ d ∷ [])
four_ascii a b c d first second third fourth zero = first
four_ascii a b c d first second third fourth (suc zero) = second
four_ascii a b c d first second third fourth (suc (suc zero)) = third
four_ascii a b c d first second third fourth (suc (suc (suc zero))) = fourth
four_ascii a b c d first second third fourth (suc (suc (suc (suc i)))) = omega arith

pub unreachable-requires : goal.unreachable-requires
unreachable-requires g c =
    c.in-Err.ensures.cases.0
    (IsUtf8-from_ascii _ (four_ascii _ _ _ _ (omega arith) (omega arith) c.digit.ensures.ascii c.digit-2.ensures.ascii))
