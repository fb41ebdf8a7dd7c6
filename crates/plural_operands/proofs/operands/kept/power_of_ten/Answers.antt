use Rattle.std.proofs.Common.{refl, ◌∙◌, ℕ, List, [], ◌∷◌, arith}
use Rattle.plural_operands.proofs.numbers.Numbers.{ArePowers, power_at}
use Rattle.plural_operands.proofs.operands.kept.power_of_ten.Goals as goal

-- the powers of ten up to 10 ^ 18
abbrev table : List ℕ
table =
    1 ∷ 10 ∷ 100 ∷ 1000 ∷ 10000 ∷ 100000 ∷ 1000000 ∷ 10000000 ∷ 100000000 ∷ 1000000000 ∷ 10000000000 ∷ 100000000000
    ∷ 1000000000000 ∷ 10000000000000 ∷ 100000000000000 ∷ 1000000000000000 ∷ 10000000000000000 ∷ 100000000000000000
    ∷ 1000000000000000000 ∷ []

powers : ArePowers 1 table
powers = (
  refl,
  (
    refl,
    (
      refl,
      (
        refl,
        (
          refl,
          (
            refl,
            (
              refl,
              (
                refl,
                (
                  refl,
                  (
                    refl,
                    (refl, (refl, (refl, (refl, (refl, (refl, (refl, (refl, (refl, tt))))))))),
                  ),
                ),
              ),
            ),
          ),
        ),
      ),
    ),
  ),
)

pub returns : goal.returns
returns c = power_at 1 table c.args.power powers (omega arith) ∙ omega arith
