-- `i` and `.` that no longer piece begins with.
use Rattle.std.proofs.Common.{◌≡◌, ◌≢◌, ℕ, List, [], ◌∷◌, Some, refl, ap}
use Rattle.plural_reference.specs.Lexer.{first}
use Rattle.plural_operands.specs.declared.operand.Operand.TheVariants.{I}
use Rattle.plural_reference.specs.declared.token.Token.TheVariants.{Operand, Dot}
use Rattle.plural_reference.specs.Inner.Scan.{tokens_of, tokens_from}
use Rattle.plural_reference.specs.Inner.BehindFirst.{rest_from, behind_first}
use Rattle.plural_reference.proofs.tokens.ScanComplete.{no_eq}

-- `i` that `n` doesn't follow is an operand
pub i_alone : (byte : ℕ) (rest : List ℕ) → byte ≡ 105 → first rest ≢ Some 110 → tokens_of (byte ∷ rest) ≡ Operand I ∷ tokens_of rest
unfolding tokens_from
i_alone byte [] e h = rw e refl
i_alone byte (b ∷ bs) e h = rw (e, no_eq b 110 (λ k. h (ap Some k))) refl

-- `.` that no second one follows is a point
pub point_alone : (byte : ℕ) (rest : List ℕ) → byte ≡ 46 → first rest ≢ Some 46 → tokens_of (byte ∷ rest) ≡ Dot ∷ tokens_of rest
unfolding tokens_from
point_alone byte [] e h = rw e refl
point_alone byte (b ∷ bs) e h = rw (e, no_eq b 46 (λ k. h (ap Some k))) refl

-- nothing else belongs to the piece
pub i_leaves : (byte : ℕ) (rest : List ℕ) → byte ≡ 105 → first rest ≢ Some 110 → behind_first (byte ∷ rest) ≡ rest
unfolding rest_from
i_leaves byte [] e h = rw e refl
i_leaves byte (b ∷ bs) e h = rw (e, no_eq b 110 (λ k. h (ap Some k))) refl

pub point_leaves : (byte : ℕ) (rest : List ℕ) → byte ≡ 46 → first rest ≢ Some 46 → behind_first (byte ∷ rest) ≡ rest
unfolding rest_from
point_leaves byte [] e h = rw e refl
point_leaves byte (b ∷ bs) e h = rw (e, no_eq b 46 (λ k. h (ap Some k))) refl

-- what the lexer may be left to show
pub ruleset alone = (i_alone, point_alone, i_leaves, point_leaves)
