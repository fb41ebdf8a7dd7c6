-- The numbers of a text's tokens are at most the largest that a token holds, since a longer run of
-- digits is Junk. From cuts to tokens; SpellableConditions and the printed texts cite it.
use Rattle.std.proofs.Common.{◌≤◌, ℕ, List, [], ◌∷◌, ◌++◌, Option, Some, None, sym, subst}
use Rattle.std.proofs.lemmas.List.Elements.{All-contains, All-from_recursion}
use Rattle.std.specs.Prelude.{IfSome}
use Rattle.std.specs.List.{AllByRecursion, filter_map, cons_option}
use Rattle.plural_reference.specs.declared.token.Token.{Token}
use Rattle.plural_reference.specs.declared.token.Token.TheVariants.{Number}
use Rattle.plural_reference.specs.Lexer.{Word, marks, keywords, max_number, IsPiece, space, mark, keyword, number}
use Rattle.plural_reference.specs.Lexer.{unknown, too_large, broken, cut_off, Piece, IsCut, AreTokensOf}

-- the number of a token, if it has one, is at most the largest
abbrev pub TokenFits : Token → Type 0
TokenFits (Number n) = n ≤ max_number
TokenFits _ = Unit {0}

-- the same of every token of a list
abbrev pub AllFit : List Token → Type 0
AllFit tokens = AllByRecursion TokenFits tokens

-- the front of tokens that fit is tokens that fit
pub fit_left : (a b : List Token) → AllFit (a ++ b) → AllFit a
fit_left [] b h = tt
fit_left (t ∷ ts) b h = (h.0, fit_left ts b h.1)

-- and so is their end
pub fit_right : (a b : List Token) → AllFit (a ++ b) → AllFit b
fit_right [] b h = h
fit_right (t ∷ ts) b h = fit_right ts b h.1

-- no mark is a number above the largest
marks_fit : AllByRecursion (λ (w : Word). TokenFits w.1) marks
marks_fit = (tt, (tt, (tt, (tt, (tt, (tt, (tt, (tt, (tt, (tt, (tt, (tt, (tt, (tt, (tt, (tt, tt))))))))))))))))

-- nor is a keyword
keywords_fit : AllByRecursion (λ (w : Word). TokenFits w.1) keywords
keywords_fit = (tt, (tt, (tt, (tt, (tt, (tt, tt))))))

-- the token of a piece fits
piece_fits : (piece rest : List ℕ) (token : Option Token) → IsPiece piece rest token → IfSome token TokenFits
piece_fits piece rest token (space e k) = rw k tt
piece_fits piece rest token (mark t c f k) =
    rw k
    (All-contains (λ (w : Word). TokenFits w.1) marks (piece, t)
    (All-from_recursion (λ (w : Word). TokenFits w.1) marks marks_fit) c)
piece_fits piece rest token (keyword t c k) =
    rw k
    (All-contains (λ (w : Word). TokenFits w.1) keywords (piece, t)
    (All-from_recursion (λ (w : Word). TokenFits w.1) keywords keywords_fit) c)
piece_fits piece rest token (number r small k) = rw k small
piece_fits piece rest token (unknown b e n k) = rw k tt
piece_fits piece rest token (too_large r large k) = rw k tt
piece_fits piece rest token (broken begun next b e g d k) = rw k tt
piece_fits piece rest token (cut_off next g e k) = rw k tt

-- tokens that fit still do with one in front that fits, or with none
cons_fits : (token : Option Token) (tokens : List Token) → IfSome token TokenFits → AllFit tokens → AllFit (cons_option token tokens)
cons_fits None tokens h k = k
cons_fits (Some t) tokens h k = (h, k)

-- the tokens of a cut fit
cut_fits : (text : List ℕ) (pieces : List Piece) → IsCut text pieces → AllFit (filter_map (λ p. p.1) pieces)
cut_fits text [] h = tt
cut_fits text (p ∷ ps) h = cons_fits p.1 _ (piece_fits p.0 h.0 p.1 h.2) (cut_fits h.0 ps h.3)

-- the tokens of a text fit
pub tokens_fit : (text : List ℕ) (tokens : List Token) → AreTokensOf text tokens → AllFit tokens
tokens_fit text tokens h = subst AllFit (sym h.2) (cut_fits text h.0 h.1)
