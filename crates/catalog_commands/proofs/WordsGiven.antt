-- The names and values of words, found one by one.
use Rattle.std.proofs.Common.{◌≡◌, ℕ, suc, ◌<◌, List, [], ◌∷◌, ◌++◌, Option, Some, map, drop, get_or, length, sym, ap, subst, drop-cons}
use Rattle.std.specs.Borrow.{Bor}
use Rattle.std.specs.Prelude.{is_some}
use Rattle.catalog_commands.specs.GivenWords.{BeginWithGiven, GivenWord, given_of}
use Rattle.catalog_commands.specs.Inner.WordViews.{words_view}

-- where a word gives something behind those that do, the first does
begin_with_given : (words : List (List ℕ)) (found : List GivenWord) (given : GivenWord) (more : List (Option GivenWord))
    → map Some found ++ Some given ∷ more ≡ map given_of words → BeginWithGiven words
begin_with_given [] [] given more is = absurd cc
begin_with_given [] (first ∷ found) given more is = absurd cc
begin_with_given (word ∷ words) [] given more is = let e : Some given ≡ given_of word = cc in ap is_some (sym e)
begin_with_given (word ∷ words) (first ∷ found) given more is = let e : Some first ≡ given_of word = cc in ap is_some (sym e)

-- the word at a place gives something, and those before it do
pub begin_behind : (words : List (Bor (List ℕ))) (found : List GivenWord) (i : ℕ) (other : Bor (List ℕ)) (given : GivenWord)
    → i < length words → map Some found ++ map given_of (words_view (drop i words)) ≡ map given_of (words_view words)
    → Some given ≡ given_of (get_or words i other).now → BeginWithGiven (words_view words)
begin_behind words found i other given within is gives =
    let rest : List (Option GivenWord) = map given_of (words_view (drop (suc i) words)) in
    let P : List (Bor (List ℕ)) → Type 0 = λ left. map Some found ++ map given_of (words_view left) ≡ map given_of (words_view words) in
    let Q : Option GivenWord → Type 0 = λ first. map Some found ++ first ∷ rest ≡ map given_of (words_view words) in
    begin_with_given (words_view words) found given rest (subst Q (sym gives) (subst P (drop-cons words i other within) is))
