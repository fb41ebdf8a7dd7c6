-- The arguments of words, found one by one.
use Rattle.std.proofs.Common.{List, [], ◌∷◌, ◌++◌, subst, sym}
use Rattle.std.proofs.lemmas.List.{append_assoc}
use Rattle.message_format.specs.FormatArguments.{Argument}
use Rattle.message_pattern.specs.PatternParts.{Part}
use Rattle.catalog_commands.specs.GivenWords.{AreArgumentsOf, GivenWord, IsArgumentOf}

-- the arguments of the remaining words complete those so far
abbrev pub Completed : List Part → List GivenWord → List GivenWord → List Argument → Type 0
Completed parts left all found = (more : List Argument) → AreArgumentsOf parts left more → AreArgumentsOf parts all (found ++ more)

-- also behind one more
pub next_argument : (parts : List Part) (word : GivenWord) (left all : List GivenWord) (found : List Argument) (argument : Argument)
    → IsArgumentOf parts word argument → Completed parts (word ∷ left) all found → Completed parts left all (found ++ argument ∷ [])
next_argument parts word left all found argument is h more are =
    subst (AreArgumentsOf parts all) (sym (append_assoc found (argument ∷ []) more)) (h (argument ∷ more) (is, are))
