-- Chains of a document's parents, which a long locale ends, and how many steps they have.
--     short_next parent locale      the next locale, where `parent` names the parents
--     AreKnown next chains      what is known of chains holds
use Rattle.std.specs.Prelude.{◌≡◌, ℕ, ◌+◌, ◌<◌, List, Option, None, IfSome, IsSome, if◌then◌else◌, Bool, length, nat_lt}
use Rattle.std.specs.List.{All}
use Rattle.plural_fallback.specs.Chain.{next_of}
use Rattle.plural_fallback.specs.FirstKeys.{locale_at}
use Rattle.plural_fallback.specs.declared.first_key.TheConstants.{MOST_LOCALES}
use Rattle.document_members.specs.declared.chains.KnownChain.{KnownChain}
use Rattle.document_members.specs.declared.chains.KnownChains.{KnownChains}

-- ---- names that are too long for a locale

-- the most bytes of a name that isn't long
abbrev pub most_name_bytes : ℕ
most_name_bytes = 255

abbrev pub is_long_name : List ℕ → Bool
is_long_name name = nat_lt most_name_bytes (length name)

-- the next locale of a chain, where `parent` names the parents; a long one is the last
abbrev pub short_next : (List ℕ → Option (List ℕ)) → List ℕ → Option (List ℕ)
short_next parent locale = if is_long_name locale then None else next_of parent locale

-- the chain of a locale has so many steps, after which it ends, unless they are as many as are
-- looked up
pub record HasSteps (next : List ℕ → Option (List ℕ)) (locale : List ℕ) (steps : ℕ) : Type 0 where
  pub there : IsSome (locale_at next locale steps)
  pub ends : steps < MOST_LOCALES → locale_at next locale (steps + 1) ≡ None

-- what is known of a chain, if anything is
abbrev pub IsKnown : (List ℕ → Option (List ℕ)) → Option KnownChain → Type 0
IsKnown next row = IfSome row (λ known. HasSteps next known.locale.now known.steps)

-- each known chain has its steps
abbrev pub AreKnown : (List ℕ → Option (List ℕ)) → KnownChains → Type 0
AreKnown next chains = All (IsKnown next) chains.rows.items × IsKnown next chains.last
