-- The chain of a locale: the locale, the next one, and so on to `root`. Unlike the inheritance of
-- UTS 35 Part 1, a parent of another language, or `root`, is passed over: a script doesn't change
-- plural rules.
--     next_of parent locale      the next locale of the chain, where `parent` names the parents
use Rattle.std.specs.Prelude.{ℕ, List, Option, Some, None, codes, if◌then◌else◌}
use Rattle.plural_fallback.specs.LocaleNames.{before_last, is_same, language}

-- after a language alone: its parent, else `root`, where the chain ends
abbrev pub after_language : Option (List ℕ) → List ℕ → Option (List ℕ)
after_language (Some parent) locale = Some parent
after_language None locale = if is_same locale (codes "root") then None else Some (codes "root")

-- after any other locale: its parent, if that is of the same language; else the front, which is the
-- locale without its last subtag
abbrev pub after_longer : Option (List ℕ) → List ℕ → List ℕ → List ℕ
after_longer None locale front = front
after_longer (Some parent) locale front = if is_same (language parent) (language locale) then parent else front

abbrev pub next_by : Option (List ℕ) → List ℕ → Option (List ℕ) → Option (List ℕ)
next_by parent locale None = after_language parent locale
next_by parent locale (Some front) = Some (after_longer parent locale front)

abbrev pub next_of : (List ℕ → Option (List ℕ)) → List ℕ → Option (List ℕ)
next_of parent locale = next_by (parent locale) locale (before_last locale)
