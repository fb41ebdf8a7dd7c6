-- The messages of a locale in a document (docs/TRANSLATORS.md), and its patterns.
--     locale_messages_in named document      the messages of the locale that is named, or of the only one
--     patterns_in messages      the patterns, if nothing else would be packed
use Rattle.std.specs.Prelude.{ℕ, List, Option, Some, None, Result, Ok, Err, Bool, true, false, codes, if◌then◌else◌}
use Rattle.catalog_commands.specs.declared.locales.MessagesFault.{MessagesFault}
use Rattle.catalog_commands.specs.declared.locales.MessagesFault.TheVariants.{AbsentLocale, CardinalForms, NoLocale, NoPatterns, OrdinalForms, SeveralLocales}
use Rattle.serde_json.specs.Data.{Data, Members, no_members, member}
use Rattle.serde_json.specs.Find.{as_object, get}

-- the key of a locale, and its messages
pub record OneLocale : Type 0 where
  pub locale : List ℕ
  pub messages : Data

abbrev pub one_locale : List ℕ → Data → OneLocale
one_locale locale messages = record { locale = locale; messages = messages }

-- the only member
abbrev pub only_member : Members → Result OneLocale MessagesFault
only_member no_members = Err NoLocale
only_member (member locale messages no_members) = Ok (one_locale locale messages)
only_member (member locale messages (member _ _ _)) = Err SeveralLocales

-- the member that is named
abbrev pub member_named : List ℕ → Option Data → Result OneLocale MessagesFault
member_named name None = Err AbsentLocale
member_named name (Some messages) = Ok (one_locale name messages)

-- of a document with these members, if it is an object
abbrev pub messages_among : Option (List ℕ) → Data → Option Members → Result OneLocale MessagesFault
messages_among named document None = Err NoLocale
messages_among None document (Some locales) = only_member locales
messages_among (Some name) document (Some locales) = member_named name (get name document)

abbrev pub locale_messages_in : Option (List ℕ) → Data → Result OneLocale MessagesFault
locale_messages_in named document = messages_among named document (as_object document)

-- whether a part is something else than an object without members
abbrev pub has_members : Option Members → Bool
has_members None = true
has_members (Some no_members) = false
has_members (Some (member _ _ _)) = true

abbrev pub has_messages : Option Data → Bool
has_messages None = false
has_messages (Some part) = has_members (as_object part)

abbrev pub patterns_or_fault : Option Data → Result Data MessagesFault
patterns_or_fault None = Err NoPatterns
patterns_or_fault (Some patterns) = Ok patterns

abbrev pub patterns_in : Data → Result Data MessagesFault
patterns_in messages =
    if has_messages (get (codes "cardinal") messages) then Err CardinalForms
    else (if has_messages (get (codes "ordinal") messages) then Err OrdinalForms
    else patterns_or_fault (get (codes "patterns") messages))
