-- Not a definition of the subject: arguments and languages of the code, in the words of the
-- definitions.
use Rattle.std.specs.Prelude.{List, option_map}
use Rattle.message_pattern.specs.declared.part.Part as parts
use Rattle.message_pattern.specs.declared.part.Selector as selectors
use Rattle.message_pattern.specs.PatternParts.{Branching, branches_of, parts_view, selector_view}
use Rattle.message_report.specs.Inner.LanguageViews.{language_view}
use Rattle.message_report.specs.PatternFaults.{PluralArgument, TwoLanguages}
use Rattle.message_report.specs.declared.plural_argument.Argument.{Argument}
use Rattle.message_report.specs.declared.languages.Languages.{Languages}

abbrev pub plural_argument_view : Argument → PluralArgument
plural_argument_view a = record {
  name = a.name.now;
  has_offset = a.has_offset;
  depth = a.depth;
  branches = branches_of a.depth (parts_view a.parts.now);
  own_zero = a.own_zero;
  own_one = a.own_one;
}

-- the branch of a selector, from whose parts on these are
abbrev pub branching : selectors.Selector → List parts.Part → Branching
branching selector ps = record { selector = selector_view selector; parts = parts_view ps }

abbrev pub languages_view : Languages → TwoLanguages
languages_view two =
    record { cardinal = option_map language_view two.cardinal; ordinal = option_map language_view two.ordinal }
