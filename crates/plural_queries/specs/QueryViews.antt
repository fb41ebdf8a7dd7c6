-- Queries and documents of the code, in the words of the definitions.
use Rattle.serde_json.specs.View.{view}
use Rattle.plural_queries.specs.Input.{WholeDocument, RuledElements}
use Rattle.plural_queries.specs.Queries.{Lookup, number_category, range_category, printed_rules, number_element, number_message, Query, of_document, truth}
use Rattle.plural_queries.specs.declared.document.Document.{Document as CodeDocument}
use Rattle.plural_queries.specs.declared.query.Lookup.{Lookup as CodeLookup}
use Rattle.plural_queries.specs.declared.query.Lookup.TheVariants as look_up
use Rattle.plural_queries.specs.declared.query.Query.{Query as CodeQuery}
use Rattle.plural_queries.specs.declared.query.Query.TheVariants as query
use Rattle.plural_queries.specs.Commands.{Command, test, category, range, print, select, message}
use Rattle.plural_queries.specs.declared.command.Command.{Command as CodeCommand}
use Rattle.plural_queries.specs.declared.command.Command.TheVariants as words
use Rattle.plural_queries.specs.declared.elements.RuledElements.{RuledElements as CodeElements}

-- the query of a document, with the bytes of its words
abbrev pub lookup_view : CodeLookup → Lookup
lookup_view (look_up.Category locale type number) = number_category locale.now type number
lookup_view (look_up.Range locale type start end) = range_category locale.now type start end
lookup_view (look_up.Print locale type) = printed_rules locale.now type
lookup_view (look_up.Select locale type number) = number_element locale.now type number
lookup_view (look_up.Message locale type number word) = number_message locale.now type number word.now

abbrev pub query_view : CodeQuery → Query
query_view (query.Test condition integer) = truth condition integer
query_view (query.Document lookup) = of_document (lookup_view lookup)

-- the document, with the data of its value
abbrev pub document_view : CodeDocument → WholeDocument
document_view document = record { value = view document.value; maps = document.maps }

-- ---- the values of private types, in the words of the definitions

-- the command, with the bytes of its words
abbrev pub command_view : CodeCommand → Command
command_view (words.Test condition integer) = test condition.now integer.now
command_view (words.Category locale type number) = category locale.now type number.now
command_view (words.Range locale type start end) = range locale.now type start.now end.now
command_view (words.Print locale type) = print locale.now type
command_view (words.Select locale type number) = select locale.now type number.now
command_view (words.Message locale type number) = message locale.now type number.now

-- the elements and the rules
abbrev pub elements_view : CodeElements → RuledElements
elements_view given = record { elements = given.elements; rules = given.rules }
