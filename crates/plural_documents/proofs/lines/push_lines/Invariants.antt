use Rattle.std.proofs.Common.{◌≡◌, ◌++◌, drop, map, string_bytes}
use Rattle.std.specs.List.{flat_map}
use Rattle.plural_documents.proofs.lines.push_lines.Given as goal

-- the text so far, and then the lines of the remaining things; the printer prints the same lines
abbrev pub invariant-loop-thing : goal.invariant-loop-thing
invariant-loop-thing g l =
    (string_bytes l.text ++ flat_map (g.P.LinePrinter.line_of l.initial.printer) (map g.P.LinePrinter.seen (drop l.thing-index l.things))
    ≡ string_bytes l.initial.text ++ flat_map (g.P.LinePrinter.line_of l.initial.printer) (map g.P.LinePrinter.seen l.things))
    × (g.P.LinePrinter.line_of l.printer ≡ g.P.LinePrinter.line_of l.initial.printer)
