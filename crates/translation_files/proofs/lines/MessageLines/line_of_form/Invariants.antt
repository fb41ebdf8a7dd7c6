use Rattle.std.proofs.Common.{◌≡◌, drop}
use Rattle.std.specs.List.{find}
use Rattle.translation_files.specs.FilePlaces.{is_of_form}
use Rattle.translation_files.proofs.lines.MessageLines.line_of_form.Given as goal

-- the form is among those that are left
abbrev pub invariant-loop-it : goal.invariant-loop-it
invariant-loop-it l = find (is_of_form l.form) l.self.forms.items ≡ find (is_of_form l.form) (drop l.it-index l.self.forms.items)
