use Rattle.std.proofs.Common.{◌≡◌, ◌++◌, drop, string_bytes}
use Rattle.icu_plurals.specs.FiveRules.{rules_of}
use Rattle.form_commands.specs.CExpressions.{choice_text}
use Rattle.form_commands.specs.GettextLines.{conditions_of}
use Rattle.form_commands.proofs.gettext.choice_text.Given as goal

-- the choices of the forms that are left complete those so far
abbrev pub invariant-loop-place : goal.invariant-loop-place
invariant-loop-place l =
    string_bytes l.text ++ choice_text l.place (conditions_of (rules_of l.five) (drop l.place l.forms))
    ≡ choice_text 0 (conditions_of (rules_of l.five) l.forms)
