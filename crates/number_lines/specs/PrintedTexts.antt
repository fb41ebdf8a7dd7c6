-- What is printed: a text, and whether a line of it tells a fault.
--     both_printed first second      one after the other
use Rattle.std.specs.Prelude.{ℕ, List, [], ◌++◌, Bool, false, ◌||◌}

pub record PrintedText : Type 0 where
  pub text : List ℕ
  pub has_fault : Bool

abbrev pub nothing_printed : PrintedText
nothing_printed = record { text = []; has_fault = false }

abbrev pub only_text : List ℕ → PrintedText
only_text text = record { text = text; has_fault = false }

abbrev pub both_printed : PrintedText → PrintedText → PrintedText
both_printed first second = record { text = first.text ++ second.text; has_fault = first.has_fault || second.has_fault }

abbrev pub without_text : PrintedText → PrintedText
without_text printed = record { text = []; has_fault = printed.has_fault }

-- after a text that was written before
abbrev pub after_text : List ℕ → PrintedText → PrintedText
after_text text printed = record { text = text ++ printed.text; has_fault = printed.has_fault }
