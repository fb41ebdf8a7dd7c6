use Rattle.std.proofs.Common.{◌≡◌, ◌<◌, ℕ, get_or}
use Rattle.format_arguments.specs.declared.format.Format.TheVariants.{C}
use Rattle.format_arguments.specs.declared.format.TheConstants.{FORMATS}
use Rattle.format_arguments.specs.DirectiveTables.{flag_of}
use Rattle.format_arguments.proofs.format.Format.from_flag.Given as goal

-- the flag is that of none so far
abbrev pub invariant-loop-format : goal.invariant-loop-format
invariant-loop-format l = (k : ℕ) → k < l.format-index → ¬ (flag_of (get_or FORMATS k C) ≡ l.flag)
