use Rattle.std.proofs.Common.{◌≡◌, ◌≤◌, arith, sym}
use Rattle.format_arguments.specs.declared.format.Format.{Format}
use Rattle.format_arguments.specs.declared.format.Format.TheVariants.{C, ObjectiveC, Python, JavaScript, Boost, Qt, QtPlural, Kde, PythonBrace, PerlBrace, Java}
use Rattle.format_arguments.specs.DirectiveTables.{flag_of}
use Rattle.format_arguments.proofs.format.Format.from_flag.Goals as goal

pub returns-clause-unnamed : goal.returns-clause-unnamed
returns-clause-unnamed c = λ f e.
    let n = c.loop-format.format-index in
    let whole : 11 ≤ n = c.loop-format-test.false in
    let no = c.loop-format.invariant in
    elim f as (λ (g : Format). c.args.flag.now ≡ flag_of g → ⊥) [
      | C ↦ λ h. no 0 (omega arith) (sym h)
      | ObjectiveC ↦ λ h. no 1 (omega arith) (sym h)
      | Python ↦ λ h. no 2 (omega arith) (sym h)
      | JavaScript ↦ λ h. no 3 (omega arith) (sym h)
      | Boost ↦ λ h. no 4 (omega arith) (sym h)
      | Qt ↦ λ h. no 5 (omega arith) (sym h)
      | QtPlural ↦ λ h. no 6 (omega arith) (sym h)
      | Kde ↦ λ h. no 7 (omega arith) (sym h)
      | PythonBrace ↦ λ h. no 8 (omega arith) (sym h)
      | PerlBrace ↦ λ h. no 9 (omega arith) (sym h)
      | Java ↦ λ h. no 10 (omega arith) (sym h)
    ] e
