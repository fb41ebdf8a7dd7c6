-- A fault that is found is the only outcome.
use Rattle.std.proofs.Common.{◌≡◌, List, [], Some, None, Err, ap, subst, refl, inl, inr}
use Rattle.message_pattern.specs.PatternParts.{Part}
use Rattle.message_format.specs.declared.error.FormatError.{FormatError}
use Rattle.message_format.specs.declared.error.FormatError.TheVariants as error
use Rattle.message_format.specs.FormatArguments.{Argument}
use Rattle.message_format.specs.FormatSteps.{TwoRules}
use Rattle.message_format.specs.FormatMeaning.{PatternOutcome, Faulty, PatternSays, SaysExactly, HaveOneOutcome}
use Rattle.message_format.specs.Inner.FormatViews.{IsFaultOfParts, outcome_of}

pub fault_said : HaveOneOutcome → (arguments : List Argument) (rules : TwoRules) (ps : List Part) (f : FormatError)
    → IsFaultOfParts arguments rules [] ps [] f → SaysExactly arguments rules ps (outcome_of (Err f))
fault_said law arguments rules ps (error.Argument fault name) h =
    let x = Faulty fault name.now in
    record {
      only = λ o e. let f : x ≡ o = cc in subst (λ (y : PatternOutcome). PatternSays arguments rules ps y) f h;
      every = λ o k. inl (ap Some (law arguments rules ps x o h k));
    }
fault_said law arguments rules ps error.Memory h = record { only = λ o e. let g : None ≡ Some o = e in cc; every = λ o k. inr refl }
