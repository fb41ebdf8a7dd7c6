use Rattle.std.proofs.Common.{ℕ, List, Err, Ok, refl, sym, subst, inr}
use Rattle.std.proofs.lemmas.Result.{err_from_is_err_and}
use Rattle.plural_reference.specs.declared.error.ReadError.TheVariants.{Memory}
use Rattle.plural_reference.specs.RelationSinks.{GivesCondition}
use Rattle.plural_reference.proofs.parser.parse_without_samples.Goals as goal

-- out of memory may always be the answer
out_of_memory : (text : List ℕ) → GivesCondition text (Err Memory)
out_of_memory text = record {
  only = λ tokens cut. tt;
  read = λ tokens x cut read. inr refl;
  fault = λ tokens kind cut fault. inr refl;
}

pub returns-in_err-read_relations : goal.returns-in_err-read_relations
returns-in_err-read_relations c =
    let p = err_from_is_err_and c.from_residual.result c.from_residual.ensures.1 in
    rw (p.1, p.2) c.in_err-read_relations.ensures

pub returns-in_err-condition : goal.returns-in_err-condition
returns-in_err-condition c =
    let p = err_from_is_err_and c.from_residual-in_err-condition.result c.from_residual-in_err-condition.ensures.1 in
    rw (p.1, p.2) (out_of_memory _)

pub returns : goal.returns
returns c =
    let read = c.in_ok-read_relations.ensures in
    subst (λ x. GivesCondition c.args.text.now (Ok x)) (sym (c.in_ok-condition.ensures read.0 read.1)) read.2
