use Rattle.std.proofs.Common.{length, ap, arith}
use Rattle.std.proofs.lemmas.Result.{err_from_is_err_and}
use Rattle.plural_reference.proofs.reading.ParserSteps.{passes_on}
use Rattle.plural_reference.proofs.samples.SampleSinks.{keeps_one_range, keeps_more_ranges}
use Rattle.plural_reference.proofs.samples.SampleSinks.{list_range_fault, keeps_list_with_ellipsis, keeps_list_without_ellipsis}
use Rattle.plural_reference.proofs.parser.Parser.sample_list.Goals as goal

pub list-init : goal.list-init
list-init g c = record {
  read = keeps_one_range _ _ _ _ _ _ c.in_ok-ranges.ensures c.in_ok-sample_range.ensures.range c.in_ok-push_range.ensures;
  shorter = c.in_ok-sample_range.ensures.shorter;
}

pub returns-then-take_if-clause-list : goal.returns-then-take_if-clause-list
returns-then-take_if-clause-list g c = keeps_list_with_ellipsis _ _ _ _ _ _ c.list.invariant.read c.list-test.ensures c.if-take_if.ensures

pub returns-in_err-sample_range-2-clause-list : goal.returns-in_err-sample_range-2-clause-list
returns-in_err-sample_range-2-clause-list g c =
    let p = err_from_is_err_and c.from_residual-in_err-sample_range-2.result c.from_residual-in_err-sample_range-2.ensures.1 in
    let n = c.if-take_if.ensures in
    rw (p.1, p.2)
    (passes_on _ _ c.in_err-sample_range-2.field-0.0 c.in_err-sample_range-2.ensures.range
    (λ kind q. list_range_fault _ _ _ _ _ _ _ kind c.list.invariant.read c.list-test.ensures n.0 n.1 q))

pub list-preserved : goal.list-preserved
list-preserved g c =
    let n = c.if-take_if.ensures in
    record {
      read =
          keeps_more_ranges _ _ _ _ _ _ _ _ _ c.list.invariant.read c.list-test.ensures n.0 n.1
          c.in_ok-sample_range-2.ensures.range c.in_ok-push_range-2.ensures;
      shorter = omega (arith, ap length c.list-test.ensures, ap length n.1, c.in_ok-sample_range-2.ensures.shorter);
    }

pub returns-clause-list : goal.returns-clause-list
returns-clause-list g c = let n = c.list-test.ensures in keeps_list_without_ellipsis _ _ _ _ _ c.list.invariant.read n.0 n.1
