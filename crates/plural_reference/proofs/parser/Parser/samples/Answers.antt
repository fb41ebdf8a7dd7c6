use Rattle.std.proofs.lemmas.Result.{err_from_is_err_and}
use Rattle.plural_reference.proofs.reading.ParserSteps.{passes_on}
use Rattle.plural_reference.proofs.samples.SampleSinks.{keeps_no_lists, keeps_more_lists, lists_type_fault, lists_fault, keeps_all_lists}
use Rattle.plural_reference.proofs.parser.Parser.samples.Goals as goal

pub lists-init : goal.lists-init
lists-init g c = keeps_no_lists _ _

pub returns-in_err-kind : goal.returns-in_err-kind
returns-in_err-kind g c =
    let p = err_from_is_err_and c.from_residual.result c.from_residual.ensures.1 in
    rw (p.1, p.2, c.in_err-kind.ensures.kind.0)
    (lists_type_fault _ _ _ _ _ _ c.lists.invariant c.lists-test.ensures c.in_err-kind.ensures.kind.1 c.in_err-kind.ensures.kind.2)

pub returns-in_err-list : goal.returns-in_err-list
returns-in_err-list g c =
    let p = err_from_is_err_and c.from_residual-in_err-list.result c.from_residual-in_err-list.ensures.1 in
    rw (p.1, p.2)
    (passes_on _ _ c.in_err-list.field-0.0 c.in_err-list.ensures.list
    (λ kind q.
    lists_fault _ _ _ _ _ _ _ _ kind c.lists.invariant c.lists-test.ensures c.in_ok-kind.ensures.kind q))

pub lists-preserved : goal.lists-preserved
lists-preserved g c =
    keeps_more_lists _ _ _ _ _ _ _ _ _ _ c.lists.invariant c.lists-test.ensures c.in_ok-kind.ensures.kind
    c.in_ok-list.ensures.list c.with_list.ensures

pub returns : goal.returns
returns g c = let n = c.lists-test.ensures in keeps_all_lists _ _ _ _ _ c.lists.invariant n.0 n.1
