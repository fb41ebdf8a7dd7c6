use Rattle.std.proofs.Common.{◌-◌, ◌∙◌, arith, length-set}
use Rattle.number_categories.proofs.ToldLists.{longer_run, run_written}
use Rattle.number_categories.proofs.number_walk.runs_of.Goals.{then-told-place, else-told-place}
use Rattle.number_categories.proofs.number_walk.runs_of.Goals as goal

pub loop-place-preserved : goal.loop-place-preserved
loop-place-preserved c =
    let told = c.args.told.now in
    let runs = c.loop-place.runs in
    let place = c.loop-place.place in
    let p = place - 1 in
    let run = c.loop-place.run in
    let new = c.if-told-place.run in
    let inv = c.loop-place.invariant in
    elim c.if-told-place.branch [
      | then-told-place w ↦ record {
        all = length-set runs p new ∙ inv.all;
        end = omega (arith, inv.end, w.run-is);
        here = longer_run told runs place p run (omega arith) inv.all inv.here inv.end inv.at w.if-told-place.true new w.run-is;
        at = run_written told runs place p run (omega arith) inv.all inv.here inv.end inv.at new (omega (arith, inv.end, w.run-is))
            (longer_run told runs place p run (omega arith) inv.all inv.here inv.end inv.at w.if-told-place.true new w.run-is);
      }
      | else-told-place w ↦ record {
        all = length-set runs p new ∙ inv.all;
        end = omega (arith, inv.end, w.run-is);
        here = λ j less. absurd (omega (arith, w.run-is));
        at = run_written told runs place p run (omega arith) inv.all inv.here inv.end inv.at new (omega (arith, inv.end, w.run-is))
            (λ j less. absurd (omega (arith, w.run-is)));
      }
    ]

pub returns : goal.returns
returns c = record {
  all = c.loop-place.invariant.all;
  at = λ r j small less. c.loop-place.invariant.at r j (omega arith) small less;
}
