use Rattle.std.proofs.Common.{◌++◌, take, drop, arith, ap, ◌∙◌, refl}
use Rattle.std.specs.Fmt.{decimal}
use Rattle.std.proofs.lemmas.Grind.{put_two}
use Rattle.fixed_decimal.specs.Digits.{text_of}
use Rattle.fixed_decimal.proofs.ShownTexts.{all_digits, one_more}
use Rattle.fixed_decimal.proofs.shown.write_digits.Goals as goal

pub loop-index-preserved : goal.loop-index-preserved
loop-index-preserved g c =
    let x = c.args.number.now in
    let ds = x.whole ++ x.fraction in
    let index = c.loop-index.index in
    let more = one_more ds c.args.from c.args.count index (all_digits x c.requires.written) c.requires.inside (omega arith) in (
      omega arith,
      λ plain. let so_far = c.loop-index.invariant.1 plain in
          put_two _ _ _ _ _ _ _ so_far (c.in_ok-write.ensures.writes so_far.plain refl)
          (ap (λ d. text_of (take index (drop c.args.from ds)) ++ decimal d) c.digit-digit.ensures ∙ more),
    )
