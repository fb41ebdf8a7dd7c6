use Rattle.std.proofs.Common.{arith, refl}
use Rattle.std.proofs.lemmas.List.{length-map}
use Rattle.std.proofs.lemmas.Option.{slice_get_within}
use Rattle.message_catalog.specs.MessagePacking.{keyed_text_view, texts_view}
use Rattle.message_catalog.specs.Inner.PackedViews.{packed_view}
use Rattle.message_catalog.proofs.PackingFaults.{good_more, message_exact, message_refused, pushed, text_there}
use Rattle.message_catalog.proofs.TextsPacked.{behind_all}
use Rattle.message_catalog.proofs.packing.packed_messages.Goals as goal

pub returns-in-Err-clause-refused : goal.returns-in-Err-clause-refused
returns-in-Err-clause-refused c =
    message_refused (texts_view c.args.messages.now) c.loop-index.index _ c.in-Err.error
    (text_there c.args.messages.now c.loop-index.index _ c.loop-index-test.true) c.loop-index.invariant.good c.in-Err.ensures.refused

pub returns-in-Err-clause-exact : goal.returns-in-Err-clause-exact
returns-in-Err-clause-exact c =
    message_exact (texts_view c.args.messages.now) c.loop-index.index _ c.in-Err.error
    (text_there c.args.messages.now c.loop-index.index _ c.loop-index-test.true) c.loop-index.invariant.good c.in-Err.ensures.refused
    c.in-Err.ensures.exact

pub loop-index-preserved : goal.loop-index-preserved
loop-index-preserved c = record {
  behind = pushed c.args.messages.now c.loop-index.index _ c.loop-index.packed.items c.push.new.self.items _ c.loop-index-test.true
      c.in_ok-push.ensures.items c.in-Ok.ensures.packed refl c.loop-index.invariant.behind;
  good = good_more c.args.messages.now c.loop-index.index _ c.loop-index-test.true c.loop-index.invariant.good c.in-Ok.ensures.good;
}

pub returns-clause-packed : goal.returns-clause-packed
returns-clause-packed c =
    let many = length-map c.args.messages.now keyed_text_view in
    behind_all (texts_view c.args.messages.now) c.loop-index.index (packed_view c.loop-index.packed.items)
    (omega (arith, many, c.loop-index-test.false)) c.loop-index.invariant.behind

pub returns-clause-good : goal.returns-clause-good
returns-clause-good c = λ k keyed within there.
    let many = length-map c.args.messages.now keyed_text_view in
    let l = slice_get_within (texts_view c.args.messages.now) k keyed there in
    c.loop-index.invariant.good k keyed (omega (arith, many, l, c.loop-index-test.false)) there
