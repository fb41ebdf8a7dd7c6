use Rattle.std.proofs.Common.{Err, map}
use Rattle.catalog_commands.specs.Inner.KeyedViews.{TellsNoText, TellsPacking, keyed_view}
use Rattle.catalog_commands.proofs.PatternTexts.{members_there, of_an_object}
use Rattle.catalog_commands.proofs.packing.pack_patterns.Goals as goal
use Rattle.serde_json.specs.View.{members_view, view}

pub returns-in-Err-clause-no_object : goal.returns-in-Err-clause-no_object
returns-in-Err-clause-no_object c =
    let members = members_view c.in-Some.members.now.entries in (
      (λ is. absurd (of_an_object (Err c.in-Err.fault) (TellsNoText members) (λ no. no) c.in-Err.ensures.fault is)),
      (λ none. absurd (members_there (view c.args.patterns.now) members c.in-Some.ensures none)),
    )

pub returns-clause-no_object : goal.returns-clause-no_object
returns-clause-no_object c =
    let members = members_view c.in-Some.members.now.entries in
    let texts = map keyed_view c.deref.result.now in (
      (λ is. absurd (of_an_object c.packed.result (TellsPacking texts) (λ no. no) c.packed.ensures.refused is)),
      (λ none. absurd (members_there (view c.args.patterns.now) members c.in-Some.ensures none)),
    )
