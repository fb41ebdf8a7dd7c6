use Rattle.std.proofs.lemmas.List.Elements.{All-nil, All-same}
use Rattle.translation_files.specs.NoticeSeverities.{IsGraded}
use Rattle.translation_files.proofs.notices.Notices.new.Goals as goal

pub invariant_of-result : goal.invariant_of-result
invariant_of-result c =
    record { graded = All-same IsGraded c.new.result.items _ c.new.ensures.items (All-nil IsGraded) }
