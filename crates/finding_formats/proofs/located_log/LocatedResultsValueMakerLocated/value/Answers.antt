use Rattle.std.proofs.Common.{◌≡◌, ap, false, string_bytes, ◌∙◌}
use Rattle.std.proofs.lemmas.Result.{IfOk-weaker}
use Rattle.finding_formats.proofs.NoFloats.{result_without}
use Rattle.finding_formats.proofs.located_log.LocatedResultsValueMakerLocated.value.Goals as goal
use Rattle.finding_formats.specs.LocatedFindings.{told_view}
use Rattle.finding_formats.specs.LocatedLog.{told_result}
use Rattle.serde_json.specs.View.{view}
use Rattle.serde_json.specs.Written.{has_float}

pub returns-clause-without : goal.returns-clause-without
returns-clause-without c =
    IfOk-weaker c.told_result.result _ (λ value. has_float (view value) ≡ false) (λ value is. ap has_float is ∙ result_without _ _ _)
    c.told_result.ensures
