use Rattle.std.proofs.Common.{ℕ, List, ap, subst}
use Rattle.plural_documents.proofs.JsonTextLemmas.{some_bytes}
use Rattle.rules_outline.specs.KeptRules.{IsServedBy}
use Rattle.rules_outline.proofs.outline.kept_rules.Goals as goal

pub returns-in-Ok : goal.returns-in-Ok
returns-in-Ok c =
    subst (λ (bytes : List ℕ). IsServedBy c.args.part c.args.locale.now bytes c.in-Ok.kept)
    (ap (λ text. text.bytes) (c.in_ok-text.ensures).0)
    c.in-Ok.ensures

pub returns : goal.returns
returns c = let found = (c.in_ok-text.ensures).1 in some_bytes c.args.bytes.now found.0 found.1
