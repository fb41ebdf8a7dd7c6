use Rattle.std.proofs.Common.{◌≢◌, take, All}
use Rattle.plural_base.proofs.json.known_rules.rule_among.Given as goal

-- none of the entries so far has this text
abbrev pub invariant-loop-known : goal.invariant-loop-known
invariant-loop-known l = All (λ known. known.text.now ≢ l.text) (take l.known-index l.entries)
