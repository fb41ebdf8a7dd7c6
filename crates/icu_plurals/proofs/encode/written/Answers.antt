use Rattle.std.proofs.Common.{◌≡◌, true, arith, subst}
use Rattle.std.specs.Str.{is_utf8}
use Rattle.std.proofs.lemmas.Str.{is_utf8-from_IsUtf8}
use Rattle.icu_plurals.proofs.encode.written.Goals as goal

pub returns-clause-valid : goal.returns-clause-valid
returns-clause-valid c = record {
  metadata = omega arith;
  text = subst (λ text. is_utf8 text ≡ true) c.as_bytes.ensures.value (is_utf8-from_IsUtf8 _ c.as_bytes.ensures.utf8);
}
