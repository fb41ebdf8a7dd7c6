use Rattle.std.proofs.Common.{length, sym, ap, ◌∙◌}
use Rattle.document_tokens.proofs.KindLemmas.{length_opened}
use Rattle.document_tokens.proofs.nesting.Nesting.depth.Goals as goal

pub returns : goal.returns
returns c = sym (ap length (sym c.self.view_is) ∙ length_opened c.self.inside.count c.self.inside.objects)
