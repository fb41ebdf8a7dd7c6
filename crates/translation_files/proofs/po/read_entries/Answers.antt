use Rattle.std.proofs.Common.{◌≡◌, ◌==◌, ℕ, length, arith, refl, sym, ap, ◌∙◌, true≢false}
use Rattle.std.specs.Vec.{vec_len}
use Rattle.std.proofs.lemmas.Result.{IfOk-weaker}
use Rattle.translation_files.proofs.ReadLemmas.{no_entries, unread_graded}
use Rattle.translation_files.proofs.po.read_entries.Goals as goal

pub returns-then-is_empty-clause-graded : goal.returns-then-is_empty-clause-graded
returns-then-is_empty-clause-graded g c =
    IfOk-weaker c.no_messages.result _ _ (λ file unread. unread_graded _ _ _ file refl unread) c.no_messages.ensures

pub returns-clause-nothing : goal.returns-clause-nothing
returns-clause-nothing g c none =
    let entries = c.args.catalog.entries in
    let size : vec_len entries ≡ length entries.items = omega (arith, entries.ok) in
    let is : vec_len entries ≡ 0 = size ∙ no_entries c.args.catalog none in
    absurd (true≢false (ap (λ (n : ℕ). n == 0) (sym is) ∙ sym c.is_empty.ensures ∙ c.if-is_empty.false))
