use Rattle.std.proofs.Common.{◌≡◌, ℕ, List, None, Some, refl, inl, subst}
use Rattle.fixed_decimal.specs.Written.{CompactNumber, WritesCompact, OneCompact}
use Rattle.message_format.specs.FormatParts.{branches_at, IsFirstChosen}
use Rattle.message_format.specs.FormatBranches.{Equals}
use Rattle.message_format.proofs.Equal.{counted_by}
use Rattle.message_format.proofs.Passes.{of_value}
use Rattle.message_format.proofs.steps.counted.Goals as goal

-- the text writes the number that its bytes do
rewritten : (bytes text : List ℕ) (x : CompactNumber) → bytes ≡ text → WritesCompact bytes x → WritesCompact text x
rewritten bytes text x same w = subst (λ (t : List ℕ). WritesCompact t x) same w

-- what holds of the number holds of each that the text writes
of_each : OneCompact → (P : CompactNumber → Type 0) (text : List ℕ) (x y : CompactNumber) → WritesCompact text x → P x
    → WritesCompact text y → P y
of_each one P text x y w h v = subst P (one text x y w v) h

pub first_chosen-requires : goal.first_chosen-requires
first_chosen-requires g c = λ k. ((refl, tt), (tt, λ word e. e))

pub counted_by_category-requires : goal.counted_by_category-requires
counted_by_category-requires g c = λ k. (
  (refl, (refl, tt)),
  (
    (λ x w.
        let bs = branches_at (g.P.MessageParts.parts c.args.argument) in
        let none = rw c.in-None.is at c.in-Ok.ensures.first in
        let written =
        rewritten c.as_bytes-written.result.now c.args.text.now c.in-Some.plain c.as_bytes-written.ensures.value
        c.in-Some.ensures.number.0 in
        of_each c.texts_write_one_number.ensures.compact (λ (y : CompactNumber). IsFirstChosen (λ s. Equals y s) bs None) c.args.text.now
        c.in-Some.plain x written none w),
    c.in-Ok.ensures.left,
  ),
)

pub returns-in-Some-branch-clause-step : goal.returns-in-Some-branch-clause-step
returns-in-Some-branch-clause-step g c =
    let bs = branches_at (g.P.MessageParts.parts c.args.argument) in
    let parts = g.P.MessageParts.parts c.in-Some-branch.branch in
    let first = rw c.in-Some-branch.is at c.in-Ok.ensures.first in
    let written =
    rewritten c.as_bytes-written.result.now c.args.text.now c.in-Some.plain c.as_bytes-written.ensures.value c.in-Some.ensures.number.0 in
    counted_by (g.R.TextRules.rules c.args.rules.now) c.args.name.now bs c.args.text.now c.as_bytes-written.result.now c.in-Some.plain
    parts
    written c.in-Some.ensures.number.1 c.in-Some.ensures.number.2 (inl (of_value c.in-Some.plain bs (Some parts) first))
    c.as_bytes-written.ensures.value
