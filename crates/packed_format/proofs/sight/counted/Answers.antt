use Rattle.std.proofs.Common.{◌≡◌, ◌+◌, ℕ, List, drop, refl, subst, inl, Some, None}
use Rattle.fixed_decimal.specs.Written.{CompactNumber, WritesCompact, OneCompact}
use Rattle.plural_base.specs.Categories.{name_of}
use Rattle.message_pattern.specs.PatternParts.{branches_of}
use Rattle.message_format.specs.FormatBranches.{Equals}
use Rattle.message_format.specs.FormatParts.{IsFirstChosen}
use Rattle.message_format.proofs.Equal.{counted_by, counted_by_text}
use Rattle.message_format.proofs.Passes.{of_value}
use Rattle.packed_pattern.specs.Inner.PlacesAhead.{placed_view}
use Rattle.packed_format.proofs.sight.counted.Goals as goal

-- the text writes the number that its bytes do
rewritten : (bytes text : List ℕ) (x : CompactNumber) → bytes ≡ text → WritesCompact bytes x → WritesCompact text x
rewritten bytes text x same w = subst (λ (t : List ℕ). WritesCompact t x) same w

-- what holds of the number holds of each that the text writes
of_each : OneCompact → (P : CompactNumber → Type 0) (text : List ℕ) (x y : CompactNumber) → WritesCompact text x → P x
    → WritesCompact text y → P y
of_each one P text x y w h v = subst P (one text x y w v) h

pub returns-in-Ok-Some-clause-branch : goal.returns-in-Ok-Some-clause-branch
returns-in-Ok-Some-clause-branch g c name =
    let x = c.in_ok-plain.plain in
    let text = c.args.text.now in
    let bs = branches_of (placed_view c.args.begin.now).part.depth (drop (c.args.index + 1) c.args.pattern.now) in
    let parts = drop c.in-Ok-Some.at c.args.pattern.now in
    let written = rewritten c.as_bytes.result.now text x c.as_bytes.ensures.value c.in_ok-plain.ensures.number.0 in
    counted_by (g.R.TextRules.rules c.args.rules.now) name bs text text x parts written c.in_ok-plain.ensures.number.1 c.in_ok-plain.ensures.number.2
    (inl (of_value x bs (Some parts) (rw c.in-Ok-Some.field-0-is at c.in-Ok-Some.ensures.first))) refl

pub returns-in-Ok-clause-branch : goal.returns-in-Ok-clause-branch
returns-in-Ok-clause-branch g c name =
    let x = c.in_ok-plain.plain in
    let text = c.args.text.now in
    let bs = branches_of (placed_view c.args.begin.now).part.depth (drop (c.args.index + 1) c.args.pattern.now) in
    let parts = drop c.branch_of_category.result c.args.pattern.now in
    let written = rewritten c.as_bytes.result.now text x c.as_bytes.ensures.value c.in_ok-plain.ensures.number.0 in
    counted_by_text (g.R.TextRules.rules c.args.rules.now) name bs text text (name_of c.in-Ok.category) c.in-Ok.category parts
    c.in-Ok.ensures.chosen refl
    (λ y w. of_each c.texts_write_one_number.ensures.compact (λ (z : CompactNumber). IsFirstChosen (λ s. Equals z s) bs None) text x y written
    (rw c.in-Ok-None.field-0-is at c.in-Ok-None.ensures.first) w)
    c.branch_of_category.ensures.branch refl
