use Rattle.std.proofs.Common.{ℕ, suc, ◌+◌, ◌*◌, ◌^◌, ◌<◌, ◌≤◌, ◌∷◌, lit≤, ap, ◌∙◌, arith}
use Rattle.std.proofs.Math.Facts.{Fits-of_lt}
use Rattle.std.specs.Int.{w128}
use Rattle.document_tokens.proofs.KindLemmas.{bit_of, bit_small, length_opened, more_below, opened_more}
use Rattle.document_tokens.proofs.nesting.Nesting.open.Goals as goal

room : (n : ℕ) → n < 127 → suc n ≤ 128
room n less = omega arith

alone : (n most : ℕ) → n + 0 < most → n < most
alone n most less = omega arith

pub returns : goal.returns
returns c =
    let n = c.self.inside in (
      rw (← c.self.view_is, length_opened n.count n.objects) c.if-self-ge-MOST_OPEN.false,
      opened_more n.count n.objects c.args.is_object c.from.result (c.from.ensures ∙ bit_of c.args.is_object)
          ∙ ap (λ opened. c.args.is_object ∷ opened) c.self.view_is,
    )

pub overflow_mul-self : goal.overflow_mul-self
overflow_mul-self c =
    Fits-of_lt {w = w128} (alone (c.self.inside.objects * 2) (2 ^ 128)
    (more_below c.self.inside.objects 0 c.self.inside.count 128 c.self.invariant.1
    (room c.self.inside.count c.if-self-ge-MOST_OPEN.false) (lit≤ tt)))

pub overflow_add-self-2 : goal.overflow_add-self-2
overflow_add-self-2 c =
    Fits-of_lt {w = w128} (more_below c.self.inside.objects c.from.result c.self.inside.count 128 c.self.invariant.1
    (room c.self.inside.count c.if-self-ge-MOST_OPEN.false) (rw (c.from.ensures) (bit_small c.args.is_object)))
