use Rattle.std.proofs.Common.{◌≡◌, ℕ, max, ap, ◌∙◌, arith}
use Rattle.std.proofs.lemmas.Int.{to_z-of_z}
use Rattle.fixed_decimal.specs.Places.{Places}
use Rattle.fixed_decimal.specs.FractionEnds.{places_down_to, padded_to}
use Rattle.fixed_decimal.specs.Inner.UnsignedInside.{places_of}
use Rattle.fixed_decimal.proofs.Ends.{pad_view}
use Rattle.fixed_decimal.proofs.unsigned.UnsignedDecimal.pad_end.Goals as goal

pub returns-clause-padded : goal.returns-clause-padded
returns-clause-padded c =
    let most : c.max-self-inside.result ≡ max c.self.inside.fraction_places (places_down_to c.args.position) = grind (arith, to_z-of_z) in
    ap (λ (f : ℕ). places_of (record c.self.inside { fraction_places = f })) most
    ∙ pad_view c.self.inside (places_down_to c.args.position) c.self.invariant
    ∙ ap (λ (x : Places). padded_to (places_down_to c.args.position) x) c.self.view_is
