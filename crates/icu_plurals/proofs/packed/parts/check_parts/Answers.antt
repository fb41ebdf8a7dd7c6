use Rattle.std.proofs.Common.{◌≡◌, ◌∙◌, arith, ap, sym, refl, Bool, true, false, Some, subst}
use Rattle.std.specs.Prelude.{option_map}
use Rattle.std.specs.Str.{is_utf8}
use Rattle.icu_plurals.specs.ElementsFaults.{HasPadding, HasRestFault}
use Rattle.icu_plurals.specs.Inner.ElementsViews.{lent_parts}
use Rattle.icu_plurals.proofs.ElementsOneFault.{parts_answer, rest_fault}
use Rattle.icu_plurals.proofs.packed.parts.check_parts.Goals.{After-check_items}
use Rattle.icu_plurals.proofs.packed.parts.check_parts.Goals as goal

-- none of bits 4 to 6 of the first byte is set
no_padding : (c : After-check_items) → ¬ (HasPadding c.args.parts.now.first)
no_padding c = λ high. omega (arith, high, c.if-parts-gt15.false)

-- the default's text is UTF-8
has_text : (c : After-check_items) → is_utf8 c.args.parts.now.text.now ≡ true
has_text c = by c.is_text.result refl
  where
    by : (b : Bool) → c.is_text.result ≡ b → is_utf8 c.args.parts.now.text.now ≡ true
    by true e = sym c.is_text.ensures ∙ e
    by false e = cc

-- what was checked is the rest after the default
is_rest : (c : After-check_items) → (lent_parts c.args.parts.now).rest ≡ Some c.in-Some.rest.now
is_rest c = ap (option_map (λ rest. rest.now)) c.in-Some.is

pub returns-in-Some-clause-sound : goal.returns-in-Some-clause-sound
returns-in-Some-clause-sound c =
    parts_answer (lent_parts c.args.parts.now) c.in-Some.rest.now c.check_items.result (is_rest c) (no_padding c) (has_text c)
    c.check_items.ensures.sound

pub returns-in-Some-clause-only : goal.returns-in-Some-clause-only
returns-in-Some-clause-only c = λ fault h.
    let here = rest_fault (lent_parts c.args.parts.now) fault (no_padding c) (has_text c) h in
    c.check_items.ensures.only fault (subst (λ rest. HasRestFault rest fault) (is_rest c) here)
