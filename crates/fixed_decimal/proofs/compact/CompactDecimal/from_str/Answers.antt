use Rattle.std.proofs.Common.{◌≡◌, ◌≢◌, true, false, ◌+◌, ◌≤◌, ◌∙◌, ℕ, List, ◌++◌, length, length-append, Err, sym, ap, subst, refl, arith}
use Rattle.std.proofs.lemmas.Result.{err_from_is_err_and}
use Rattle.fixed_decimal.specs.Written.{sign_text, WritesUnsigned, WritesDecimal, HasExponent, WritesCompact, IsCompactOverLimit, CompactNumber}
use Rattle.fixed_decimal.specs.Places.{IsWithinLimit}
use Rattle.fixed_decimal.specs.Inner.TextParts.{places_around}
use Rattle.fixed_decimal.specs.declared.decimal.Decimal.{Decimal}
use Rattle.fixed_decimal.specs.declared.error.DecimalError.TheVariants.{Syntax, Limit, Memory}
use Rattle.fixed_decimal.proofs.Points.{reads_at}
use Rattle.fixed_decimal.proofs.Exponents.{none_compact, none_decimal, over_compact, known_decimal, long_exponent, within_compact}
use Rattle.fixed_decimal.proofs.Refusals.{carried, no_cause, accepted, refused_otherwise, limit_alone, no_memory}
use Rattle.fixed_decimal.proofs.Refusals.{syntax_is_not_limit, limit_is_not_syntax, memory_is_not_syntax, memory_is_not_limit}
use Rattle.fixed_decimal.proofs.compact.CompactDecimal.from_str.Goals as goal
use Rattle.fixed_decimal.proofs.compact.CompactDecimal.from_str.Goals.{In_default, In_ok-sign, In-Ok}

-- without an exponent of its form the text is of none
no_number : (c : In_default) (y : CompactNumber) → ¬ (WritesCompact c.args.text.now y)
no_number c y h = c.in_default.ensures.only h.0 h.1 y.significand y.exponent h.2 h.3 (c.as_bytes.ensures.value ∙ h.4)

pub returns-in_default-clause-syntax : goal.returns-in_default-clause-syntax
returns-in_default-clause-syntax c = (λ e. no_number (goal.at.returns-in_default-clause-syntax c).In_default, λ none. refl)

pub returns-in_default-clause-limit : goal.returns-in_default-clause-limit
returns-in_default-clause-limit c =
    refused_otherwise _ Syntax Limit refl syntax_is_not_limit
    (λ p. no_number (goal.at.returns-in_default-clause-limit c).In_default p.0 p.1)

pub returns-in_err-sign-clause-syntax : goal.returns-in_err-sign-clause-syntax
returns-in_err-sign-clause-syntax c =
    let p = err_from_is_err_and c.from_residual.result c.from_residual.ensures.1 in
    carried c.parts_within.result c.from_residual.result c.in_err-sign.field-0.0 Syntax c.in_err-sign.was (p.1
    ∙ ap Err p.2) c.parts_within.ensures.syntax
    (none_compact c.as_bytes.result.now c.args.text.now c.in-Some.front.now c.in-Some.exponent
    c.as_bytes.ensures.value c.in-Some.ensures.found c.in-Some.ensures.only)
    (none_decimal c.as_bytes.result.now c.args.text.now c.in-Some.front.now c.in-Some.exponent
    c.as_bytes.ensures.value c.in-Some.ensures.found c.in-Some.ensures.only)

pub returns-in_err-sign-clause-limit : goal.returns-in_err-sign-clause-limit
returns-in_err-sign-clause-limit c =
    let p = err_from_is_err_and c.from_residual.result c.from_residual.ensures.1 in
    limit_alone c.parts_within.result c.from_residual.result c.in_err-sign.field-0.0 c.in_err-sign.was (p.1
    ∙ ap Err p.2) c.parts_within.ensures.no_memory c.parts_within.ensures.syntax c.parts_within.ensures.limit
    (over_compact c.as_bytes.result.now c.args.text.now c.in-Some.front.now c.in-Some.exponent
    c.as_bytes.ensures.value c.in-Some.ensures.found c.in-Some.ensures.only)
    (known_decimal c.as_bytes.result.now c.args.text.now c.in-Some.front.now c.in-Some.exponent
    c.as_bytes.ensures.value c.in-Some.ensures.found c.in-Some.ensures.only)

-- the parts before the exponent write a decimal within the limit
decimal : (c : In_ok-sign) → (x : Decimal) × WritesDecimal c.in-Some.front.now x
decimal c =
    let parts = c.in_ok-sign.ensures.parts in
    let read : WritesUnsigned c.in_ok-sign.digits.now (places_around c.in_ok-sign.digits.now c.in_ok-sign.point)
    × IsWithinLimit (places_around c.in_ok-sign.digits.now c.in_ok-sign.point)
    = reads_at c.in_ok-sign.digits.now c.in_ok-sign.point (places_around c.in_ok-sign.digits.now c.in_ok-sign.point) parts.1 refl in (
      record {
        sign = c.in_ok-sign.sign;
        absolute = places_around c.in_ok-sign.digits.now c.in_ok-sign.point;
      },
      (c.in_ok-sign.digits.now, read.0, parts.0),
    )

formed : (c : In_ok-sign) → ¬ ((y : CompactNumber) → ¬ (WritesCompact c.args.text.now y))
formed c none =
    let x : (x : Decimal) × WritesDecimal c.in-Some.front.now x = decimal c in
    none_decimal c.as_bytes.result.now c.args.text.now c.in-Some.front.now c.in-Some.exponent c.as_bytes.ensures.value
    c.in-Some.ensures.found c.in-Some.ensures.only none x.0 x.1

within : (c : In-Ok) → ¬ ((y : CompactNumber) × WritesCompact c.args.text.now y × IsCompactOverLimit y)
within c =
    within_compact c.as_bytes.result.now c.args.text.now c.in-Some.front.now c.in-Some.exponent
    c.as_bytes.ensures.value c.in-Some.ensures.found c.in-Some.ensures.only
    (no_cause c.parts_within.result
    (c.in_ok-sign.sign, c.in_ok-sign.digits, c.in_ok-sign.point) Limit c.in_ok-sign.was c.parts_within.ensures.limit) (omega arith)

pub returns-in_default-try_from-clause-syntax : goal.returns-in_default-try_from-clause-syntax
returns-in_default-try_from-clause-syntax c =
    refused_otherwise _ Limit Syntax refl limit_is_not_syntax
    (formed (goal.at.returns-in_default-try_from-clause-syntax c).In_ok-sign)

pub returns-in_default-try_from-clause-limit : goal.returns-in_default-try_from-clause-limit
returns-in_default-try_from-clause-limit c =
    let s = (goal.at.returns-in_default-try_from-clause-limit c).In_ok-sign in
    let x : (x : Decimal) × WritesDecimal c.in-Some.front.now x = decimal s in (
      λ e. long_exponent c.as_bytes.result.now c.args.text.now c.in-Some.front.now c.in-Some.exponent
          c.as_bytes.ensures.value c.in-Some.ensures.found c.in-Some.ensures.only x.0 x.1 (omega arith),
      λ p. refl,
    )

pub returns-in_err-absolute-clause-syntax : goal.returns-in_err-absolute-clause-syntax
returns-in_err-absolute-clause-syntax c =
    let p = err_from_is_err_and c.from_residual-in_err-absolute.result c.from_residual-in_err-absolute.ensures.1 in
    refused_otherwise c.from_residual-in_err-absolute.result Memory Syntax (p.1
    ∙ ap Err (p.2 ∙ c.in_err-absolute.ensures.only_memory)) memory_is_not_syntax (formed (goal.at.returns-in_err-absolute-clause-syntax c).In_ok-sign)

pub returns-in_err-absolute-clause-limit : goal.returns-in_err-absolute-clause-limit
returns-in_err-absolute-clause-limit c =
    let p = err_from_is_err_and c.from_residual-in_err-absolute.result c.from_residual-in_err-absolute.ensures.1 in
    refused_otherwise c.from_residual-in_err-absolute.result Memory Limit (p.1
    ∙ ap Err (p.2 ∙ c.in_err-absolute.ensures.only_memory)) memory_is_not_limit (within (goal.at.returns-in_err-absolute-clause-limit c).In-Ok)

pub returns-clause-number : goal.returns-clause-number
returns-clause-number c =
    let x = c.in_ok-absolute.absolute in
    let parts = c.in_ok-sign.ensures.parts in
    let read : WritesUnsigned c.in_ok-sign.digits.now x × IsWithinLimit x
    = reads_at c.in_ok-sign.digits.now c.in_ok-sign.point x parts.1 c.in_ok-absolute.ensures.places in
    let f = c.in-Some.ensures.found in
    let same : c.in-Some.exponent ≡ c.in-Ok.exponent = sym c.in-Ok.ensures.1 in (
      (
        c.in-Some.front.now,
        f.0,
        (c.in_ok-sign.digits.now, read.0, parts.0),
        subst
            (HasExponent f.0) same f.1,
        sym c.as_bytes.ensures.value ∙ f.2,
      ),
      read.1,
      omega arith,
    )

pub returns-clause-syntax : goal.returns-clause-syntax
returns-clause-syntax c = accepted _ Syntax (formed (goal.at.returns-clause-syntax c).In_ok-sign)

pub returns-clause-limit : goal.returns-clause-limit
returns-clause-limit c = accepted _ Limit (within (goal.at.returns-clause-limit c).In-Ok)

-- the digits are no longer than the text
no_longer : (text bytes front rest sign digits : List ℕ) → bytes ≡ text → bytes ≡ front ++ rest → front ≡ sign ++ digits
    → length text ≤ 16 → length digits ≤ 16
no_longer text bytes front rest sign digits same parts signed short =
    let t : length text ≡ length front + length rest = ap length (sym same ∙ parts) ∙ length-append front rest in
    let f : length front ≡ length sign + length digits = ap length signed ∙ length-append sign digits in
    omega arith

untrue : false ≢ true
untrue e = cc

pub returns-in_err-absolute-clause-inline : goal.returns-in_err-absolute-clause-inline
returns-in_err-absolute-clause-inline c short e =
    let f = c.in-Some.ensures.found in
    untrue (c.in_err-absolute.ensures.inline
    (no_longer c.args.text.now c.as_bytes.result.now c.in-Some.front.now f.0 (sign_text c.in_ok-sign.sign) c.in_ok-sign.digits.now
    c.as_bytes.ensures.value f.2 c.in_ok-sign.ensures.parts.0 short))

pub returns-in_err-sign-clause-inline : goal.returns-in_err-sign-clause-inline
returns-in_err-sign-clause-inline c short e =
    let p = err_from_is_err_and c.from_residual.result c.from_residual.ensures.1 in
    no_memory c.parts_within.result c.from_residual.result c.in_err-sign.field-0.0 c.in_err-sign.was (p.1
    ∙ ap Err p.2) c.parts_within.ensures.no_memory e
