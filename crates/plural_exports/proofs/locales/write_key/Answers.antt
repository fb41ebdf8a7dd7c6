use Rattle.std.proofs.Common.{ℕ, List, Ok, Err, refl, rules, sym, subst}
use Rattle.std.proofs.lemmas.Result.{err_from_is_err_and}
use Rattle.serde_json.specs.View.{view}
use Rattle.plural_exports.specs.FoundLocales.{HasKeyAt, IsKeyIn}
use Rattle.plural_exports.proofs.Steps.{faulty, passed_on}
use Rattle.plural_exports.proofs.locales.write_key.Goals as goal

pub returns-in_err-part : goal.returns-in_err-part
returns-in_err-part c =
    let e = c.in_err-part.field-0.0 in
    faulty (IsKeyIn c.args.json.now c.args.locale.now c.args.part) c.args.out.now e c.from_residual.result
    (passed_on _ _ (err_from_is_err_and c.from_residual.result c.from_residual.ensures.1))
    (Err e, c.in_err-part.ensures, refl)

pub returns-in_err-locale : goal.returns-in_err-locale
returns-in_err-locale c =
    let e = c.in_err-locale.field-0.0 in
    let r = c.from_residual-in_err-locale.result in
    faulty (IsKeyIn c.args.json.now c.args.locale.now c.args.part) c.args.out.now e r
    (passed_on _ _ (err_from_is_err_and r c.from_residual-in_err-locale.ensures.1))
    (Ok c.in_ok-part.part, c.in_ok-part.ensures, (Err e, c.in_err-locale.ensures, refl))

pub returns-in_err-value : goal.returns-in_err-value
returns-in_err-value c =
    let e = c.in_err-value.field-0.0 in
    let r = c.from_residual-in_err-value.result in
    faulty (IsKeyIn c.args.json.now c.args.locale.now c.args.part) c.args.out.now e r
    (passed_on _ _ (err_from_is_err_and r c.from_residual-in_err-value.ensures.1)) (
      Ok c.in_ok-part.part,
      c.in_ok-part.ensures,
      (Ok c.in_ok-locale.locale.now, c.in_ok-locale.ensures, (Err e, c.in_err-value.ensures, refl)),
    )

pub returns-in_err-key : goal.returns-in_err-key
returns-in_err-key c =
    let e = c.in_err-key.field-0.0 in
    let r = c.from_residual-in_err-key.result in
    faulty (IsKeyIn c.args.json.now c.args.locale.now c.args.part) c.args.out.now e r
    (passed_on _ _ (err_from_is_err_and r c.from_residual-in_err-key.ensures.1)) (
      Ok c.in_ok-part.part,
      c.in_ok-part.ensures,
      (
        Ok c.in_ok-locale.locale.now,
        c.in_ok-locale.ensures,
        (Ok (view c.in_ok-value.value), c.in_ok-value.ensures, c.in_err-key.ensures),
      ),
    )

pub returns : goal.returns
returns c =
    let part = c.in_ok-part.part in
    let locale = c.in_ok-locale.locale.now in
    let value = view c.in_ok-value.value in (
      c.as_bytes.result.now,
      (
        Ok part,
        c.in_ok-part.ensures,
        (
          Ok locale,
          c.in_ok-locale.ensures,
          (
            Ok value,
            c.in_ok-value.ensures,
            subst (λ (key : List ℕ). HasKeyAt part locale value (Ok key)) (sym c.as_bytes.ensures.value) c.in_ok-key.ensures,
          ),
        ),
      ),
      (search rules, c.put.ensures.written),
    )
