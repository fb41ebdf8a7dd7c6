use Rattle.std.proofs.Common.{◌≡◌, Some, refl, sym, ap, ◌∙◌}
use Rattle.std.specs.Prelude.{is_some, option_map}
use Rattle.json.specs.Token.{Token}
use Rattle.document_tokens.specs.HeldTokens.{Held}
use Rattle.document_tokens.proofs.HeldTokenLemmas.{held_if_it_comes}
use Rattle.document_tokens.proofs.held_token.HeldToken.of.Goals as goal
use Rattle.serde_json.specs.Read.{number_of}
use Rattle.serde_json.specs.View.{number_view}

pub returns-in-String : goal.returns-in-String
returns-in-String c =
    let token = Token.string c.in-String.text.now in
    rw (c.in-String.is)
    (held_if_it_comes c.pass_scalar.result c.args.place.now token c.pass_scalar.new.self _ c.held_if-in-String.result
    (c.pass_scalar.ensures token refl)
    refl refl c.held_if-in-String.ensures)

pub returns-in-Some : goal.returns-in-Some
returns-in-Some c =
    let token = Token.number c.in-Number.text.now in
    let is : Some (number_view c.in-Some.number) ≡ number_of c.in-Number.text.now =
    ap (option_map number_view) (sym c.in-Some.is) ∙ c.json_number.ensures in
    rw (c.in-Number.is)
    (held_if_it_comes c.pass_scalar-in-Some.result c.args.place.now token c.pass_scalar-in-Some.new.self _ c.held_if-in-Some.result
    (c.pass_scalar-in-Some.ensures token refl) (ap is_some (sym is)) (ap Held.number is) c.held_if-in-Some.ensures)

pub returns-in-Bool : goal.returns-in-Bool
returns-in-Bool c =
    let token = Token.boolean c.in-Bool.truth in
    rw (c.in-Bool.is)
    (held_if_it_comes c.pass_scalar-in-Bool.result c.args.place.now token c.pass_scalar-in-Bool.new.self _ c.held_if-in-Bool.result
    (c.pass_scalar-in-Bool.ensures token refl) refl refl c.held_if-in-Bool.ensures)

pub returns-in-Null : goal.returns-in-Null
returns-in-Null c =
    rw (c.in-Null.is)
    (held_if_it_comes c.pass_scalar-in-Null.result c.args.place.now Token.null c.pass_scalar-in-Null.new.self _ c.held_if-in-Null.result
    (c.pass_scalar-in-Null.ensures Token.null refl) refl refl c.held_if-in-Null.ensures)
