-- The order of the lists of samples of a text.
use Rattle.std.proofs.Common.{◌≡◌, ◌↔◌, ℕ, Bool, true, false, List, Ok, Err, Result, IfOk, ap, refl, sym, subst, ◌∙◌}
use Rattle.std.specs.Prelude.{IsTrue, MatchBool, filter}
use Rattle.std.specs.declared.alloc.AllocError.{AllocError}
use Rattle.icu_plurals.specs.declared.provider.rules.reference.Token.{Token}
use Rattle.icu_plurals.specs.Lexer.{AreTokensOf}
use Rattle.icu_plurals.specs.Samples.{TextIsRule}
use Rattle.plural_checker.specs.TextChecks.{HasOrder, IsOutOfOrder, are_in_order, is_list_type}

-- every text has exactly one list of tokens
abbrev pub HaveOneList : Type 0
HaveOneList =
    (text : List ℕ)
    → (tokens : List Token) × AreTokensOf text tokens × ((others : List Token) → AreTokensOf text others → others ≡ tokens)

-- lists that are in order aren't out of order
pub no_other_order : (text : List ℕ) → HaveOneList → HasOrder text true → ¬ (IsOutOfOrder text)
no_other_order text one (tokens, are, is) (whole, (others, are_too, other)) =
    let t = one text in
    let same : tokens ≡ others = t.2 tokens are ∙ sym (t.2 others are_too) in
    let never : true ≡ false = is ∙ ap (λ (l : List Token). are_in_order (filter is_list_type l)) same ∙ sym other in absurd cc

-- a text without order is out of order exactly if it is a rule as a whole
pub order_of : (text bytes : List ℕ) (r : Result Bool AllocError) → bytes ≡ text → HasOrder text false
    → IfOk r (λ whole. IsTrue whole ↔ TextIsRule bytes)
    → IfOk r (λ other. MatchBool other (IsOutOfOrder text) (¬ (IsOutOfOrder text)))
order_of text bytes (Ok true) is order (whole, rule) = (subst TextIsRule is (whole refl), order)
order_of text bytes (Ok false) is order (whole, rule) =
    λ (rule_too, others). let never : false ≡ true = rule (subst TextIsRule (sym is) rule_too) in absurd cc
order_of text bytes (Err error) is order whole = tt
