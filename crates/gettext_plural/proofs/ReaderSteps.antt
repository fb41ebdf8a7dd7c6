-- The loop over the bytes of an expression.
use Rattle.std.proofs.Common.{◌≡◌, ℕ, List, [], ◌∷◌, ◌++◌, length, true, false, Result, Ok, Err, refl, sym, ap, ◌∙◌, subst, append_assoc}
use Rattle.std.proofs.lemmas.List.{append-nil}
use Rattle.gettext_plural.specs.declared.error.FaultKind.{FaultKind}
use Rattle.gettext_plural.specs.declared.error.ReadError.{ReadError}
use Rattle.gettext_plural.specs.declared.error.ReadError.TheVariants as read
use Rattle.gettext_plural.specs.declared.expression.Expression.{Expression}
use Rattle.gettext_plural.specs.declared.token.Token.{Token}
use Rattle.gettext_plural.specs.PluralExpressions.{Formula}
use Rattle.gettext_plural.specs.PluralViews.{formula_view}
use Rattle.gettext_plural.specs.PluralTokens.{at_end, at_token, PassesTokens, up_to_end, up_to_token, past_blank, past_token, front, is_blank, is_end}
use Rattle.gettext_plural.specs.Inner.FormulaViews.{HasTaken, IsFaultOr, IsFinish, IsFormulaReading, IsStopped, ReadsFormula, Stops}
use Rattle.gettext_plural.specs.Inner.PluralMachine.{Stage, expects, stage_step, finish, ended, proceed_from_stage, run_from_stage}
use Rattle.gettext_plural.proofs.TokenCuts.{passed_cut, tokens_exist}

pub none_taken : (text : List ℕ) → HasTaken text (expects []) text
none_taken text = record { tokens = []; passes = λ more last passed. passed; leads = λ more. refl }

pub blank_taken : (text : List ℕ) (s : Stage) (b : ℕ) (rest : List ℕ) → is_end (b ∷ rest) ≡ false → is_blank b ≡ true
    → HasTaken text s (b ∷ rest) → HasTaken text s rest
blank_taken text s b rest not_last white h = record {
  tokens = h.tokens;
  passes = λ more last passed. h.passes more last (past_blank b rest last more not_last white passed);
  leads = h.leads;
}

pub token_taken : (text : List ℕ) (s next : Stage) (b : ℕ) (rest after : List ℕ) (t : Token) → is_end (b ∷ rest) ≡ false
    → is_blank b ≡ false → t ≡ (front b rest).0
    → after ≡ (front b rest).1 → stage_step s t ≡ Ok next → HasTaken text s (b ∷ rest) → HasTaken text next after
unfolding run_from_stage
token_taken text s next b rest after t not_last black first behind does h = record {
  tokens = h.tokens ++ (front b rest).0 ∷ [];
  passes = λ more last passed.
      let P : List ℕ → Type 0 = λ x. PassesTokens x more last in
      let R : List Token → Type 0 = λ ts. PassesTokens text ts last in
      subst R (sym (append_assoc h.tokens ((front b rest).0 ∷ []) more))
      (h.passes ((front b rest).0 ∷ more) last (past_token b rest last more not_last black (subst P behind passed)));
  leads = λ more.
      let Q : Token → Type 0 = λ x. stage_step s x ≡ Ok next in
      ap (run_from_stage (expects [])) (append_assoc h.tokens ((front b rest).0 ∷ []) more)
      ∙ h.leads ((front b rest).0 ∷ more)
      ∙ ap (λ r. proceed_from_stage ((front b rest).0 ∷ more) r (λ n. run_from_stage n more)) (subst Q first does);
}

-- the tokens are passed up to the rest, if no blank is there
passed_up : (text : List ℕ) (s : Stage) (rest : List ℕ) (h : HasTaken text s rest) → PassesTokens rest [] rest → PassesTokens text h.tokens rest
passed_up text s rest h here =
    let P : List Token → Type 0 = λ ts. PassesTokens text ts rest in
    subst P (append-nil h.tokens) (h.passes [] rest here)

-- a token at which the reader stops
pub token_stops : (text : List ℕ) (s : Stage) (b : ℕ) (rest : List ℕ) (t : Token) (kind : FaultKind) → is_end (b ∷ rest) ≡ false
    → is_blank b ≡ false
    → t ≡ (front b rest).0 → stage_step s t ≡ Err kind → HasTaken text s (b ∷ rest) → Stops text kind (length (b ∷ rest))
unfolding run_from_stage
token_stops text s b rest t kind not_last black first does h =
    let ts = tokens_exist (front b rest).1 in
    let Q : Token → Type 0 = λ x. stage_step s x ≡ Err kind in
    record {
      before = h.tokens;
      more = (front b rest).0 ∷ ts.0;
      rest = b ∷ rest;
      passed = passed_up text s (b ∷ rest) h (up_to_token b rest not_last black);
      remains = refl;
      there = at_token b rest ts.0 not_last black ts.1;
      stops = h.leads ((front b rest).0 ∷ ts.0) ∙ ap (λ r. proceed_from_stage ((front b rest).0 ∷ ts.0) r (λ n. run_from_stage n ts.0)) (subst Q first does);
    }

pub end_stops : (text : List ℕ) (s : Stage) (rest : List ℕ) (kind : FaultKind) → is_end rest ≡ true → finish s ≡ Err kind
    → HasTaken text s rest → Stops text kind (length rest)
unfolding run_from_stage
end_stops text s rest kind is_last does h = record {
  before = h.tokens;
  more = [];
  rest = rest;
  passed = passed_up text s rest h (up_to_end rest is_last);
  remains = refl;
  there = at_end rest is_last;
  stops = h.leads [] ∙ ap ended does;
}

pub end_reads : (text : List ℕ) (s : Stage) (rest : List ℕ) (e : Formula) → is_end rest ≡ true → finish s ≡ Ok e → HasTaken text s rest
    → ReadsFormula text e
unfolding run_from_stage
end_reads text s rest e is_last does h =
    let passed = passed_up text s rest h (up_to_end rest is_last) in
    (h.tokens ++ [], passed_cut text h.tokens rest [] passed (at_end rest is_last), h.leads [] ∙ ap ended does)

-- an error of a token is a fault where the text stops, or out of memory
pub error_stops : (text : List ℕ) (s : Stage) (b : ℕ) (rest : List ℕ) (t : Token) (n : ℕ) (e : ReadError) → is_end (b ∷ rest) ≡ false
    → is_blank b ≡ false
    → t ≡ (front b rest).0 → n ≡ length (b ∷ rest) → IsFaultOr (stage_step s t) n e → HasTaken text s (b ∷ rest) → IsStopped text e
error_stops text s b rest t n read.Memory not_last black first size does h = tt
error_stops text s b rest t n (read.Fault f) not_last black first size does h =
    let P : ℕ → Type 0 = λ m. Stops text f.kind m in
    subst P (sym (does.0 ∙ size)) (token_stops text s b rest t f.kind not_last black first does.1 h)

-- what the end returns is what is read
pub finish_reads : (text : List ℕ) (s : Stage) (rest : List ℕ) (n : ℕ) (r : Result Expression ReadError) → is_end rest ≡ true
    → n ≡ length rest → IsFinish s n r
    → HasTaken text s rest → IsFormulaReading text r
finish_reads text s rest n (Ok e) is_last size does h = end_reads text s rest (formula_view e) is_last does h
finish_reads text s rest n (Err read.Memory) is_last size does h = tt
finish_reads text s rest n (Err (read.Fault f)) is_last size does h =
    let P : ℕ → Type 0 = λ m. Stops text f.kind m in
    subst P (sym (does.0 ∙ size)) (end_stops text s rest f.kind is_last does.1 h)
