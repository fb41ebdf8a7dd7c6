-- What the grammar spells is read.
use Rattle.std.proofs.Common.{◌≡◌, ℕ, suc, ◌≤◌, List, [], ◌∷◌, ◌++◌, Ok, refl, sym, ap, ◌∙◌, arith, append_assoc}
use Rattle.std.proofs.lemmas.List.{append-nil}
use Rattle.gettext_plural.specs.declared.token.Operator.{Operator}
use Rattle.gettext_plural.specs.declared.token.Token.{Token}
use Rattle.gettext_plural.specs.declared.token.Token.TheVariants.{Not, Joint, Question, Colon, Open, Close}
use Rattle.gettext_plural.specs.PluralExpressions.{Formula, number, the_n, negated, joined, chosen, binding}
use Rattle.gettext_plural.specs.PluralExpressions.{Spells, spells_number, spells_n, spells_brackets, spells_negation, spells_join, spells_choice, spells_tighter}
use Rattle.gettext_plural.specs.Inner.PluralMachine.{Waiting, bracket, negation, left_of, question, colon, expects, has, unwind, jointed, questioned, coloned, bracket_closed, finished, ended, proceed_from_stage, run_from_stage}
use Rattle.gettext_plural.proofs.Levels.{binding_low, binding_high, left_ends, left_stays, colon_ends, colon_stays}

-- what waits stays before each operator from the level on
abbrev Rests : ℕ → List Waiting → Type 0
Rests l ws = (m : ℕ) (e : Formula) → 1 ≤ m → l ≤ m → m ≤ 6 → unwind m ws e ≡ (ws, e)

-- the tokens are read as the expression at the level, as every operator up to it ends what they left
record Reaches (l : ℕ) (ws : List Waiting) (ts : List Token) (e : Formula) : Type 0 where
  held : List Waiting
  operand : Formula
  runs : (s : List Token) → run_from_stage (expects ws) (ts ++ s) ≡ run_from_stage (has held operand) s
  unwinds : (m : ℕ) → m ≤ 6 → m ≤ l → unwind m held operand ≡ unwind m ws e

in_brackets : (ws : List Waiting) (ts : List Token) (e : Formula) → Reaches 0 (bracket ∷ ws) ts e
    → Reaches 8 ws (Open ∷ (ts ++ Close ∷ [])) e
unfolding run_from_stage
in_brackets ws ts e r = record {
  held = ws;
  operand = e;
  runs = λ s.
      ap (run_from_stage (expects (bracket ∷ ws))) (append_assoc ts (Close ∷ []) s)
      ∙ r.runs (Close ∷ s)
      ∙ ap (λ it. proceed_from_stage (Close ∷ s) (bracket_closed it) (λ next. run_from_stage next s)) (r.unwinds 0 (omega arith) (omega arith));
  unwinds = λ m high le. refl;
}

behind_negation : (ws : List Waiting) (ts : List Token) (e : Formula) → Reaches 7 (negation ∷ ws) ts e → Reaches 7 ws (Not ∷ ts) (negated e)
unfolding run_from_stage
behind_negation ws ts e r = record { held = r.held; operand = r.operand; runs = r.runs; unwinds = r.unwinds }

behind_operator : (o : Operator) (ws : List Waiting) (front back : List Token) (a b : Formula) → Rests (binding o) ws
    → Reaches (binding o) ws front a
    → Reaches (suc (binding o)) (left_of o a ∷ ws) back b → Reaches (binding o) ws (front ++ Joint o ∷ back) (joined o a b)
unfolding run_from_stage
behind_operator o ws front back a b rests r q =
    let high = binding_high o in
    let low = binding_low o in
    record {
      held = q.held;
      operand = q.operand;
      runs = λ s.
          ap (run_from_stage (expects ws)) (append_assoc front (Joint o ∷ back) s)
          ∙ r.runs (Joint o ∷ (back ++ s))
          ∙ ap (λ it. run_from_stage (jointed o it) (back ++ s))
          (r.unwinds (binding o) high (omega arith) ∙ rests (binding o) a low (omega arith) high)
          ∙ q.runs s;
      unwinds = λ m most le. q.unwinds m most (omega arith) ∙ left_ends m o a ws b le;
    }

in_choice : (ws : List Waiting) (first second third : List Token) (a b c : Formula) → Rests 1 ws → Reaches 1 ws first a
    → Reaches 0 (question a ∷ ws) second b
    → Reaches 0 (colon a b ∷ ws) third c → Reaches 0 ws (first ++ Question ∷ (second ++ Colon ∷ third)) (chosen a b c)
unfolding run_from_stage
in_choice ws first second third a b c rests r q p = record {
  held = p.held;
  operand = p.operand;
  runs = λ s.
      ap (run_from_stage (expects ws)) (append_assoc first (Question ∷ (second ++ Colon ∷ third)) s)
      ∙ r.runs (Question ∷ ((second ++ Colon ∷ third) ++ s))
      ∙ ap (λ it. run_from_stage (questioned it) ((second ++ Colon ∷ third) ++ s))
      (r.unwinds 1 (omega arith) (omega arith) ∙ rests 1 a (omega arith) (omega arith) (omega arith))
      ∙ ap (run_from_stage (expects (question a ∷ ws))) (append_assoc second (Colon ∷ third) s)
      ∙ q.runs (Colon ∷ (third ++ s))
      ∙ ap (λ it. proceed_from_stage (Colon ∷ (third ++ s)) (coloned it) (λ next. run_from_stage next (third ++ s))) (q.unwinds 0 (omega arith) (omega arith))
      ∙ p.runs s;
  unwinds = λ m most le. p.unwinds m most le ∙ colon_ends m a b ws c le;
}

reaches : (l : ℕ) (ts : List Token) (e : Formula) → Spells l ts e → (ws : List Waiting) → Rests l ws → Reaches l ws ts e
unfolding run_from_stage
reaches l ts e (spells_number k) ws rests = record { held = ws; operand = number k; runs = λ s. refl; unwinds = λ m most le. refl }
reaches l ts e spells_n ws rests = record { held = ws; operand = the_n; runs = λ s. refl; unwinds = λ m most le. refl }
reaches l ts e (spells_brackets us a s) ws rests = in_brackets ws us a (reaches 0 us a s (bracket ∷ ws) (λ m x low le most. refl))
reaches l ts e (spells_negation us a s) ws rests =
    behind_negation ws us a (reaches 7 us a s (negation ∷ ws) (λ m x low le most. absurd (omega arith)))
reaches l ts e (spells_join o front back a b s t) ws rests =
    behind_operator o ws front back a b rests (reaches (binding o) front a s ws rests)
    (reaches (suc (binding o)) back b t (left_of o a ∷ ws) (λ m x low le most. left_stays m o a ws x (omega arith)))
reaches l ts e (spells_choice first second third a b c s t u) ws rests =
    let from_one : Rests 1 ws = λ m x low le most. rests m x low (omega arith) most in
    in_choice ws first second third a b c from_one (reaches 1 first a s ws from_one)
    (reaches 0 second b t (question a ∷ ws) (λ m x low le most. refl))
    (reaches 0 third c u (colon a b ∷ ws) (λ m x low le most. colon_stays m a b ws x low))
reaches l ts e (spells_tighter level us a s) ws rests =
    let r : Reaches (suc level) ws us a = reaches (suc level) us a s ws (λ m x low le most. rests m x low (omega arith) most) in
    record { held = r.held; operand = r.operand; runs = r.runs; unwinds = λ m most le. r.unwinds m most (omega arith) }

-- an expression is read
pub read_whole : (ts : List Token) (e : Formula) → Spells 0 ts e → run_from_stage (expects []) ts ≡ Ok e
unfolding run_from_stage
read_whole ts e s =
    let r : Reaches 0 [] ts e = reaches 0 ts e s [] (λ m x low le most. refl) in
    ap (run_from_stage (expects [])) (sym (append-nil ts)) ∙ r.runs [] ∙ ap (λ it. ended (finished it)) (r.unwinds 0 (omega arith) (omega arith))
