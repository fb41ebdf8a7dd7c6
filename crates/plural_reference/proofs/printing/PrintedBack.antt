-- What is printed is read as what it was printed from: a spellable condition, a condition that was
-- read from a text, and a rule that was read from a text and has small runs. The laws of printing
-- cite it.
use Rattle.std.proofs.Common.{◌≡◌, ℕ, List, [], ◌++◌, Option, Some, None, refl, sym, ap, ◌∙◌, subst, inl, inr}
use Rattle.std.proofs.lemmas.List.{append-nil}
use Rattle.std.specs.Prelude.{IfSome}
use Rattle.plural_reference.specs.declared.ast.Condition.{Condition}
use Rattle.plural_reference.specs.declared.ast.Samples as samples
use Rattle.plural_reference.specs.declared.token.Token.{Token}
use Rattle.plural_reference.specs.Lexer.{AreTokensOf, TextReads}
use Rattle.plural_reference.specs.Parser.{ReadsUpTo}
use Rattle.plural_reference.specs.PrintingLaws.{IsSpellable, SpellableConditionsPrintBack}
use Rattle.plural_reference.specs.PrintingLaws.{ConditionsPrintBack, RuleHasSmallRuns, RulesPrintBack}
use Rattle.plural_reference.specs.Samples.{ReadsRule}
use Rattle.plural_reference.specs.Inner.Scan.{tokens_of, tokens_from}
use Rattle.plural_reference.specs.Serializer.{condition_text, samples_text, rule_text}
use Rattle.plural_reference.proofs.printing.PrintedConditions.{condition_reads_back}
use Rattle.plural_reference.proofs.printing.PrintedRules.{AreReadSamples, samples_are_read, SamplesReadBack, samples_read_back}
use Rattle.plural_reference.proofs.printing.PrintedDigits.{EndsSample, sample_ends_run}
use Rattle.plural_reference.proofs.printing.PrintedTokens.{Scans, scans_then, EndsRun}
use Rattle.plural_reference.proofs.tokens.ScanSound.{has_tokens}
use Rattle.plural_reference.proofs.printing.SpellableConditions.{conditions_of_texts_are_spellable, read_spellable}
use Rattle.plural_reference.proofs.tokens.TokensFit.{AllFit, fit_right, tokens_fit}

-- the tokens that a text gives before the empty rest are its tokens
whole_text : (text : List ℕ) (tokens : List Token) → tokens_of (text ++ []) ≡ tokens ++ tokens_of [] → AreTokensOf text tokens
unfolding tokens_from
whole_text text tokens h = subst (AreTokensOf text) (ap tokens_of (sym (append-nil text)) ∙ h ∙ append-nil tokens) (has_tokens text)

-- a spellable condition is read from its printed text, by itself and as a rule without samples
pub spellable_conditions_print_back : SpellableConditionsPrintBack
spellable_conditions_print_back c h =
    let back = condition_reads_back c h in
    let are = whole_text (condition_text c) back.tokens (back.scans.gives [] tt) in
    let reads = subst (λ ts. ReadsUpTo ts c []) (append-nil back.tokens) (back.reads [] tt) in
    ((back.tokens, are, ([], reads)), (back.tokens, are, ([], reads, ([], [], [], refl, refl, tt, refl))))

-- a condition that was read from a text is read from its printed text
pub conditions_print_back : ConditionsPrintBack
conditions_print_back text c h = (spellable_conditions_print_back c (conditions_of_texts_are_spellable text c h)).0

-- a rule of a spellable condition and of samples as they are read, with small runs, is read from
-- its printed text
rule_prints_back : (c : Condition) (s : Option samples.Samples) → IsSpellable c → IfSome s AreReadSamples
    → RuleHasSmallRuns (record { condition = c; samples = s })
    → TextReads ReadsRule (rule_text (record { condition = c; samples = s })) (record { condition = c; samples = s })
rule_prints_back c None h k small =
    subst (λ text. TextReads ReadsRule text (record { condition = c; samples = None }))
    (sym (append-nil (condition_text c))) (spellable_conditions_print_back c h).1
rule_prints_back c (Some s) h k small =
    let back = condition_reads_back c h in
    let behind : SamplesReadBack s = samples_read_back s k small.0 small.1 in
    let scans : Scans EndsSample (condition_text c ++ samples_text s) (back.tokens ++ behind.tokens) =
    scans_then EndsRun EndsSample (condition_text c) (samples_text s) back.tokens behind.tokens back.scans
    behind.scans (λ rest f. sample_ends_run (samples_text s ++ rest) (behind.follows rest f)) in (
      back.tokens ++ behind.tokens,
      whole_text (condition_text c ++ samples_text s) (back.tokens ++ behind.tokens) (scans.gives [] tt),
      (behind.tokens, back.reads behind.tokens behind.unconditional, behind.reads),
    )

-- if the tokens fit, those that a condition leaves do too
rest_fits : (tokens : List Token) (c : Condition) (rest : List Token) → AllFit tokens → ReadsUpTo tokens c rest → AllFit rest
rest_fits tokens c rest f (inl h) = subst AllFit (sym h.1) f
rest_fits tokens c rest f (inr h) = fit_right h.0 rest (subst AllFit h.1 f)

-- a rule that was read from a text, and has small runs, is read from its printed text
pub rules_print_back : RulesPrintBack
rules_print_back text r h small =
    let fits = tokens_fit text h.0 h.1 in
    rule_prints_back r.condition r.samples (read_spellable h.0 r.condition h.2.0 fits h.2.1)
    (samples_are_read h.2.0 r.samples (rest_fits h.0 r.condition h.2.0 fits h.2.1) h.2.2) small
