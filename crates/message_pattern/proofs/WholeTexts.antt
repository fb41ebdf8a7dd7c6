-- A whole pattern ends with its text.
use Rattle.std.proofs.Common.{◌≡◌, ◌==◌, ℕ, List, [], ◌∷◌, Bool, true, false, ◌&&◌, ◌||◌, Some, None, refl, subst, if◌then◌else◌}
use Rattle.message_pattern.specs.declared.head.Formats.{Formats}
use Rattle.pattern_bytes.specs.declared.bytes.Class.TheVariants as class
use Rattle.message_pattern.specs.declared.text.Context.{Context}
use Rattle.message_pattern.specs.declared.text.Context.TheVariants.{Whole}
use Rattle.pattern_bytes.specs.PatternBytes.{apostrophe, hash, opening, closing, class_front, behind_run}
use Rattle.message_pattern.specs.PatternText.{Front, Closes, Opens, Takes, takes_text, message_front, is_quotable, apostrophe_front, quoted_apostrophe}
use Rattle.message_pattern.specs.PatternParts.{Part, Hash}
use Rattle.message_pattern.specs.PatternReading.{PatternPlace, InMessage, InArgument, InBranches}
use Rattle.message_pattern.specs.PatternGrammar.{IsReadAt, message_ends, message_closes, message_text, message_argument, none_arg, simple_arg, complex_arg, style_branch, style_ends}

-- a brace ends no message there
abbrev NoClose : Front → Type 0
NoClose (Closes rest) = ⊥
NoClose f = Unit {0}

either : (v : Bool) (f g : Front) → NoClose f → NoClose g → NoClose (if v then f else g)
either true f g h k = h
either false f g h k = k

-- outside branches a closing brace is text
no_brace : (v : Bool) (s : List ℕ) (g : Front) → NoClose g → NoClose (if v && false then Closes s else g)
no_brace true s g h = h
no_brace false s g h = h

apostrophe_stays : (s : List ℕ) → NoClose (apostrophe_front Whole s)
apostrophe_stays [] = tt
apostrophe_stays (b ∷ s) =
    either (b == apostrophe) (takes_text (apostrophe ∷ []) false s)
    (if is_quotable Whole b then Takes None true (b ∷ s) else takes_text (apostrophe ∷ []) false (b ∷ s)) tt
    (either (is_quotable Whole b) (Takes None true (b ∷ s)) (takes_text (apostrophe ∷ []) false (b ∷ s)) tt tt)

quote_stays : (s : List ℕ) → NoClose (quoted_apostrophe s)
quote_stays [] = tt
quote_stays (b ∷ s) = either (b == apostrophe) (takes_text (apostrophe ∷ []) true s) (Takes None false (b ∷ s)) tt tt

front_stays : (q : Bool) (s : List ℕ) → NoClose (message_front Whole q s)
front_stays true [] = tt
front_stays false [] = tt
front_stays true (b ∷ s) =
    either (b == apostrophe) (quoted_apostrophe s)
    (takes_text (class_front class.Unquoted (b ∷ s)) true (behind_run class.Unquoted (b ∷ s))) (quote_stays s) tt
front_stays false (b ∷ s) =
    let last : Front = takes_text (class_front class.Plain (b ∷ s)) false (behind_run class.Plain (b ∷ s)) in
    let alone : Front = if b == closing || b == hash then takes_text (b ∷ []) false s else last in
    let number : Front = if b == hash && false then Takes (Some Hash) false s else alone in
    let closes : Front = if b == closing && false then Closes s else number in
    either (b == apostrophe) (apostrophe_front Whole s) (if b == opening then Opens s else closes) (apostrophe_stays s)
    (either (b == opening) (Opens s) closes tt
    (no_brace (b == closing) s number
    (either (b == hash && false) (Takes (Some Hash) false s) alone tt
    (either (b == closing || b == hash) (takes_text (b ∷ []) false s) last tt tt))))

-- outside branches nothing follows a message
abbrev pub EndsWhole : PatternPlace → List ℕ → Type 0
EndsWhole (InMessage c d q) rest = c ≡ Whole → rest ≡ []
EndsWhole (InArgument d) rest = Unit {0}
EndsWhole (InBranches kind d other) rest = Unit {0}

pub to_its_end : {formats : Formats} {place : PatternPlace} {s rest : List ℕ} {parts : List Part} → IsReadAt formats place s parts rest
    → EndsWhole place rest
to_its_end (message_ends c d q s e w) = λ h. refl
to_its_end (message_closes c d q s rest e) = λ h.
    absurd (subst NoClose (subst (λ (x : Context). message_front x q s ≡ Closes rest) h e) (front_stays q s))
to_its_end (message_text c d q r s t rest p more e h) = to_its_end h
to_its_end (message_argument c d q s t u rest inner more e h k) = to_its_end k
to_its_end (none_arg d s name t rest i e) = tt
to_its_end (simple_arg d s text name word rest style a w h) = tt
to_its_end (complex_arg d kind offset s name t u v w x rest more i e j f o h) = tt
to_its_end (style_branch d kind other sel s t u v rest inner more i e room h k) = tt
to_its_end (style_ends d kind s rest e) = tt
