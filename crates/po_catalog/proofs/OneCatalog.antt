-- A file says one catalog.
use Rattle.std.proofs.Common.{◌≡◌, ◌⊎◌, ◌∙◌, ℕ, List, [], ◌∷◌, Bool, Option, Some, None, Result, Ok, Err, refl, sym, ap, subst, inl, inr}
use Rattle.po_catalog.specs.declared.fault.Cause.{Cause}
use Rattle.po_catalog.specs.declared.fault.Cause.TheVariants.{StrayText}
use Rattle.po_catalog.specs.Drafts.{PoDraft, PoField, all_ended, behind_empty, behind_line, comment_checked, ended_at_comment, flags_read, keyword_read, line_checked, passed_over, unknown_read, with_field}
use Rattle.po_catalog.specs.Fronts.{PoFront, Nothing, Word, Mark, Unknown, front_of}
use Rattle.po_catalog.specs.LineKinds.{PoLine, Empty, Comment, Fields, line_of}
use Rattle.po_catalog.specs.Quoted.{Breaks, Said, End, Byte, Says, at_once, later, said_front}
use Rattle.po_catalog.specs.ReadCatalogs.{ReadsFields, ReadsLine, ReadsLines, longer, ends, unknown, fits, stray_keyword, goes_on, breaks, stray_text, empty, comment, fields}
use Rattle.po_catalog.specs.ReadCatalogs.{FilesSayOneCatalog, IsCatalog, PoCatalog, catalog_at, next_line, no_line}
use Rattle.po_catalog.proofs.Sayings.{IsText, broken_says, one_saying, said_of}

-- ---- a text breaks at one place

abbrev pub BreakFollows : Result Said Cause → List ℕ → Cause → Type 0
BreakFollows (Ok (End rest)) text cause = ⊥
BreakFollows (Ok (Byte b after)) text cause = (more : List ℕ) × Breaks after more cause × (text ≡ b ∷ more)
BreakFollows (Err found) text cause = (text ≡ []) × (cause ≡ found)

break_follows : {s text : List ℕ} {cause : Cause} → Breaks s text cause → BreakFollows (said_front s) text cause
break_follows (at_once s cause e) = subst (λ (f : Result Said Cause). BreakFollows f [] cause) (sym e) (refl, refl)
break_follows (later s after text b cause e h) = subst (λ (f : Result Said Cause). BreakFollows f (b ∷ text) cause) (sym e) (text, h, refl)

abbrev pub broken : List ℕ → Cause → List ℕ × Cause
broken text cause = (text, cause)

one_break : {s a b : List ℕ} {c d : Cause} → Breaks s a c → Breaks s b d → broken a c ≡ broken b d
one_break {b = b} {d = d} (at_once s cause e) other =
    let x : BreakFollows (Err cause) b d = subst (λ (f : Result Said Cause). BreakFollows f b d) e (break_follows other) in
    ap (λ (t : List ℕ). broken t cause) (sym x.0) ∙ ap (λ (y : Cause). broken b y) (sym x.1)
one_break {b = b} {d = d} (later s after text byte cause e h) other =
    let x : BreakFollows (Ok (Byte byte after)) b d = subst (λ (f : Result Said Cause). BreakFollows f b d) e (break_follows other) in
    ap (λ (p : List ℕ × Cause). broken (byte ∷ p.0) p.1) (one_break h x.1) ∙ ap (λ (t : List ℕ). broken t d) (sym x.2)

-- ---- a line has one end

abbrev pub KeywordFollows : ℕ → Bool → List ℕ → PoDraft → Option Cause → PoDraft × Option Cause → Type 0
KeywordFollows n o rest next None end = ReadsFields n o next rest end
KeywordFollows n o rest next (Some cause) end = end ≡ (next, Some cause)

abbrev pub TextFollows : ℕ → Bool → PoDraft → Option PoField → List ℕ → PoDraft × Option Cause → Type 0
TextFollows n o d None rest end = end ≡ (with_field passed_over d, Some StrayText)
TextFollows n o d (Some field) rest end =
    ((text : List ℕ) × (after : List ℕ) × Says rest (Ok (text, after)) × ReadsFields n o (with_field (longer text field) d) after end)
    ⊎ ((text : List ℕ) × (cause : Cause) × Breaks rest text cause × (end ≡ (with_field (longer text field) d, Some cause)))

abbrev pub Follows : ℕ → Bool → PoDraft → PoFront → PoDraft × Option Cause → Type 0
Follows n o d Nothing end = end ≡ (d, None)
Follows n o d (Unknown cause) end = end ≡ (unknown_read d, Some cause)
Follows n o d (Word keyword rest) end = KeywordFollows n o rest (keyword_read n o keyword d).0 (keyword_read n o keyword d).1 end
Follows n o d (Mark rest) end = TextFollows n o d d.field rest end

pub follows : (n : ℕ) (o : Bool) {d : PoDraft} {s : List ℕ} {end : PoDraft × Option Cause} → ReadsFields n o d s end
    → Follows n o d (front_of s) end
follows n o (ends d s e) = subst (λ (f : PoFront). Follows n o d f (d, None)) (sym e) refl
follows n o (unknown d s cause e) = subst (λ (f : PoFront). Follows n o d f (unknown_read d, Some cause)) (sym e) refl
follows n o (fits d next s rest keyword end e is h) =
    subst (λ (f : PoFront). Follows n o d f end) (sym e)
    (subst (λ (r : PoDraft × Option Cause). KeywordFollows n o rest r.0 r.1 end) (sym is) h)
follows n o (stray_keyword d next s rest keyword cause e is) =
    subst (λ (f : PoFront). Follows n o d f (next, Some cause)) (sym e)
    (subst (λ (r : PoDraft × Option Cause). KeywordFollows n o rest r.0 r.1 (next, Some cause)) (sym is) refl)
follows n o (goes_on d s rest text after field end e at says h) =
    subst (λ (f : PoFront). Follows n o d f end) (sym e)
    (subst (λ (x : Option PoField). TextFollows n o d x rest end) (sym at) (inl (text, after, says, h)))
follows n o (breaks d s rest text field cause e at h) =
    subst (λ (f : PoFront). Follows n o d f (with_field (longer text field) d, Some cause)) (sym e)
    (subst (λ (x : Option PoField). TextFollows n o d x rest (with_field (longer text field) d, Some cause)) (sym at)
    (inr (text, cause, h, refl)))
follows n o (stray_text d s rest e at) =
    subst (λ (f : PoFront). Follows n o d f (with_field passed_over d, Some StrayText)) (sym e)
    (subst (λ (x : Option PoField). TextFollows n o d x rest (with_field passed_over d, Some StrayText)) (sym at) refl)

-- a text that is closed doesn't break
pub not_both : {s text after bytes : List ℕ} {cause : Cause} → Says s (Ok (text, after)) → Breaks s bytes cause → ⊥
not_both says h = subst (λ (r : Result (List ℕ × List ℕ) Cause). IsText r) (one_saying says (broken_says h)) tt

one_end : (n : ℕ) (o : Bool) {d : PoDraft} {s : List ℕ} {a b : PoDraft × Option Cause} → ReadsFields n o d s a → ReadsFields n o d s b
    → a ≡ b
one_end n o {b = b} (ends d s e) other = sym (subst (λ (f : PoFront). Follows n o d f b) e (follows n o other))
one_end n o {b = b} (unknown d s cause e) other = sym (subst (λ (f : PoFront). Follows n o d f b) e (follows n o other))
one_end n o {b = b} (fits d next s rest keyword end e is h) other =
    let x : Follows n o d (Word keyword rest) b = subst (λ (f : PoFront). Follows n o d f b) e (follows n o other) in
    one_end n o h (subst (λ (r : PoDraft × Option Cause). KeywordFollows n o rest r.0 r.1 b) is x)
one_end n o {b = b} (stray_keyword d next s rest keyword cause e is) other =
    let x : Follows n o d (Word keyword rest) b = subst (λ (f : PoFront). Follows n o d f b) e (follows n o other) in
    sym (subst (λ (r : PoDraft × Option Cause). KeywordFollows n o rest r.0 r.1 b) is x)
one_end n o {b = b} (goes_on d s rest text after field end e at says h) other =
    let x : Follows n o d (Mark rest) b = subst (λ (f : PoFront). Follows n o d f b) e (follows n o other) in
    let y : TextFollows n o d (Some field) rest b = subst (λ (f : Option PoField). TextFollows n o d f rest b) at x in
    elim y [
      | inl w ↦ one_end n o h
          (subst (λ (p : List ℕ × List ℕ). ReadsFields n o (with_field (longer p.0 field) d) p.1 b) (ap said_of (one_saying w.2 says)) w.3)
      | inr w ↦ absurd (not_both says w.2)
    ]
one_end n o {b = b} (breaks d s rest text field cause e at h) other =
    let x : Follows n o d (Mark rest) b = subst (λ (f : PoFront). Follows n o d f b) e (follows n o other) in
    let y : TextFollows n o d (Some field) rest b = subst (λ (f : Option PoField). TextFollows n o d f rest b) at x in
    elim y [
      | inl w ↦ absurd (not_both w.2 h)
      | inr w ↦ ap (λ (p : List ℕ × Cause). (with_field (longer p.0 field) d, Some p.1)) (one_break h w.2) ∙ sym w.3
    ]
one_end n o {b = b} (stray_text d s rest e at) other =
    let x : Follows n o d (Mark rest) b = subst (λ (f : PoFront). Follows n o d f b) e (follows n o other) in
    sym (subst (λ (f : Option PoField). TextFollows n o d f rest b) at x)

-- ---- and so do lines

abbrev pub LineFollows : ℕ → PoDraft → PoLine → PoDraft → Type 0
LineFollows n d Empty next = next ≡ behind_empty d
LineFollows n d (Comment s words) next = next ≡ behind_line (comment_checked n s (flags_read words (ended_at_comment d)))
LineFollows n d (Fields o s) next =
    (end : PoDraft × Option Cause) × ReadsFields n o d s end × (next ≡ behind_line (line_checked n s end.1 end.0))

pub line_follows : (n : ℕ) (line : List ℕ) (d : PoDraft) {next : PoDraft} → ReadsLine n line d next → LineFollows n d (line_of line) next
line_follows n line d (empty e) = subst (λ (k : PoLine). LineFollows n d k (behind_empty d)) (sym e) refl
line_follows n line d (comment s words e) =
    subst (λ (k : PoLine). LineFollows n d k (behind_line (comment_checked n s (flags_read words (ended_at_comment d))))) (sym e) refl
line_follows n line d (fields o s end e h) =
    subst (λ (k : PoLine). LineFollows n d k (behind_line (line_checked n s end.1 end.0))) (sym e) (end, h, refl)

one_line : (n : ℕ) (line : List ℕ) (d : PoDraft) {a b : PoDraft} → ReadsLine n line d a → ReadsLine n line d b → a ≡ b
one_line n line d {b = b} (empty e) other = sym (subst (λ (k : PoLine). LineFollows n d k b) e (line_follows n line d other))
one_line n line d {b = b} (comment s words e) other = sym (subst (λ (k : PoLine). LineFollows n d k b) e (line_follows n line d other))
one_line n line d {b = b} (fields o s end e h) other =
    let x : LineFollows n d (Fields o s) b = subst (λ (k : PoLine). LineFollows n d k b) e (line_follows n line d other) in
    ap (λ (p : PoDraft × Option Cause). behind_line (line_checked n s p.1 p.0)) (one_end n o h x.1) ∙ sym x.2

abbrev pub LinesFollow : PoDraft → List (ℕ × List ℕ) → PoDraft → Type 0
LinesFollow d [] end = end ≡ d
LinesFollow d (line ∷ lines) end = (next : PoDraft) × ReadsLine line.0 line.1 d next × ReadsLines next lines end

pub lines_follow : {d : PoDraft} {lines : List (ℕ × List ℕ)} {end : PoDraft} → ReadsLines d lines end → LinesFollow d lines end
lines_follow (no_line d) = refl
lines_follow (next_line d next end n line lines h more) = (next, h, more)

one_reading : {d : PoDraft} {lines : List (ℕ × List ℕ)} {a b : PoDraft} → ReadsLines d lines a → ReadsLines d lines b → a ≡ b
one_reading {b = b} (no_line d) other = sym (lines_follow other)
one_reading {b = b} (next_line d next end n line lines h more) other =
    let x : LinesFollow d ((n, line) ∷ lines) b = lines_follow other in
    one_reading more (subst (λ (e : PoDraft). ReadsLines e lines b) (one_line n line d x.1 h) x.2)

pub one_catalog : (file : List ℕ) (a b : PoCatalog) → IsCatalog file a → IsCatalog file b → a ≡ b
one_catalog file a b h k = sym h.whole ∙ (ap (λ (d : PoDraft). catalog_at (all_ended d)) (one_reading h.read k.read) ∙ k.whole)

pub one_reading_of_file : FilesSayOneCatalog
one_reading_of_file = λ file a b h k. one_catalog file a b h k
