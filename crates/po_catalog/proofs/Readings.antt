-- Reading the keywords and texts of a line, one after the other.
use Rattle.std.proofs.Common.{◌≡◌, ◌∙◌, ℕ, List, Bool, true, Option, Some, None, IfOk, Result, Ok, Err, sym, ap, subst, inl, inr}
use Rattle.std.specs.Borrow.{Bor}
use Rattle.std.specs.declared.alloc.AllocError.{AllocError}
use Rattle.po_catalog.specs.declared.draft.Place.{Place}
use Rattle.po_catalog.specs.declared.fault.Cause.{Cause}
use Rattle.po_catalog.specs.declared.fault.Cause.TheVariants.{StrayText}
use Rattle.po_catalog.specs.declared.fault.ReadError.{ReadError}
use Rattle.po_catalog.specs.declared.fault.ReadError.TheVariants.{Fault, Memory}
use Rattle.po_catalog.specs.declared.front.Keyword.{Keyword}
use Rattle.po_catalog.specs.declared.reader.Progress.{Progress}
use Rattle.po_catalog.specs.declared.reader.Progress.TheVariants.{Left, Done}
use Rattle.po_catalog.specs.Drafts.{PoDraft, PoField, behind_empty, behind_line, comment_checked, ended_at_comment, flags_read, keyword_read, passed_over, unknown_read, with_field}
use Rattle.po_catalog.specs.Fronts.{Nothing, Word, Mark, Unknown, front_of}
use Rattle.po_catalog.specs.LineKinds.{Empty, Comment, Fields, line_of}
use Rattle.po_catalog.specs.ReadCatalogs.{ReadsFields, ReadsLine, longer, ends, unknown, fits, stray_keyword, goes_on, breaks, stray_text, empty, comment, fields}
use Rattle.po_catalog.specs.Inner.DraftViews.{GoesOnIn, ReadsTold, TakesFront, TakesFieldText, TextGoesOn}
use Rattle.po_catalog.specs.Inner.QuotedViews.{GoesOn}

-- a field of these parts
abbrev pub field_of : Place → ℕ → List ℕ → Bool → PoField
field_of place line bytes is_given = record { place = place; text = record { line = line; bytes = bytes }; is_given = is_given }

-- its bytes go on by what is said
pub field_goes_on : (line : List ℕ) (place : Place) (number : ℕ) (old new : List ℕ) (is_given : Bool)
    (result : Result (Bor (List ℕ)) ReadError)
    → GoesOn line old new result → GoesOnIn line (field_of place number old is_given) (field_of place number new true) result
field_goes_on line place number old new is_given (Ok rest) h = (h.0, ap (λ (t : List ℕ). field_of place number t true) h.1, h.2)
field_goes_on line place number old new is_given (Err (Fault cause)) h = (h.0, ap (λ (t : List ℕ). field_of place number t true) h.1, h.2)
field_goes_on line place number old new is_given (Err Memory) h = tt

-- the text that is read goes on
pub text_goes_on : (line : List ℕ) (old : PoDraft) (field new : PoField) (result : Result (Bor (List ℕ)) ReadError)
    → old.field ≡ Some field → GoesOnIn line field new result → TextGoesOn line old (with_field new old) result
text_goes_on line old field new (Ok rest) e h = (field, h.0, e, ap (λ (x : PoField). with_field x old) h.1, h.2)
text_goes_on line old field new (Err (Fault cause)) e h = inl (field, h.0, e, ap (λ (x : PoField). with_field x old) h.1, h.2)
text_goes_on line old field new (Err Memory) e h = tt

-- what is read behind the rest of a line is read behind the whole line
abbrev pub IsBefore : ℕ → Bool → PoDraft → List ℕ → PoDraft → List ℕ → Type 0
IsBefore number is_obsolete start line now rest =
    (end : PoDraft × Option Cause) → ReadsFields number is_obsolete now rest end → ReadsFields number is_obsolete start line end

pub line_ends : (n : ℕ) (o : Bool) (start now : PoDraft) (line rest : List ℕ) → IsBefore n o start line now rest → Nothing ≡ front_of rest
    → ReadsFields n o start line (now, None)
line_ends n o start now line rest h e = h (now, None) (ends now rest (sym e))

pub unknown_here : (n : ℕ) (o : Bool) (start now next : PoDraft) (line rest : List ℕ) (cause : Cause) → IsBefore n o start line now rest
    → Unknown cause ≡ front_of rest
    → next ≡ unknown_read now → ReadsFields n o start line (next, Some cause)
unknown_here n o start now next line rest cause h e is = rw is (h (unknown_read now, Some cause) (unknown now rest cause (sym e)))

pub keyword_fits : (n : ℕ) (o : Bool) (start now next : PoDraft) (line rest after : List ℕ) (keyword : Keyword) (fault : Option Cause)
    → IsBefore n o start line now rest
    → Word keyword after ≡ front_of rest → (next, fault) ≡ keyword_read n o keyword now → fault ≡ None → IsBefore n o start line next after
keyword_fits n o start now next line rest after keyword fault h e is none = λ end k.
    h end (fits now next rest after keyword end (sym e) (sym is ∙ ap (λ (f : Option Cause). (next, f)) none) k)

pub keyword_here : (n : ℕ) (o : Bool) (start now next : PoDraft) (line rest after : List ℕ) (keyword : Keyword)
    (fault : Option Cause) (cause : Cause)
    → IsBefore n o start line now rest → Word keyword after ≡ front_of rest → (next, fault) ≡ keyword_read n o keyword now
    → fault ≡ Some cause
    → ReadsFields n o start line (next, Some cause)
keyword_here n o start now next line rest after keyword fault cause h e is some =
    h (next, Some cause) (stray_keyword now next rest after keyword cause (sym e) (sym is ∙ ap (λ (f : Option Cause). (next, f)) some))

pub text_read : (n : ℕ) (o : Bool) (start now next : PoDraft) (line rest text : List ℕ) (after : Bor (List ℕ))
    → IsBefore n o start line now rest
    → Mark text ≡ front_of rest → TextGoesOn text now next (Ok after) → IsBefore n o start line next after.now
text_read n o start now next line rest text after h e (field, said, at, is, says) = λ end k.
    h end (goes_on now rest text said after.now field end (sym e) at says (rw (← is) k))

text_breaks : (n : ℕ) (o : Bool) (start now next : PoDraft) (line rest text : List ℕ) (cause : Cause) → IsBefore n o start line now rest
    → Mark text ≡ front_of rest → TextGoesOn text now next (Err (Fault cause)) → ReadsFields n o start line (next, Some cause)
text_breaks n o start now next line rest text cause h e (inl (field, said, at, is, says)) =
    rw is (h (with_field (longer said field) now, Some cause) (breaks now rest text said field cause (sym e) at says))
text_breaks n o start now next line rest text cause h e (inr (none, is, stray)) =
    rw (is, stray) (h (with_field passed_over now, Some StrayText) (stray_text now rest text (sym e) none))

-- a text with a fault is one that breaks
pub text_taken : (line : List ℕ) (old new : PoDraft) (cause : Cause) (result : Result (Bor (List ℕ)) ReadError) (error : ReadError)
    → TextGoesOn line old new result → result ≡ Err error → error ≡ Fault cause → TakesFieldText old line new (Done (Some cause))
text_taken line old new cause result error goes is fault =
    let told : ReadError → Result (Bor (List ℕ)) ReadError = λ x. Err x in
    subst (λ (r : Result (Bor (List ℕ)) ReadError). TextGoesOn line old new r) (is ∙ ap told fault) goes

-- what is read behind a text is read behind the line that begins with it
quoted_here : (n : ℕ) (o : Bool) (old new : PoDraft) (line text : List ℕ) (it : Progress) → Mark text ≡ front_of line
    → TakesFieldText old text new it → TakesFront n o old line new it
quoted_here n o old new line text (Left after) e h = text_read n o old old new line line text after (λ end k. k) e h
quoted_here n o old new line text (Done None) e h = absurd h
quoted_here n o old new line text (Done (Some cause)) e h = text_breaks n o old old new line line text cause (λ end k. k) e h

pub quoted_read : (n : ℕ) (o : Bool) (old new : PoDraft) (line text : List ℕ) (r : Result Progress AllocError) → Mark text ≡ front_of line
    → IfOk r (λ it. TakesFieldText old text new it) → IfOk r (λ it. TakesFront n o old line new it)
quoted_read n o old new line text (Ok it) e h = quoted_here n o old new line text it e h
quoted_read n o old new line text (Err error) e h = tt

-- ---- lines

pub empty_line : (n : ℕ) (line : List ℕ) (old new : PoDraft) → Empty ≡ line_of line → new ≡ behind_empty old → ReadsLine n line old new
empty_line n line old new e is = rw is (empty (sym e))

pub comment_line : (n : ℕ) (line s words : List ℕ) (old mid new : PoDraft) → Comment s words ≡ line_of line
    → mid ≡ comment_checked n s (flags_read words (ended_at_comment old)) → new ≡ behind_line mid → ReadsLine n line old new
comment_line n line s words old mid new e is behind = rw (behind, is) (comment s words (sym e))

pub fields_line : (n : ℕ) (line : List ℕ) (o : Bool) (s : List ℕ) (old mid new : PoDraft) → Fields o s ≡ line_of line
    → ReadsTold n o s old mid → new ≡ behind_line mid
    → ReadsLine n line old new
fields_line n line o s old mid new e h behind = rw (behind, ← h.checked) (fields o s h.end (sym e) h.read)
