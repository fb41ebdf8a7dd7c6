-- Reading the lines of a file, one after the other.
use Rattle.std.proofs.Common.{◌≡◌, ℕ, List, [], ◌∷◌, IfOk, Result, Ok, Err, sym, subst}
use Rattle.std.specs.declared.alloc.AllocError.{AllocError}
use Rattle.po_catalog.specs.declared.catalog.Catalog.{Catalog}
use Rattle.po_catalog.specs.Drafts.{PoDraft, all_ended, empty_draft}
use Rattle.po_catalog.specs.FileLines.{lines_of, numbered}
use Rattle.po_catalog.specs.ReadCatalogs.{IsCatalog, IsRead, PoCatalog, ReadsCatalog, ReadsLine, ReadsLines, ReturnsCatalog, behind_mark, catalog_at, catalog_view, next_line, no_line}
use Rattle.po_catalog.specs.Inner.DraftViews.{AddsLines}
use Rattle.po_catalog.proofs.OneCatalog.{one_catalog}

-- what the further lines add to a draft, all lines of the text add to the first one
abbrev pub AreBefore : PoDraft → List ℕ → PoDraft → List (ℕ × List ℕ) → Type 0
AreBefore start text now lines = (end : PoDraft) → ReadsLines now lines end → ReadsLines start (numbered 1 (lines_of text)) end

pub lines_begin : (start : PoDraft) (text : List ℕ) (lines : List (ℕ × List ℕ)) → lines ≡ numbered 1 (lines_of text)
    → AreBefore start text start lines
lines_begin start text lines e = λ end k. subst (λ (x : List (ℕ × List ℕ)). ReadsLines start x end) e k

pub lines_go_on : (start : PoDraft) (text : List ℕ) (now next : PoDraft) (n : ℕ) (line : List ℕ) (lines more : List (ℕ × List ℕ))
    → AreBefore start text now lines
    → lines ≡ (n, line) ∷ more → ReadsLine n line now next → AreBefore start text next more
lines_go_on start text now next n line lines more h e read = λ end k. h end (rw e (next_line now next end n line more read k))

pub lines_end : (start : PoDraft) (text : List ℕ) (now : PoDraft) (lines : List (ℕ × List ℕ)) (result : Result Catalog AllocError)
    → AreBefore start text now lines → lines ≡ []
    → IfOk result (λ catalog. catalog_view catalog ≡ catalog_at (all_ended now))
    → IfOk result (λ catalog. AddsLines start text (catalog_view catalog))
lines_end start text now lines (Ok catalog) h e is = record { end = now; read = h now (rw e (no_line now)); whole = is }
lines_end start text now lines (Err error) h e is = tt

returns_catalog : (file : List ℕ) (result : Result Catalog AllocError) (catalog : PoCatalog) → IsRead file result
    → IsCatalog file catalog → ReturnsCatalog result catalog
returns_catalog file (Ok found) catalog h k = one_catalog file (catalog_view found) catalog h k
returns_catalog file (Err error) catalog h k = tt

exactly : (file : List ℕ) (result : Result Catalog AllocError) → IsRead file result → ReadsCatalog file result
exactly file result h = record { only = h; read = λ catalog k. returns_catalog file result catalog h k }

-- what is read behind the mark of a file is what the file says
pub file_read : (file text : List ℕ) (start : PoDraft) (result : Result Catalog AllocError) → start ≡ empty_draft
    → text ≡ behind_mark file
    → IfOk result (λ catalog. AddsLines start text (catalog_view catalog)) → ReadsCatalog file result
file_read file text start (Ok catalog) begins behind h =
    let there : ReadsLines start (numbered 1 (lines_of (behind_mark file))) h.end =
    subst (λ (t : List ℕ). ReadsLines start (numbered 1 (lines_of t)) h.end) behind h.read in
    exactly file (Ok catalog) (record {
      end = h.end;
      read = subst (λ (d : PoDraft). ReadsLines d (numbered 1 (lines_of (behind_mark file))) h.end) begins there;
      whole = sym h.whole;
    })
file_read file text start (Err error) begins behind h = exactly file (Err error) tt
