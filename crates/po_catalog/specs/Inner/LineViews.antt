-- What is left of a file, without where it lies in memory.
use Rattle.std.specs.Prelude.{ℕ, ◌+◌, List, length, Option, Some, None, Bool}
use Rattle.std.specs.Borrow.{Bor}
use Rattle.po_catalog.specs.declared.bytes.Class.{Class}
use Rattle.po_catalog.specs.declared.bytes.Class.TheVariants.{White, Word, BetweenFlags, Flag}
use Rattle.po_catalog.specs.PoBytes.{is_white, is_of_keyword, is_between_flags, is_of_flag}
use Rattle.po_catalog.specs.declared.line_kind.LineKind.{LineKind}
use Rattle.po_catalog.specs.declared.line_kind.LineKind.TheVariants as variants
use Rattle.po_catalog.specs.LineKinds.{PoLine, Empty, Comment, Fields}

abbrev pub left_view : Option (Bor (List ℕ)) → Option (List ℕ)
left_view None = None
left_view (Some rest) = Some rest.now

abbrev pub cut_view : Bor (List ℕ) × Option (Bor (List ℕ)) → List ℕ × Option (List ℕ)
cut_view cut = (cut.0.now, left_view cut.1)

-- how many bytes are left, and the newline before them
abbrev pub file_bytes_left : Option (Bor (List ℕ)) → ℕ
file_bytes_left None = 0
file_bytes_left (Some rest) = length rest.now + 1

-- ---- the classes of bytes that runs are cut by

abbrev pub is_in_catalog_class : Class → ℕ → Bool
is_in_catalog_class White b = is_white b
is_in_catalog_class Word b = is_of_keyword b
is_in_catalog_class BetweenFlags b = is_between_flags b
is_in_catalog_class Flag b = is_of_flag b

-- ---- the kinds of lines, without where they lie in memory

abbrev pub kind_view : LineKind → PoLine
kind_view variants.Empty = Empty
kind_view (variants.Comment comment flags) = Comment comment.now flags.now
kind_view (variants.Fields is_obsolete fields) = Fields is_obsolete fields.now
