-- Patterns with simple formats.
use Rattle.std.proofs.Common.{◌≡◌, ◌+◌, ◌<◌, ℕ, List, ◌++◌, Option, Some, None, length, take, drop, set, slice_set, get_or, refl, ap, sym, subst, ◌∙◌}
use Rattle.std.proofs.lemmas.List.{length-map, length-set, map-set, get_or-map}
use Rattle.std.proofs.lemmas.List.Edits.{map_over_more}
use Rattle.pattern_bytes.specs.declared.bytes.Class.TheVariants.{Name, Letter}
use Rattle.message_pattern.specs.declared.head.Formats.TheVariants.{Refused, Allowed}
use Rattle.pattern_bytes.specs.PatternBytes.{behind_run, after_white}
use Rattle.message_pattern.specs.declared.part.Part as parts
use Rattle.message_pattern.specs.declared.styled_argument.SimpleFormat as formats
use Rattle.message_pattern.specs.PatternParts.{Part, part_view, parts_view}
use Rattle.message_pattern.specs.PatternReading.{PatternPlace}
use Rattle.message_pattern.specs.PatternGrammar.{IsReadAt, IsNameOrNumber, IsSimpleText, IsStyleBehind, message_ends, message_closes, message_text, message_argument, none_arg, simple_arg, complex_arg, style_branch, style_ends}
use Rattle.message_pattern.specs.StyledParts.{Format, argument_name_of, style_behind, format_behind, format_of, style_view, format_view, unstyled_part, unstyled}
use Rattle.message_pattern.proofs.Longest.{longest_run, longest_rest}
use Rattle.message_pattern.proofs.BeforeBrace.{name_alone, name_whole}

-- what is read without simple formats, is read with them
pub styled_too : {place : PatternPlace} {s rest : List ℕ} {parts : List Part} → IsReadAt Refused place s parts rest
    → IsReadAt Allowed place s parts rest
styled_too (message_ends c d q s e w) = message_ends c d q s e w
styled_too (message_closes c d q s rest e) = message_closes c d q s rest e
styled_too (message_text c d q r s t rest p more e h) = message_text c d q r s t rest p more e (styled_too h)
styled_too (message_argument c d q s t u rest inner more e h k) =
    message_argument c d q s t u rest inner more e (styled_too h) (styled_too k)
styled_too (none_arg d s name t rest i e) = none_arg d s name t rest i e
styled_too (simple_arg d s text name word rest style a w h) = simple_arg d s text name word rest style refl w h
styled_too (complex_arg d kind offset s name t u v w x rest more i e j f o h) =
    complex_arg d kind offset s name t u v w x rest more i e j f o (styled_too h)
styled_too (style_branch d kind other sel s t u v rest inner more i e room h k) =
    style_branch d kind other sel s t u v rest inner more i e room (styled_too h) (styled_too k)
styled_too (style_ends d kind s rest e) = style_ends d kind s rest e

-- a name alone has no format
pub name_apart : (s name rest : List ℕ) → IsNameOrNumber s name rest → (argument_name_of name ≡ name) × (format_of name ≡ None)
name_apart s name rest h =
    (name_alone s name rest h.bytes, ap (λ (l : List ℕ). format_behind (after_white l)) (name_whole s name rest h.bytes))

style_apart : (s : List ℕ) (style : Option (List ℕ)) → IsStyleBehind s style → style_behind s ≡ style
style_apart s None h = ap style_behind h
style_apart s (Some style) h = ap style_behind h.0

abbrev format : List ℕ → Option (List ℕ) → Option Format
format word style = Some (record { format_type = word; style = style })

-- the name and the format that the grammar finds
pub format_apart : (text name word : List ℕ) (style : Option (List ℕ)) → IsSimpleText text name word style
    → (argument_name_of text ≡ name) × (format_of text ≡ Some (record { format_type = word; style = style }))
format_apart text name word style h = (
  longest_run Name text name h.behind_name h.named.bytes,
  ap (λ (l : List ℕ). format_behind (after_white l)) (longest_rest Name text name h.behind_name h.named.bytes)
      ∙ (ap format_behind h.comma_there
      ∙ (ap (λ (l : List ℕ). format l (style_behind (after_white (behind_run Letter (after_white h.behind_comma)))))
      (longest_run Letter (after_white h.behind_comma) word h.behind_type h.typed.letters)
      ∙ (ap (λ (l : List ℕ). format word (style_behind (after_white l)))
      (longest_rest Letter (after_white h.behind_comma) word h.behind_type h.typed.letters)
      ∙ ap (λ (o : Option (List ℕ)). format word o) (style_apart (after_white h.behind_type) style h.styled)))),
)

-- a format that is shown
pub format_shown : (f : formats.SimpleFormat) (word : List ℕ) (style : Option (List ℕ)) → f.format_type.now ≡ word
    → style_view f.style ≡ style
    → format_view (Some f) ≡ Some (record { format_type = word; style = style })
format_shown f word style e h = ap (λ (w : List ℕ). format w (style_view f.style)) e ∙ ap (λ (o : Option (List ℕ)). format word o) h

-- one part more is without a format
pub unstyled_more : (xs : List Part) (items : List parts.Part) (i : ℕ) (p y : parts.Part) → i < length items → i < length xs
    → parts_view items ≡ unstyled (take i xs) ++ drop i xs → p ≡ get_or items i p → part_view y ≡ unstyled_part (part_view p)
    → parts_view (set items i y) ≡ unstyled (take (i + 1) xs) ++ drop (i + 1) xs
unstyled_more xs items i p y n m e g h =
    map-set part_view items i y
    ∙ (ap (λ (q : Part). set (parts_view items) i q) h
    ∙ map_over_more unstyled_part xs (parts_view items) i (part_view p) m e
    (ap part_view g ∙ sym (get_or-map part_view items i p (part_view p) n)))

-- and the list is as long as before
pub unstyled_step : (init items : List parts.Part) (i : ℕ) (p y : parts.Part) → i < length items → length items ≡ length init
    → parts_view items ≡ unstyled (take i (parts_view init)) ++ drop i (parts_view init) → p ≡ get_or items i p
    → part_view y ≡ unstyled_part (part_view p)
    → (parts_view (slice_set items i y) ≡ unstyled (take (i + 1) (parts_view init)) ++ drop (i + 1) (parts_view init))
    × (length (slice_set items i y) ≡ length init)
unstyled_step init items i p y n same e g h = (
  unstyled_more (parts_view init) items i p y n (subst (λ (k : ℕ). i < k) (same ∙ sym (length-map init part_view)) n) e g h,
  length-set items i y ∙ same,
)
