-- The style of a simple format: a text where braces nest, and an apostrophe quotes up to the next.
use Rattle.std.specs.Prelude.{◌≡◌, ℕ, ◌+◌, ◌-◌, ◌==◌, List, [], ◌∷◌, ◌++◌, Bool, true, false, ◌&&◌, ◌||◌, not, Option, Some, None, if◌then◌else◌}
use Rattle.pattern_bytes.specs.PatternBytes.{apostrophe, opening, closing}

-- a byte that stands for itself
abbrev pub is_style_byte : ℕ → Bool
is_style_byte b = not (b == apostrophe || b == opening || b == closing)

abbrev pub has_no_apostrophe : List ℕ → Bool
has_no_apostrophe [] = true
has_no_apostrophe (b ∷ s) = not (b == apostrophe) && has_no_apostrophe s

-- argStyleText, as ICU's page on MessageFormat has it
pub data IsStyle : List ℕ → Type 0 where
  ends : IsStyle []
  -- a byte
  byte : (b : ℕ) (s : List ℕ) → is_style_byte b ≡ true → IsStyle s → IsStyle (b ∷ s)
  -- `'quoted'`
  quoted : (quote s : List ℕ) → has_no_apostrophe quote ≡ true → IsStyle s → IsStyle (apostrophe ∷ (quote ++ apostrophe ∷ s))
  -- `{nested}`
  nested : (inner s : List ℕ) → IsStyle inner → IsStyle s → IsStyle (opening ∷ (inner ++ closing ∷ s))

-- ---- where a style ends

-- how many braces are open behind a byte, and whether what follows is quoted; none for the brace
-- that ends the style
abbrev pub style_step : ℕ → Bool → ℕ → Option (ℕ × Bool)
style_step braces quote b =
    if quote then Some (braces, not (b == apostrophe))
    else if b == apostrophe then Some (braces, true)
    else if b == opening then Some (braces + 1, false)
    else if not (b == closing) then Some (braces, false)
    else if braces == 0 then None
    else Some (braces - 1, false)

-- what follows the brace that ends the style, of which s is left
abbrev pub behind_style : ℕ → Bool → List ℕ → Option (List ℕ)
behind_style braces quote [] = None
behind_style braces quote (b ∷ s) =
    elim (style_step braces quote b) as (λ _. Option (List ℕ)) [
      | None ↦ Some s
      | Some next ↦ behind_style next.0 next.1 s
    ]
