-- What stands before the last separator.
use Rattle.std.proofs.Common.{ℕ, ◌+◌, ◌-◌, ◌<◌, ◌≤◌, List, [], ◌∷◌, ◌++◌, length, Some, None, ◌≡◌, true, refl, sym, ap, subst, ◌∙◌, arith}
use Rattle.std.specs.Prelude.{drop, take, slice_index}
use Rattle.std.proofs.lemmas.List.{drop_more, take-append-drop}
use Rattle.plural_fallback.specs.LocaleNames.{before_last, is_separator}

-- the last separator, with what stands before it
found_after : (front : List ℕ) (byte : ℕ) (rest : List ℕ) → is_separator byte ≡ true → before_last rest ≡ None → before_last (front ++ byte ∷ rest) ≡ Some front
found_after [] byte rest here after = rw (after, here) refl
found_after (first ∷ front) byte rest here after = rw (found_after front byte rest here after) refl

-- the same, by its place
pub found_at : (locale : List ℕ) (end : ℕ) → 0 < end → end ≤ length locale → is_separator (slice_index locale (end - 1)) ≡ true → before_last (drop end locale) ≡ None → before_last locale ≡ Some (take (end - 1) locale)
found_at locale end above within here after =
    let place = end - 1 in
    let next : place + 1 ≡ end = omega arith in
    let rest : before_last (drop (place + 1) locale) ≡ None =
    subst (λ (n : ℕ). before_last (drop n locale) ≡ None) (sym next) after in
    let whole : locale ≡ take place locale ++ slice_index locale place ∷ drop (place + 1) locale =
    sym (take-append-drop place locale) ∙ ap (λ (bytes : List ℕ). take place locale ++ bytes) (drop_more locale place 0 (omega arith)) in
    ap before_last whole ∙ found_after (take place locale) (slice_index locale place) (drop (place + 1) locale) here rest
