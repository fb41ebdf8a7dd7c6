-- Entries that are written, one after the other.
use Rattle.std.proofs.Common.{◌≡◌, ℕ, ◌+◌, ◌<◌, ◌^◌, List, ◌∷◌, ◌++◌, length, drop, get_or, refl, sym, ap, ◌∙◌, arith, add-one}
use Rattle.std.proofs.Common.{append_assoc, drop-cons, length-append}
use Rattle.std.specs.List.{concat}
use Rattle.std.specs.Prelude.{flat_map}
use Rattle.packed_catalog.specs.declared.entry.CatalogEntry.{CatalogEntry}
use Rattle.packed_catalog.specs.CatalogBytes.{ends_from, four_bytes, lent_entries, pieces_of}

-- the pieces of the entries from a place on
abbrev pub pieces_from : ℕ → List CatalogEntry → List (List ℕ)
pieces_from i entries = pieces_of (lent_entries (drop i entries))

pieces_from-more : (entries : List CatalogEntry) (i : ℕ) (d : CatalogEntry) → i < length entries
    → pieces_from i entries ≡ (get_or entries i d).key.now ∷ (get_or entries i d).value.now ∷ pieces_from (i + 1) entries
pieces_from-more entries i d l = rw (add-one, drop-cons entries i d) refl

-- the pieces of an entry are written
pub data_goes_on : (entries : List CatalogEntry) (i : ℕ) (d : CatalogEntry) (old mid new all : List ℕ) → i < length entries
    → mid ≡ old ++ (get_or entries i d).key.now → new ≡ mid ++ (get_or entries i d).value.now
    → old ++ concat (pieces_from i entries) ≡ all → new ++ concat (pieces_from (i + 1) entries) ≡ all
data_goes_on entries i d old mid new all l first second h =
    let key : List ℕ = (get_or entries i d).key.now in
    let value : List ℕ = (get_or entries i d).value.now in
    let rest : List ℕ = concat (pieces_from (i + 1) entries) in
    ap (λ x. x ++ rest) (second ∙ ap (λ x. x ++ value) first)
    ∙ append_assoc (old ++ key) value rest ∙ append_assoc old key (value ++ rest)
    ∙ ap (λ ps. old ++ concat ps) (sym (pieces_from-more entries i d l)) ∙ h

-- the ends of an entry are written
pub ends_go_on : (entries : List CatalogEntry) (i : ℕ) (d : CatalogEntry) (old new all : List ℕ) (start end : ℕ) → i < length entries
    → new ≡ old ++ (four_bytes (start + length (get_or entries i d).key.now) ++ four_bytes end)
    → end ≡ start + length (get_or entries i d).key.now + length (get_or entries i d).value.now
    → old ++ flat_map four_bytes (ends_from start (pieces_from i entries)) ≡ all
    → new ++ flat_map four_bytes (ends_from end (pieces_from (i + 1) entries)) ≡ all
ends_go_on entries i d old new all start end l written is h =
    let first : List ℕ = four_bytes (start + length (get_or entries i d).key.now) in
    let rest : ℕ → List ℕ = λ n. flat_map four_bytes (ends_from n (pieces_from (i + 1) entries)) in
    ap (λ x. x ++ rest end) written
    ∙ append_assoc old (first ++ four_bytes end) (rest end)
    ∙ ap (λ n. old ++ (first ++ (four_bytes n ++ rest n))) is
    ∙ ap (λ ps. old ++ flat_map four_bytes (ends_from start ps)) (sym (pieces_from-more entries i d l)) ∙ h

pub ends_stay_small : (entries : List CatalogEntry) (i : ℕ) (d : CatalogEntry) (start end : ℕ) → i < length entries
    → end ≡ start + length (get_or entries i d).key.now + length (get_or entries i d).value.now
    → start + length (concat (pieces_from i entries)) < 2 ^ 32 → end + length (concat (pieces_from (i + 1) entries)) < 2 ^ 32
ends_stay_small entries i d start end l is h =
    let key : List ℕ = (get_or entries i d).key.now in
    let value : List ℕ = (get_or entries i d).value.now in
    let rest : List ℕ = concat (pieces_from (i + 1) entries) in
    let size = ap (λ ps. length (concat ps)) (pieces_from-more entries i d l) ∙ length-append key (value ++ rest)
    ∙ ap (λ n. length key + n) (length-append value rest) in
    omega (arith, size)
