-- A text is cut at its placeholders in one way, so it is filled in one way.
-- The two characters of a placeholder are o and c, which differ: `{` and `}`.
use Rattle.std.proofs.Common.{◌≡◌, ℕ, ◌≤◌, List, [], ◌∷◌, ◌++◌, flat_map, length, refl, ap, sym, ◌∙◌, append_assoc}
use Rattle.std.proofs.Common.{append-nil, arith, length-append, ⊎_elim}
use Rattle.std.specs.List.{AllByRecursion}
use Rattle.std.specs.Str.Iter.{HasSubslice}
use Rattle.std.proofs.lemmas.Bool.Decides.{eqb_tells}
use Rattle.plural_message.specs.Messages.{pieces_joined, OneFilling}

abbrev mark : ℕ → ℕ → List ℕ
mark o c = o ∷ c ∷ []

-- the list contains no placeholder
abbrev Lacks : ℕ → ℕ → List ℕ → Type 0
Lacks o c piece = ¬ (HasSubslice piece (mark o c))

-- nor does one of the pieces
abbrev AreUncut : ℕ → ℕ → List (List ℕ) → Type 0
AreUncut o c pieces = AllByRecursion (Lacks o c) pieces

-- a list of at most one number contains no placeholder
lacks_short : (o c : ℕ) (xs : List ℕ) → length xs ≤ 1 → Lacks o c xs
lacks_short o c xs short h = omega (arith, ap length h.2, length-append h.0 (mark o c ++ h.1))

-- a list without a placeholder has none after its first number either
lacks_behind : (o c x : ℕ) (xs : List ℕ) → Lacks o c (x ∷ xs) → Lacks o c xs
lacks_behind o c x xs none h = none (x ∷ h.0, h.1, ap (λ l. x ∷ l) h.2)

-- ---- One cut at most

-- the parts before and after the first placeholder of a text are unique
same_cut : (o c : ℕ) → ¬ (o ≡ c) → (a b xs ys : List ℕ) → Lacks o c a → Lacks o c b
    → a ++ (mark o c ++ xs) ≡ b ++ (mark o c ++ ys) → (a ≡ b) × (xs ≡ ys)
same_cut o c apart [] [] xs ys none other e = (refl, cc)
same_cut o c apart [] (y ∷ []) xs ys none other e = absurd (apart (cc))
same_cut o c apart [] (y ∷ z ∷ zs) xs ys none other e = absurd (other ([], zs, cc))
same_cut o c apart (x ∷ []) [] xs ys none other e = absurd (apart (cc))
same_cut o c apart (x ∷ z ∷ zs) [] xs ys none other e = absurd (none ([], zs, cc))
same_cut o c apart (x ∷ a) (y ∷ b) xs ys none other e =
    let tails : (a ≡ b) × (xs ≡ ys) = same_cut o c apart a b xs ys (lacks_behind o c x a none) (lacks_behind o c y b other) (cc) in
    (cc, tails.1)

-- a piece before others
joined_by-cons : (separator p q : List ℕ) (ps : List (List ℕ))
    → pieces_joined separator (p ∷ q ∷ ps) ≡ p ++ (separator ++ pieces_joined separator (q ∷ ps))
joined_by-cons separator p q ps = ap (λ l. p ++ l) (append_assoc separator q (flat_map (λ r. separator ++ r) ps))

-- a piece without a placeholder equals no text with one
no_more : (o c : ℕ) (p q r : List ℕ) (ps : List (List ℕ)) → Lacks o c p
    → pieces_joined (mark o c) (p ∷ []) ≡ pieces_joined (mark o c) (q ∷ r ∷ ps) → ⊥
no_more o c p q r ps none e = none (q, pieces_joined (mark o c) (r ∷ ps), sym (append-nil p) ∙ e ∙ joined_by-cons (mark o c) q r ps)

-- two lists of pieces of one text are filled alike
same_pieces : (o c : ℕ) → ¬ (o ≡ c) → (number p q : List ℕ) (ps qs : List (List ℕ)) → AreUncut o c (p ∷ ps) → AreUncut o c (q ∷ qs)
    → pieces_joined (mark o c) (p ∷ ps) ≡ pieces_joined (mark o c) (q ∷ qs) → pieces_joined number (p ∷ ps) ≡ pieces_joined number (q ∷ qs)
same_pieces o c apart number p q [] [] left right e = e
same_pieces o c apart number p q [] (r ∷ qs) left right e = absurd (no_more o c p q r qs left.0 e)
same_pieces o c apart number p q (r ∷ ps) [] left right e = absurd (no_more o c q p r ps right.0 (sym e))
same_pieces o c apart number p q (r ∷ ps) (s ∷ qs) left right e =
    let cut = same_cut o c apart p q (pieces_joined (mark o c) (r ∷ ps)) (pieces_joined (mark o c) (s ∷ qs)) left.0 right.0
    (sym (joined_by-cons (mark o c) p r ps) ∙ e ∙ joined_by-cons (mark o c) q s qs) in
    joined_by-cons number p r ps
    ∙ (λ k. cut.0 k ++ (number ++ same_pieces o c apart number r s ps qs left.1 right.1 cut.1 k))
    ∙ sym (joined_by-cons number q s qs)

-- pieces that join like a list that has a first piece
record IsSomePieces (o c : ℕ) (pieces : List (List ℕ)) : Type 0 where
  first : List ℕ
  rest : List (List ℕ)
  uncut : AreUncut o c (first ∷ rest)
  alike : (separator : List ℕ) → pieces_joined separator pieces ≡ pieces_joined separator (first ∷ rest)

-- every list of pieces joins like one that has a first piece
some_pieces : (o c : ℕ) (pieces : List (List ℕ)) → AreUncut o c pieces → IsSomePieces o c pieces
some_pieces o c [] uncut = record { first = []; rest = []; uncut = (lacks_short o c [] (omega arith), tt); alike = λ _. refl }
some_pieces o c (p ∷ ps) uncut = record { first = p; rest = ps; uncut = uncut; alike = λ _. refl }

-- two cuts of one text are filled alike
same_joins : (o c : ℕ) → ¬ (o ≡ c) → (number : List ℕ) (ps qs : List (List ℕ)) → AreUncut o c ps → AreUncut o c qs
    → pieces_joined (mark o c) ps ≡ pieces_joined (mark o c) qs → pieces_joined number ps ≡ pieces_joined number qs
same_joins o c apart number ps qs left right e =
    let p = some_pieces o c ps left in
    let q = some_pieces o c qs right in
    p.alike number
    ∙ same_pieces o c apart number p.first q.first p.rest q.rest p.uncut q.uncut (sym (p.alike (mark o c)) ∙ e ∙ q.alike (mark o c))
    ∙ sym (q.alike number)

-- ---- Every text is cut

-- the first piece and the rest
record IsCut (o c : ℕ) (text : List ℕ) : Type 0 where
  first : List ℕ
  rest : List (List ℕ)
  uncut : AreUncut o c (first ∷ rest)
  whole : text ≡ pieces_joined (mark o c) (first ∷ rest)

-- a placeholder at the front
cut-placeholder : (o c x y : ℕ) (text : List ℕ) → x ≡ o → y ≡ c → IsCut o c text → IsCut o c (x ∷ y ∷ text)
cut-placeholder o c x y text is_o is_c cut =
    record {
      first = [];
      rest = cut.first ∷ cut.rest;
      uncut = (lacks_short o c [] (omega arith), cut.uncut);
      whole = λ k. is_o k ∷ is_c k ∷ cut.whole k;
    }

-- a character at the front that begins no placeholder
cut-character : (o c x : ℕ) (text : List ℕ) → ((rest : List ℕ) → x ∷ text ≡ mark o c ++ rest → ⊥) → IsCut o c text → IsCut o c (x ∷ text)
cut-character o c x text begins_none cut =
    record {
      first = x ∷ cut.first;
      rest = cut.rest;
      uncut = (lacks_more, cut.uncut.1);
      whole = ap (λ l. x ∷ l) cut.whole;
    }
  where
    lacks_at : (a b : List ℕ) → x ∷ cut.first ≡ a ++ (mark o c ++ b) → ⊥
    lacks_at [] b e = begins_none (b ++ flat_map (λ q. mark o c ++ q) cut.rest)
        (ap (λ l. x ∷ l) cut.whole ∙ ap (λ l. l ++ flat_map (λ q. mark o c ++ q) cut.rest) e)
    lacks_at (y ∷ a) b e = cut.uncut.0 (a, b, cc)

    lacks_more : Lacks o c (x ∷ cut.first)
    lacks_more h = lacks_at h.0 h.1 h.2

-- every text can be cut at its placeholders
every_cut : (o c : ℕ) (text : List ℕ) → IsCut o c text
every_cut o c [] = record { first = []; rest = []; uncut = (lacks_short o c [] (omega arith), tt); whole = refl }
every_cut o c (x ∷ []) = cut-character o c x [] (λ rest e. omega (arith, ap length e)) (every_cut o c [])
every_cut o c (x ∷ y ∷ text) =
    ⊎_elim
    (λ is_o. ⊎_elim (λ is_c. cut-placeholder o c x y text is_o.1 is_c.1 (every_cut o c text))
    (λ isnt. cut-character o c x (y ∷ text) (λ rest e. isnt.1 (cc)) (every_cut o c (y ∷ text))) (eqb_tells y c))
    (λ isnt. cut-character o c x (y ∷ text) (λ rest e. isnt.1 (cc)) (every_cut o c (y ∷ text))) (eqb_tells x o)

-- ---- The law

-- `{` and `}` are two characters
apart : ¬ (◌≡◌ {A = ℕ} 123 125)
apart e = omega (arith, e)

-- the law: a text is filled, and in one way
pub one_filling : OneFilling
one_filling number text =
    let cut = every_cut 123 125 text in
    let pieces = cut.first ∷ cut.rest in (
      pieces_joined number pieces,
      record { pieces = pieces; uncut = cut.uncut; cut = cut.whole; filled_is = refl },
      λ other filling.
          filling.filled_is ∙ same_joins 123 125 apart number filling.pieces pieces filling.uncut cut.uncut (sym filling.cut ∙ cut.whole),
    )
