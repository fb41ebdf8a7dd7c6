-- The pieces of a text, one after another: where a text is cut so that some of its tokens are left.
-- From CutOnce to the byte of a fault.
use Rattle.std.proofs.Common.{◌≡◌, ◌≢◌, ◌<◌, ◌≤◌, ◌-◌, ◌+◌, ℕ, List, [], ◌∷◌, ◌++◌, Bool, true, false, Option, Some, None, refl, sym, ap, ◌∙◌}
use Rattle.std.proofs.Common.{subst, append_assoc, length, is_some, arith, length-append}
use Rattle.std.proofs.lemmas.Bool.{false≢true}
use Rattle.std.proofs.lemmas.List.{append-nil, append_cancel_left}
use Rattle.std.proofs.lemmas.List.Elements.{filter_map-append}
use Rattle.std.proofs.lemmas.Grind.{flat_map-append}
use Rattle.std.specs.Prelude.{IfSome}
use Rattle.std.specs.List.{filter_map, flat_map, cons_option}
use Rattle.plural_reference.specs.declared.token.Token.{Token}
use Rattle.plural_reference.specs.Lexer.{first, IsPiece, space, mark, keyword, number, unknown, too_large, broken, cut_off}
use Rattle.plural_reference.specs.Lexer.{Piece, IsCut}
use Rattle.plural_reference.specs.FaultPlaces.{StandsAt}
use Rattle.plural_reference.specs.Inner.Scan.{Scan, between, tokens_of}
use Rattle.plural_reference.specs.Inner.BehindFirst.{Bite, stops, ends, goes, bite, left_by, rest_from, behind_first, HasFirst}
use Rattle.plural_reference.proofs.tokens.CutOnce.{bitten, piece_from, first_piece, piece_bitten, piece_not_empty, one_cut}
use Rattle.plural_reference.proofs.tokens.FirstBytes.{no_bytes_left}
use Rattle.plural_reference.proofs.tokens.ScanComplete.{piece_scans}
use Rattle.plural_reference.proofs.tokens.ScanSound.{has_tokens, tokens_are}

-- ---- the first piece

-- what a byte is to the open piece takes and leaves all bytes
by_bite : (m : Bite) (b : ℕ) (bs : List ℕ) → ((s : Scan) → piece_from s bs ++ rest_from s bs ≡ bs)
    → bitten m b (λ next. piece_from next bs) ++ left_by m b bs (λ next. rest_from next bs) ≡ b ∷ bs
by_bite stops b bs h = refl
by_bite ends b bs h = refl
by_bite (goes s) b bs h = ap (λ l. b ∷ l) (h s)

-- so what is open and what is behind it are all bytes
piece_and_rest : (bs : List ℕ) (s : Scan) → piece_from s bs ++ rest_from s bs ≡ bs
unfolding piece_from rest_from
piece_and_rest [] s = refl
piece_and_rest (b ∷ bs) s = by_bite (bite s b) b bs (piece_and_rest bs)

-- a piece without a token is a space
no_token_is_space : (piece rest : List ℕ) (token : Option Token) → IsPiece piece rest token → token ≡ None → piece ≡ 32 ∷ []
no_token_is_space piece rest token (space e t) n = e
no_token_is_space piece rest token (mark t c f k) n = cc
no_token_is_space piece rest token (keyword t c k) n = cc
no_token_is_space piece rest token (number r small k) n = cc
no_token_is_space piece rest token (unknown b e w k) n = cc
no_token_is_space piece rest token (too_large r large k) n = cc
no_token_is_space piece rest token (broken begun next b e g d k) n = cc
no_token_is_space piece rest token (cut_off next g e k) n = cc

-- a text that begins with no space begins with a token
first_is_token : (text r piece : List ℕ) (token : Option Token) → text ≡ piece ++ r → IsPiece piece r token
    → first text ≢ Some 32 → true ≡ is_some token
first_is_token text r piece None e h n =
    absurd (n (ap first (e ∙ ap (λ l. l ++ r) (no_token_is_space piece r None h refl))))
first_is_token text r piece (Some t) e h n = refl

-- a space comes first
pub space_first : (text after : List ℕ) → text ≡ 32 ∷ after → HasFirst text false after
space_first text after e = record {
  piece = 32 ∷ [];
  token = None;
  spelled = e;
  is_piece = space refl refl;
  told = refl;
  no_space = λ t. absurd (false≢true t);
}

-- the piece of a cut comes first, and behind it is what the lexer leaves
cut_first : (text after : List ℕ) (pieces : List Piece) (t : Token) (ts : List Token)
    → first text ≢ Some 32 → IsCut text pieces → t ∷ ts ≡ filter_map (λ p. p.1) pieces → behind_first text ≡ after
    → HasFirst text true after
cut_first text after [] t ts n cut e b = cc
cut_first text after (p ∷ ps) t ts n (r, spelled, is, more) e b =
    let bytes : first_piece text ≡ p.0 = ap first_piece spelled ∙ piece_bitten p.0 r p.1 is in
    let all : first_piece text ++ behind_first text ≡ text = piece_and_rest text between in
    let same : r ≡ after =
    append_cancel_left p.0 r after (sym spelled ∙ sym all ∙ (λ i. bytes i ++ b i)) in
    record {
      piece = p.0;
      token = p.1;
      spelled = spelled ∙ ap (λ l. p.0 ++ l) same;
      is_piece = subst (λ l. IsPiece p.0 l p.1) same is;
      told = first_is_token text r p.0 p.1 spelled is n;
      no_space = λ _. n;
    }

-- so does a token that the lexer finds
pub token_first : (text after : List ℕ) (t : Token) → first text ≢ Some 32 → tokens_of text ≡ t ∷ tokens_of after
    → behind_first text ≡ after → HasFirst text true after
token_first text after t n e b = let h = has_tokens text in cut_first text after h.0 t (tokens_of after) n h.1 (sym e ∙ h.2) b

-- a list with one more in front is longer
longer : (text after piece : List ℕ) → text ≡ piece ++ after → piece ≢ [] → length after < length text
longer text after [] e n = absurd (n refl)
longer text after (b ∷ bs) e n = let l = ap length e in omega (arith, l, length-append bs after)

-- a piece has a byte
pub first_is_shorter : (text after : List ℕ) (is_token : Bool) → HasFirst text is_token after → length after < length text
first_is_shorter text after is_token h =
    longer text after h.piece h.spelled (piece_not_empty h.piece after h.token h.is_piece)

-- the tokens of a text are those behind its first piece, and the piece's
tokens_behind : (text after : List ℕ) (is_token : Bool) (h : HasFirst text is_token after)
    → tokens_of text ≡ cons_option h.token (tokens_of after)
tokens_behind text after is_token h = ap tokens_of h.spelled ∙ piece_scans h.piece after h.token h.is_piece

-- one that is present is one more
one_more : (token : Option Token) (ts : List Token) → true ≡ is_some token → length (cons_option token ts) ≡ length ts + 1
one_more None ts e = absurd (false≢true (sym e))
one_more (Some t) ts e = omega arith

none_more : (token : Option Token) (ts : List Token) → false ≡ is_some token → length (cons_option token ts) ≡ length ts
none_more None ts e = refl
none_more (Some t) ts e = absurd (false≢true e)

-- a token in front is one more
pub one_token_more : (text after : List ℕ) → HasFirst text true after → length (tokens_of text) ≡ length (tokens_of after) + 1
one_token_more text after h = ap length (tokens_behind text after true h) ∙ one_more h.token (tokens_of after) h.told

-- a space is none
pub no_token_more : (text after : List ℕ) → HasFirst text false after → length (tokens_of text) ≡ length (tokens_of after)
no_token_more text after h = ap length (tokens_behind text after false h) ∙ none_more h.token (tokens_of after) h.told

-- ---- a walk over pieces

-- pieces stand before the rest of the text
pub record Walks (text rest : List ℕ) : Type 0 where
  pub before : List Piece
  pub cuts : (after : List Piece) → IsCut rest after → IsCut text (before ++ after)
  pub bytes : text ≡ flat_map (λ (p : Piece). p.0) before ++ rest

-- none do at first
pub walk_begins : (text : List ℕ) → Walks text text
walk_begins text = record { before = []; cuts = λ after h. h; bytes = refl }

-- one piece more
pub walk_goes_on : (text rest after : List ℕ) (is_token : Bool) → Walks text rest → HasFirst rest is_token after → Walks text after
walk_goes_on text rest after is_token w h =
    let p : Piece = (h.piece, h.token) in
    record {
      before = w.before ++ p ∷ [];
      cuts = λ ps k.
          subst (IsCut text) (sym (append_assoc w.before (p ∷ []) ps)) (w.cuts (p ∷ ps) (after, h.spelled, h.is_piece, k));
      bytes =
          w.bytes ∙ ap (λ l. flat_map (λ (p : Piece). p.0) w.before ++ l) h.spelled
          ∙ sym (append_assoc (flat_map (λ (p : Piece). p.0) w.before) h.piece after)
          ∙ ap (λ l. l ++ after)
          (sym
          (flat_map-append (λ (p : Piece). p.0) w.before (p ∷ [])
          ∙ ap (λ l. flat_map (λ (p : Piece). p.0) w.before ++ l) (append-nil h.piece)));
    }

-- the rest is no longer than the text
pub walk_is_shorter : (text rest : List ℕ) → Walks text rest → length rest < length text + 1
walk_is_shorter text rest w =
    let l = ap length w.bytes in omega (arith, l, length-append (flat_map (λ (p : Piece). p.0) w.before) rest)

-- two ends of a list that are equally long are one
same_end : (a b x y : List Token) → a ++ x ≡ b ++ y → length x ≡ length y → x ≡ y
same_end [] [] x y e n = e
same_end [] (t ∷ b) x y e n = let l = ap length e in absurd (omega (arith, l, n, length-append b y))
same_end (t ∷ a) [] x y e n = let l = ap length e in absurd (omega (arith, l, n, length-append a x))
same_end (t ∷ a) (u ∷ b) x y e n = let tails : a ++ x ≡ b ++ y = cc in same_end a b x y tails n

-- the first piece of a text that begins with no space isn't one
no_space_first : (rest : List ℕ) (pieces : List Piece) → IsCut rest pieces → first rest ≢ Some 32
    → IfSome (first pieces) (λ (p : Piece). p.1 ≢ None)
no_space_first rest [] cut n = tt
no_space_first rest (p ∷ ps) (r, spelled, is, more) n =
    λ e. n (ap first (spelled ∙ ap (λ l. l ++ r) (no_token_is_space p.0 r p.1 is e)))

-- where the rest begins with no space, it stands at its tokens
pub walk_stands : (text rest : List ℕ) (front left : List Token) → Walks text rest → first rest ≢ Some 32
    → tokens_of text ≡ front ++ left → length left ≡ length (tokens_of rest)
    → StandsAt text (length text - length rest) left
walk_stands text rest front left w n e same =
    let h = has_tokens rest in
    let cut = w.cuts h.0 h.1 in
    let pieces = filter_map-append (λ (p : Piece). p.1) w.before h.0 in
    let all : tokens_of text ≡ filter_map (λ (p : Piece). p.1) w.before ++ tokens_of rest =
    sym (tokens_are text _ (w.before ++ h.0, cut, refl)) ∙ pieces ∙ ap (λ l. filter_map (λ (p : Piece). p.1) w.before ++ l) (sym h.2) in
    let l = ap length w.bytes in
    record {
      before = w.before;
      after = h.0;
      cut = cut;
      byte_is = omega (arith, l, length-append (flat_map (λ (p : Piece). p.0) w.before) rest);
      no_space = no_space_first rest h.0 h.1 n;
      tokens_are = same_end front _ left (tokens_of rest) (sym e ∙ all) same ∙ h.2;
    }

-- what is absent isn't present
none_is_not_some : {A : Type 0} {x : A} → None ≢ Some x
none_is_not_some e = cc

-- the empty text begins with no space
no_first : (rest : List ℕ) → rest ≡ [] → first rest ≢ Some 32
no_first [] none e = none_is_not_some e
no_first (b ∷ bs) none e = cc

-- at the end of the text no tokens are left
pub walk_ends : (text rest : List ℕ) (count : ℕ) (front left : List Token) → Walks text rest → rest ≡ []
    → (count ≤ length (tokens_of text) → count ≤ length (tokens_of rest))
    → tokens_of text ≡ front ++ left → length left ≡ count → StandsAt text (length text - length rest) left
walk_ends text rest count front left w none enough e n =
    let l = ap length e in
    let few : count ≤ length (tokens_of text) = omega (arith, l, n, length-append front left) in
    let nothing : length (tokens_of rest) ≡ 0 = ap length (no_bytes_left rest none) in
    let small : count ≤ length (tokens_of rest) = enough few in
    walk_stands text rest front left w (no_first rest none) e (omega (arith, n, small, nothing))

-- ---- one byte

-- tokens of pieces
abbrev tokens_in : List Piece → List Token
tokens_in ps = filter_map (λ p. p.1) ps

-- with a token in front, and others between, there are more tokens
more_tokens : (p : Piece) (ps b c : List Piece) → b ≡ p ∷ (ps ++ c) → IfSome (first b) (λ (p : Piece). p.1 ≢ None)
    → length (tokens_in b) ≡ length (tokens_in c) → ⊥
more_tokens (piece, None) ps b c e n l =
    let h = subst (λ l. IfSome (first l) (λ (p : Piece). p.1 ≢ None)) e n in h refl
more_tokens (piece, Some t) ps b c e n l =
    let all = ap (λ l. length (tokens_in l)) e in
    let parts = ap length (filter_map-append (λ (p : Piece). p.1) ps c) in
    omega (arith, all, parts, l, length-append (tokens_in ps) (tokens_in c))

-- the pieces before equally many tokens are the same
same_before : (a b c d : List Piece) → a ++ b ≡ c ++ d → IfSome (first b) (λ (p : Piece). p.1 ≢ None)
    → IfSome (first d) (λ (p : Piece). p.1 ≢ None) → length (tokens_in b) ≡ length (tokens_in d) → a ≡ c
same_before [] b [] d e n m l = refl
same_before [] b (p ∷ ps) d e n m l = absurd (more_tokens p ps b d e n l)
same_before (p ∷ ps) b [] d e n m l = absurd (more_tokens p ps d b (sym e) m (sym l))
same_before (p ∷ ps) b (q ∷ qs) d e n m l =
    let heads : p ≡ q = cc in
    let tails : ps ++ b ≡ qs ++ d = cc in
    λ i. heads i ∷ same_before ps b qs d tails n m l i

-- tokens stand at one byte of a text
pub one_byte : (text : List ℕ) (a b : ℕ) (left : List Token) → StandsAt text a left → StandsAt text b left → a ≡ b
one_byte text a b left h k =
    let same = same_before h.before h.after k.before k.after (one_cut text _ _ h.cut k.cut) h.no_space k.no_space
    (ap length (sym h.tokens_are ∙ k.tokens_are)) in
    h.byte_is ∙ ap (λ ps. length (flat_map (λ (p : Piece). p.0) ps)) same ∙ sym k.byte_is
