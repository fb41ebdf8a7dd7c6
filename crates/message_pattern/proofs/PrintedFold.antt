-- The text that parts are printed as is the text of the parts, one after the other.
use Rattle.std.proofs.Common.{◌≡◌, ℕ, List, [], ◌∷◌, ◌++◌, Bool, false, ◌||◌, Result, Ok, Err, IfOk, refl, sym, ap, subst, ◌∙◌, append_assoc}
use Rattle.std.proofs.lemmas.List.{append-nil}
use Rattle.message_pattern.specs.declared.head.Formats.{Formats}
use Rattle.message_pattern.specs.declared.print.Spot.TheVariants.{Message, Branches}
use Rattle.message_pattern.specs.declared.text.Context.{Context}
use Rattle.message_pattern.specs.declared.text.Context.TheVariants.{Whole}
use Rattle.pattern_bytes.specs.PatternBytes.{hash, comma, opening, closing}
use Rattle.message_pattern.specs.PatternText.{is_quotable}
use Rattle.message_pattern.specs.PatternParts.{Part, Branch}
use Rattle.message_pattern.specs.PatternReading.{PatternPlace, InMessage, InArgument, InBranches, one, context_of}
use Rattle.message_pattern.specs.PatternPrinting.{letters, spelled, SayTheSame, end_of_quote, byte_text, text_text, quoted_behind, kind_text, offset_text, selector_text, IsPrinted, message_ends, message_text, message_hash, message_argument, none_arg, complex_arg, style_branch, style_ends, PrintsAs, PrintsBackExactly, IsReadAlike}
use Rattle.message_pattern.specs.Inner.PatternFold.{fold}
use Rattle.message_pattern.proofs.Spelled.{spelled-append}
use Rattle.message_pattern.proofs.PrintsBack.{prints_back}

-- behind the parts of a place, the text goes on with z
abbrev Folds : PatternPlace → List Part → List ℕ → Type 0
Folds (InMessage c d q) parts text =
    (outer : List Context) (tail : List Part) (z : List ℕ) → ((k : Bool) → fold c outer (Message k) tail ≡ end_of_quote k ++ z)
    → fold c outer (Message q) (parts ++ tail) ≡ text ++ z
Folds (InArgument d) parts text =
    (c : Context) (q : Bool) (outer : List Context) (tail : List Part)
    → fold c outer (Message q) (parts ++ tail) ≡ end_of_quote q ++ opening ∷ (text ++ fold c outer (Message false) tail)
Folds (InBranches kind d o) parts text =
    (c : Context) (outer : List Context) (tail : List Part)
    → (fold (context_of kind) (c ∷ outer) Branches (parts ++ tail) ≡ text ++ fold c outer (Message false) tail)
    × ((k : Bool) → fold (context_of kind) (c ∷ outer) (Message k) (parts ++ tail)
    ≡ end_of_quote k ++ closing ∷ (text ++ fold c outer (Message false) tail))

regrouped : (a b c : List ℕ) → a ++ (b ++ c) ≡ (a ++ b) ++ c
regrouped a b c = sym (append_assoc a b c)

parts_grouped : (a b c : List Part) → (a ++ b) ++ c ≡ a ++ (b ++ c)
parts_grouped a b c = append_assoc a b c

hash_grouped : (e text z : List ℕ) → (e ++ hash ∷ []) ++ (text ++ z) ≡ (e ++ hash ∷ text) ++ z
hash_grouped e text z = simp append_assoc

argument_grouped : (e argument text z : List ℕ) → e ++ opening ∷ (argument ++ (text ++ z)) ≡ (e ++ opening ∷ (argument ++ text)) ++ z
argument_grouped e argument text z = simp append_assoc

none_grouped : (e name t : List ℕ) → (e ++ opening ∷ (name ++ closing ∷ [])) ++ t ≡ e ++ opening ∷ ((name ++ closing ∷ []) ++ t)
none_grouped e name t = simp append_assoc

head_grouped : (e name kind offset text t : List ℕ)
    → (e ++ opening ∷ (name ++ comma ∷ (kind ++ offset))) ++ (text ++ t)
    ≡ e ++ opening ∷ ((name ++ comma ∷ (kind ++ (offset ++ text))) ++ t)
head_grouped e name kind offset text t = simp append_assoc

branch_grouped : (sel message text t : List ℕ)
    → (32 ∷ (sel ++ 32 ∷ opening ∷ [])) ++ (message ++ closing ∷ (text ++ t))
    ≡ (32 ∷ (sel ++ 32 ∷ opening ∷ (message ++ closing ∷ text))) ++ t
branch_grouped sel message text t = simp append_assoc

branch_behind : (e sel message text t : List ℕ)
    → ((e ++ closing ∷ []) ++ 32 ∷ (sel ++ 32 ∷ opening ∷ [])) ++ (message ++ closing ∷ (text ++ t))
    ≡ e ++ closing ∷ ((32 ∷ (sel ++ 32 ∷ opening ∷ (message ++ closing ∷ text))) ++ t)
branch_behind e sel message text t = simp append_assoc

end_grouped : (e t : List ℕ) → ((e ++ closing ∷ []) ++ closing ∷ []) ++ t ≡ e ++ closing ∷ ((closing ∷ []) ++ t)
end_grouped e t = simp append_assoc

folds : {place : PatternPlace} {parts : List Part} {text : List ℕ} → IsPrinted place parts text → Folds place parts text
folds (message_ends c d q) = λ outer tail z f. f q
folds (message_text c d q s text more h) = λ outer tail z f.
    ap (λ (u : List ℕ). text_text c q s ++ u) (folds h outer tail z f) ∙ regrouped (text_text c q s) text z
folds (message_hash c d q text more h) = λ outer tail z f.
    ap (λ (u : List ℕ). (end_of_quote q ++ hash ∷ []) ++ u) (folds h outer tail z f) ∙ hash_grouped (end_of_quote q) text z
folds (message_argument c d q argument text inner more h k) = λ outer tail z f.
    ap (λ (l : List Part). fold c outer (Message q) l) (parts_grouped inner more tail)
    ∙ (folds h c q outer (more ++ tail)
    ∙ (ap (λ (u : List ℕ). end_of_quote q ++ opening ∷ (argument ++ u)) (folds k outer tail z f)
    ∙ argument_grouped (end_of_quote q) argument text z))
folds (none_arg d name) = λ c q outer tail. none_grouped (end_of_quote q) name (fold c outer (Message false) tail)
folds (complex_arg d kind name offset text more h) = λ c q outer tail.
    ap (λ (u : List ℕ). (end_of_quote q ++ opening ∷ (name ++ comma ∷ (kind_text kind ++ offset_text offset))) ++ u)
    (folds h c outer tail).0
    ∙ head_grouped (end_of_quote q) name (kind_text kind) (offset_text offset) text (fold c outer (Message false) tail)
folds (style_branch d kind other sel message text inner more h k) = λ c outer tail.
    let t = fold c outer (Message false) tail in
    let inside : fold (context_of kind) (c ∷ outer) (Message false) ((inner ++ more) ++ tail) ≡ message ++ closing ∷ (text ++ t) =
    ap (λ (l : List Part). fold (context_of kind) (c ∷ outer) (Message false) l) (parts_grouped inner more tail)
    ∙ folds h (c ∷ outer) (more ++ tail) (closing ∷ (text ++ t)) (folds k c outer tail).1 in (
      ap (λ (u : List ℕ). (32 ∷ (selector_text sel ++ 32 ∷ opening ∷ [])) ++ u) inside ∙ branch_grouped (selector_text sel) message text t,
      λ q. ap (λ (u : List ℕ). ((end_of_quote q ++ closing ∷ []) ++ 32 ∷ (selector_text sel ++ 32 ∷ opening ∷ [])) ++ u) inside
          ∙ branch_behind (end_of_quote q) (selector_text sel) message text t,
    )
folds (style_ends d kind) = λ c outer tail. (refl, λ q. end_grouped (end_of_quote q) (fold c outer (Message false) tail))

-- the text of the parts of a pattern
abbrev pub whole_text : List Part → List ℕ
whole_text parts = fold Whole [] (Message false) parts

pub printed_whole : (parts : List Part) (text : List ℕ) → PrintsAs parts text → whole_text parts ≡ text
printed_whole parts text h =
    ap (λ (l : List Part). whole_text l) (sym (append-nil parts))
    ∙ (folds h [] [] [] (λ k. sym (append-nil (end_of_quote k))) ∙ append-nil text)

read_alike : {formats : Formats} (parts : List Part) (s t : List ℕ) → s ≡ t → IsReadAlike formats t parts → IsReadAlike formats s parts
read_alike {formats = formats} parts s t e h = subst (λ (u : List ℕ). IsReadAlike formats u parts) (sym e) h

-- the whole text is exactly what the parts are printed as
pub prints_exactly : {formats : Formats} (parts : List Part) (text : List ℕ) → text ≡ whole_text parts
    → PrintsBackExactly formats parts text
prints_exactly parts text e = record {
  only = λ t h. e ∙ printed_whole parts t h;
  printed = λ source h.
      let b = prints_back source parts h in
      subst (λ (u : List ℕ). PrintsAs parts u) (sym (e ∙ printed_whole parts b.0 b.1)) b.1;
  read_back = λ source h.
      let b = prints_back source parts h in
      read_alike parts text b.0 (e ∙ printed_whole parts b.0 b.1) b.2;
}

pub ok_exactly : (formats : Formats) {A E : Type 0} (view : A → List ℕ) (parts : List Part) (r : Result A E)
    → IfOk r (λ x. view x ≡ whole_text parts)
    → IfOk r (λ x. PrintsBackExactly formats parts (view x))
ok_exactly formats view parts (Ok x) h = prints_exactly parts (view x) h
ok_exactly formats view parts (Err e) h = h

-- ---- parts that say the same

letter_grouped : (a b c : List ℕ) → (a ++ []) ++ (b ++ c) ≡ (a ++ b) ++ c
letter_grouped a b c = ap (λ (u : List ℕ). u ++ (b ++ c)) (append-nil a) ∙ regrouped a b c

letters_printed : (c : Context) (d : ℕ) (q : Bool) (s text : List ℕ) (more : List Part)
    → IsPrinted (InMessage c d (quoted_behind c q s)) more text
    → IsPrinted (InMessage c d q) (letters d s ++ more) (text_text c q s ++ text)
letters_printed c d q [] text more h = h
letters_printed c d q (b ∷ s) text more h =
    let o = q || is_quotable c b in
    subst (λ (u : List ℕ). IsPrinted (InMessage c d q) (letters d (b ∷ s) ++ more) u)
    (letter_grouped (byte_text c q b) (text_text c o s) text)
    (message_text c d q (b ∷ []) (text_text c o s ++ text) (letters d s ++ more) (letters_printed c d o s text more h))

-- what is printed is printed so, byte by byte
spelled_printed : {place : PatternPlace} {parts : List Part} {text : List ℕ} → IsPrinted place parts text
    → IsPrinted place (spelled parts) text
spelled_printed (message_ends c d q) = message_ends c d q
spelled_printed (message_text c d q s text more h) = letters_printed c d q s text (spelled more) (spelled_printed h)
spelled_printed (message_hash c d q text more h) = message_hash c d q text (spelled more) (spelled_printed h)
spelled_printed (message_argument c d q argument text inner more h k) =
    subst (λ (l : List Part). IsPrinted (InMessage c d q) l (end_of_quote q ++ opening ∷ (argument ++ text)))
    (sym (spelled-append inner more))
    (message_argument c d q argument text (spelled inner) (spelled more) (spelled_printed h) (spelled_printed k))
spelled_printed (none_arg d name) = none_arg d name
spelled_printed (complex_arg d kind name offset text more h) = complex_arg d kind name offset text (spelled more) (spelled_printed h)
spelled_printed (style_branch d kind other sel message text inner more h k) =
    subst (λ (l : List Part). IsPrinted (InBranches kind d other) (one d (Branch sel) ++ l)
    (32 ∷ (selector_text sel ++ 32 ∷ opening ∷ (message ++ closing ∷ text)))) (sym (spelled-append inner more))
    (style_branch d kind other sel message text (spelled inner) (spelled more) (spelled_printed h) (spelled_printed k))
spelled_printed (style_ends d kind) = style_ends d kind

-- parts that say the same have one printed text
pub one_text : (a b : List Part) (s t : List ℕ) → SayTheSame a b → PrintsAs a s → PrintsAs b t → s ≡ t
one_text a b s t e h k =
    sym (printed_whole (spelled a) s (spelled_printed h))
    ∙ (ap (λ (l : List Part). whole_text l) e ∙ printed_whole (spelled b) t (spelled_printed k))
