-- The parts of a pattern have a printed text, which is read as a pattern that says the same.
use Rattle.std.proofs.Common.{◌≡◌, ◌⊎◌, ◌+◌, ◌<◌, ◌==◌, ℕ, List, [], ◌∷◌, ◌++◌, Bool, true, false, ◌&&◌, ◌||◌, Option, Some, None, inl, inr, refl, sym, ap, subst, ◌∙◌, append_assoc, if◌then◌else◌}
use Rattle.std.proofs.lemmas.List.{append-nil, map-append}
use Rattle.message_pattern.specs.declared.head.Formats.{Formats}
use Rattle.message_pattern.specs.declared.head.Formats.TheVariants.{Refused, Allowed}
use Rattle.message_pattern.specs.declared.part.ArgumentKind.{ArgumentKind}
use Rattle.message_pattern.specs.declared.part.ArgumentKind.TheVariants.{Plural, Ordinal, Select}
use Rattle.message_pattern.specs.declared.reader.TheConstants.{DEPTH_LIMIT}
use Rattle.message_pattern.specs.declared.text.Context.{Context}
use Rattle.message_pattern.specs.declared.text.Context.TheVariants.{Whole}
use Rattle.pattern_bytes.specs.PatternBytes.{apostrophe, hash, comma, opening, closing, class_front, behind_run, after_white}
use Rattle.pattern_bytes.specs.declared.bytes.Class.TheVariants as class
use Rattle.message_pattern.specs.PatternText.{Front, Closes, Opens, Takes, takes_text, message_front, is_nested, is_counted, is_quotable, apostrophe_front, quoted_apostrophe}
use Rattle.message_pattern.specs.PatternParts.{Part, PatternPiece, Text, Hash, Argument, Begin, Branch, Selector}
use Rattle.message_pattern.specs.PatternParts as piece
use Rattle.message_pattern.specs.PatternHeads.{is_other}
use Rattle.message_pattern.specs.PatternReading.{PatternPlace, InMessage, InArgument, InBranches, one, at_most_one, context_of}
use Rattle.message_pattern.specs.PatternGrammar.{IsSimpleText, IsReadAt, IsSelector, IsOffset, IsNameOrNumber, message_ends, message_closes, message_text, message_argument, none_arg, simple_arg, complex_arg, style_branch, style_ends}
use Rattle.message_pattern.specs.PatternPrinting.{letters, spelled, end_of_quote, text_text, quoted_behind, kind_text, offset_text, selector_text, IsPrinted, PrintsAs, IsReadAlike}
use Rattle.message_pattern.specs.PatternPrinting as prints
use Rattle.message_pattern.specs.PatternAnswers.{IsTextOf}
use Rattle.message_pattern.specs.StyledParts.{argument_name_of, unstyled_part, unstyled, UnstyledPrintsBack}
use Rattle.pattern_bytes.specs.declared.bytes.Class.TheVariants.{Name}
use Rattle.message_pattern.proofs.Longest.{longest_run}
use Rattle.message_pattern.proofs.BeforeBrace.{name_alone}
use Rattle.message_pattern.proofs.Spelled.{spelled-append}
use Rattle.message_pattern.proofs.TextBack.{IsReadAs, quotes, text_back, quote_back}
use Rattle.message_pattern.proofs.SimpleHeads.{simple_first}
use Rattle.message_pattern.proofs.HeadsBack.{NoOffset, comma_ends, closing_ends, comma_stays, closing_stays, white_again, name_back, type_back, offset_back, selector_back, selector_no_offset, closing_no_offset, brace_back}

-- ---- the pieces of messages

-- a piece of a message is a text or `#` where it is the number
abbrev IsMessagePiece : Context → Front → Type 0
IsMessagePiece c (Takes (Some (Text s)) q t) = Unit {0}
IsMessagePiece c (Takes (Some Hash) q t) = is_counted c ≡ true
IsMessagePiece c (Takes (Some p) q t) = ⊥
IsMessagePiece c f = Unit {0}

chosen : (c : Context) (v : Bool) (f g : Front) → IsMessagePiece c f → IsMessagePiece c g → IsMessagePiece c (if v then f else g)
chosen c true f g h k = h
chosen c false f g h k = k

hash_chosen : (c : Context) (h n : Bool) (s : List ℕ) (g : Front) → is_counted c ≡ n → IsMessagePiece c g
    → IsMessagePiece c (if h && n then Takes (Some Hash) false s else g)
hash_chosen c true true s g e k = e
hash_chosen c true false s g e k = k
hash_chosen c false n s g e k = k

apostrophe_piece : (c : Context) (s : List ℕ) → IsMessagePiece c (apostrophe_front c s)
apostrophe_piece c [] = tt
apostrophe_piece c (b ∷ s) =
    chosen c (b == apostrophe) (takes_text (apostrophe ∷ []) false s)
    (if is_quotable c b then Takes None true (b ∷ s) else takes_text (apostrophe ∷ []) false (b ∷ s)) tt
    (chosen c (is_quotable c b) (Takes None true (b ∷ s)) (takes_text (apostrophe ∷ []) false (b ∷ s)) tt tt)

quoted_piece : (c : Context) (s : List ℕ) → IsMessagePiece c (quoted_apostrophe s)
quoted_piece c [] = tt
quoted_piece c (b ∷ s) = chosen c (b == apostrophe) (takes_text (apostrophe ∷ []) true s) (Takes None false (b ∷ s)) tt tt

front_piece : (c : Context) (q : Bool) (s : List ℕ) → IsMessagePiece c (message_front c q s)
front_piece c true [] = tt
front_piece c false [] = tt
front_piece c true (b ∷ s) =
    chosen c (b == apostrophe) (quoted_apostrophe s)
    (takes_text (class_front class.Unquoted (b ∷ s)) true (behind_run class.Unquoted (b ∷ s))) (quoted_piece c s) tt
front_piece c false (b ∷ s) =
    let last : Front = takes_text (class_front class.Plain (b ∷ s)) false (behind_run class.Plain (b ∷ s)) in
    let alone : Front = if b == closing || b == hash then takes_text (b ∷ []) false s else last in
    let number : Front = if b == hash && is_counted c then Takes (Some Hash) false s else alone in
    let closes : Front = if b == closing && is_nested c then Closes s else number in
    chosen c (b == apostrophe) (apostrophe_front c s) (if b == opening then Opens s else closes) (apostrophe_piece c s)
    (chosen c (b == opening) (Opens s) closes tt
    (chosen c (b == closing && is_nested c) (Closes s) number tt
    (hash_chosen c (b == hash) (is_counted c) s alone refl
    (chosen c (b == closing || b == hash) (takes_text (b ∷ []) false s) last tt tt))))

piece_is : (c : Context) (q r : Bool) (s t : List ℕ) (p : Option PatternPiece) → message_front c q s ≡ Takes p r t → IsMessagePiece c (Takes p r t)
piece_is c q r s t p e = subst (λ (f : Front). IsMessagePiece c f) e (front_piece c q s)

-- ---- what follows a message

-- the text ends, or the branch does
abbrev Stops : Context → List ℕ → List ℕ → Type 0
Stops c t rest = ((is_nested c ≡ false) × (t ≡ []) × (rest ≡ [])) ⊎ ((is_nested c ≡ true) × (t ≡ closing ∷ rest))

stop_quotes : (c : Context) (t rest : List ℕ) → Stops c t rest → quotes t ≡ false
stop_quotes c t rest (inl h) = ap quotes h.1
stop_quotes c t rest (inr h) = ap quotes h.1

closes_front : (c : Context) (s : List ℕ) → is_nested c ≡ true → message_front c false (closing ∷ s) ≡ Closes s
closes_front c s e = ap (λ (v : Bool). if v then Closes s else takes_text (closing ∷ []) false s) e

stop_read : {formats : Formats} (c : Context) (d : ℕ) (t rest : List ℕ) → Stops c t rest → IsReadAs formats (InMessage c d false) t [] rest
stop_read {formats = formats} c d t rest (inl h) =
    subst (λ (u : List ℕ). IsReadAs formats (InMessage c d false) u [] rest) (sym h.1)
    (subst (λ (u : List ℕ). IsReadAs formats (InMessage c d false) [] [] u) (sym h.2) ([], message_ends c d false [] refl h.0, refl))
stop_read {formats = formats} c d t rest (inr h) =
    subst (λ (u : List ℕ). IsReadAs formats (InMessage c d false) u [] rest) (sym h.1)
    ([], message_closes c d false (closing ∷ rest) rest (closes_front c rest h.0), refl)

-- ---- reading back

-- a text that parts are printed as is read as parts that say the same
abbrev MessageBack : Formats → Context → ℕ → Bool → List Part → Type 0
MessageBack formats c d q parts =
    (t rest : List ℕ) → Stops c t rest
    → (text : List ℕ) × IsPrinted (InMessage c d q) parts text × IsReadAs formats (InMessage c d q) (text ++ t) (spelled parts) rest

abbrev IsBack : Formats → PatternPlace → List Part → Type 0
IsBack formats (InMessage c d q) parts = (k : Bool) → MessageBack formats c d k parts
IsBack formats (InArgument d) parts =
    (rest : List ℕ) → (text : List ℕ) × IsPrinted (InArgument d) parts text
    × IsReadAs formats (InArgument d) (text ++ rest) (spelled parts) rest
IsBack formats (InBranches kind d o) parts =
    (rest : List ℕ) → (text : List ℕ) × IsPrinted (InBranches kind d o) parts text
    × IsReadAs formats (InBranches kind d o) (text ++ rest) (spelled parts) rest × NoOffset (text ++ rest)

ends_back : {formats : Formats} (c : Context) (d : ℕ) (k : Bool) → MessageBack formats c d k []
ends_back c d k t rest e =
    (end_of_quote k, prints.message_ends c d k, quote_back c d k t [] rest (stop_quotes c t rest e) (stop_read c d t rest e))

text_part : {formats : Formats} (c : Context) (d : ℕ) (k : Bool) (s : List ℕ) (more : List Part)
    → MessageBack formats c d (quoted_behind c k s) more → MessageBack formats c d k (one d (Text s) ++ more)
text_part {formats = formats} c d k s more h t rest e =
    let m = h t rest e in (
      text_text c k s ++ m.0,
      prints.message_text c d k s m.0 more m.1,
      subst (λ (u : List ℕ). IsReadAs formats (InMessage c d k) u (letters d s ++ spelled more) rest)
          (sym (append_assoc (text_text c k s) m.0 t))
          (text_back c d k s (m.0 ++ t) (spelled more) rest m.2),
    )

hash_front : (c : Context) (s : List ℕ) → is_counted c ≡ true → message_front c false (hash ∷ s) ≡ Takes (Some Hash) false s
hash_front c s e = ap (λ (v : Bool). if v then Takes (Some Hash) false s else takes_text (hash ∷ []) false s) e

hash_part : {formats : Formats} (c : Context) (d : ℕ) (k : Bool) (more : List Part) → is_counted c ≡ true
    → MessageBack formats c d false more → MessageBack formats c d k (one d Hash ++ more)
hash_part {formats = formats} c d k more n h t rest e =
    let m = h t rest e in (
      end_of_quote k ++ hash ∷ m.0,
      prints.message_hash c d k m.0 more m.1,
      subst (λ (u : List ℕ). IsReadAs formats (InMessage c d k) u (one d Hash ++ spelled more) rest)
          (sym (append_assoc (end_of_quote k) (hash ∷ m.0) t))
          (quote_back c d k (hash ∷ (m.0 ++ t)) (one d Hash ++ spelled more) rest refl (
            one d Hash ++ m.2.0,
            message_text c d false false (hash ∷ (m.0 ++ t)) (m.0 ++ t) rest (Some Hash) m.2.0
                (hash_front c (m.0 ++ t) n) m.2.1,
            ap (λ (l : List Part). one d Hash ++ l) m.2.2,
          )),
    )

pieces_back : {formats : Formats} (c : Context) (d : ℕ) (p : Option PatternPiece) (r : Bool) (t : List ℕ) (more : List Part)
    → IsMessagePiece c (Takes p r t)
    → ((k : Bool) → MessageBack formats c d k more) → (k : Bool) → MessageBack formats c d k (at_most_one d p ++ more)
pieces_back c d None r t more e h k = h k
pieces_back c d (Some (Text s)) r t more e h k = text_part c d k s more (h (quoted_behind c k s))
pieces_back c d (Some Hash) r t more e h k = hash_part c d k more e (h false)
pieces_back c d (Some (Argument name)) r t more e h k = absurd e
pieces_back c d (Some (Begin kind name offset)) r t more e h k = absurd e
pieces_back c d (Some (Branch sel)) r t more e h k = absurd e
pieces_back c d (Some piece.End) r t more e h k = absurd e

argument_part : {formats : Formats} (c : Context) (d : ℕ) (k : Bool) (inner more : List Part) → IsBack formats (InArgument d) inner
    → MessageBack formats c d false more → MessageBack formats c d k (inner ++ more)
argument_part {formats = formats} c d k inner more a h t rest e =
    let m = h t rest e in
    let i = a (m.0 ++ t) in
    let whole : (end_of_quote k ++ opening ∷ (i.0 ++ m.0)) ++ t ≡ end_of_quote k ++ opening ∷ (i.0 ++ (m.0 ++ t)) =
    append_assoc (end_of_quote k) (opening ∷ (i.0 ++ m.0)) t
    ∙ ap (λ (u : List ℕ). end_of_quote k ++ opening ∷ u) (append_assoc i.0 m.0 t) in (
      end_of_quote k ++ opening ∷ (i.0 ++ m.0),
      prints.message_argument c d k i.0 m.0 inner more i.1 m.1,
      subst (λ (u : List ℕ). IsReadAs formats (InMessage c d k) u (spelled (inner ++ more)) rest) (sym whole)
          (quote_back c d k (opening ∷ (i.0 ++ (m.0 ++ t))) (spelled (inner ++ more)) rest refl (
            i.2.0 ++ m.2.0,
            message_argument c d false (opening ∷ (i.0 ++ (m.0 ++ t))) (i.0 ++ (m.0 ++ t)) (m.0 ++ t) rest i.2.0 m.2.0 refl i.2.1 m.2.1,
            spelled-append i.2.0 m.2.0
                ∙ (ap (λ (l : List Part). l ++ spelled m.2.0) i.2.2
                ∙ (ap (λ (l : List Part). spelled inner ++ l) m.2.2 ∙ sym (spelled-append inner more))),
          )),
    )

none_back : {formats : Formats} (d : ℕ) (s name t : List ℕ) → IsNameOrNumber s name t
    → IsBack formats (InArgument d) (one d (Argument name))
none_back {formats = formats} d s name t h rest = (
  name ++ closing ∷ [],
  prints.none_arg d name,
  subst (λ (u : List ℕ). IsReadAs formats (InArgument d) u (one d (Argument name)) rest) (sym (append_assoc name (closing ∷ []) rest)) (
    one d (Argument name),
    none_arg d (name ++ closing ∷ rest) name (closing ∷ rest) rest
        (name_back closing s name t rest closing_ends h) (closing_stays rest),
    refl,
  ),
)

simple_back : {formats : Formats} (d : ℕ) (text name word : List ℕ) (style : Option (List ℕ)) → formats ≡ Allowed
    → IsSimpleText text name word style
    → IsBack formats (InArgument d) (one d (Argument text))
simple_back {formats = formats} d text name word style a h rest = (
  text ++ closing ∷ [],
  prints.none_arg d text,
  subst (λ (u : List ℕ). IsReadAs formats (InArgument d) u (one d (Argument text)) rest) (sym (append_assoc text (closing ∷ []) rest)) (
    one d (Argument text),
    simple_arg d (text ++ closing ∷ rest) text name word rest style a
        (simple_first text name word style rest h) h,
    refl,
  ),
)

-- white space before a branch may be passed first
abbrev FromWhite : Formats → PatternPlace → List ℕ → List Part → List ℕ → Type 0
FromWhite formats (InMessage c d q) s parts rest = Unit {0}
FromWhite formats (InArgument d) s parts rest = Unit {0}
FromWhite formats (InBranches kind d o) s parts rest = IsReadAt formats (InBranches kind d o) (after_white s) parts rest

from_white : {formats : Formats} {place : PatternPlace} {s rest : List ℕ} {parts : List Part} → IsReadAt formats place s parts rest
    → FromWhite formats place s parts rest
from_white (message_ends c d q s e w) = tt
from_white (message_closes c d q s rest e) = tt
from_white (message_text c d q r s t rest p more e h) = tt
from_white (message_argument c d q s t u rest inner more e h k) = tt
from_white (none_arg d s name t rest i e) = tt
from_white (simple_arg d s text name word rest style a w h) = tt
from_white (complex_arg d kind offset s name t u v w x rest more i e j f o h) = tt
from_white (style_branch d kind other sel s t u v rest inner more i e room h k) =
    style_branch d kind other sel (after_white s) t u v rest inner more
    (subst (λ (l : List ℕ). IsSelector kind l sel t) (sym (white_again s)) i) e room h k
from_white (style_ends d kind s rest e) = style_ends d kind (after_white s) rest (white_again s ∙ e)

offset_then : {formats : Formats} (kind : ArgumentKind) (d : ℕ) (s x rest : List ℕ) (parts : List Part) → (x ≡ s) ⊎ (x ≡ after_white s)
    → IsReadAt formats (InBranches kind d false) s parts rest
    → IsReadAt formats (InBranches kind d false) x parts rest
offset_then {formats = formats} kind d s x rest parts (inl e) h =
    subst (λ (u : List ℕ). IsReadAt formats (InBranches kind d false) u parts rest) (sym e) h
offset_then {formats = formats} kind d s x rest parts (inr e) h =
    subst (λ (u : List ℕ). IsReadAt formats (InBranches kind d false) u parts rest) (sym e) (from_white h)

-- the text of a head, and what follows
head_grouped : (name kind offset text rest : List ℕ)
    → (name ++ comma ∷ (kind ++ (offset ++ text))) ++ rest ≡ name ++ comma ∷ (kind ++ (offset ++ (text ++ rest)))
head_grouped name kind offset text rest = simp append_assoc

complex_back : {formats : Formats} (d : ℕ) (kind : ArgumentKind) (offset : Option (List ℕ)) (s name t w x : List ℕ) (more : List Part)
    → IsNameOrNumber s name t → IsOffset kind w offset x
    → IsBack formats (InBranches kind d false) more → IsBack formats (InArgument d) (one d (Begin kind name offset) ++ more)
complex_back {formats = formats} d kind offset s name t w x more i o h rest =
    let m = h rest in
    let n = m.0 ++ rest in
    let b = type_back kind (offset_text offset ++ n) in
    let y = offset_back kind w offset x n m.3 o in (
      name ++ comma ∷ (kind_text kind ++ (offset_text offset ++ m.0)),
      prints.complex_arg d kind name offset m.0 more m.1,
      subst (λ (u : List ℕ). IsReadAs formats (InArgument d) u (one d (Begin kind name offset) ++ spelled more) rest)
          (sym (head_grouped name (kind_text kind) (offset_text offset) m.0 rest)) (
            one d (Begin kind name offset) ++ m.2.0,
            complex_arg d kind offset (name ++ comma ∷ (kind_text kind ++ (offset_text offset ++ n))) name
                (comma ∷ (kind_text kind ++ (offset_text offset ++ n))) (kind_text kind ++ (offset_text offset ++ n)) b.rest
                (offset_text offset ++ n) y.0 rest m.2.0
                (name_back comma s name t (kind_text kind ++ (offset_text offset ++ n)) comma_ends i)
                (comma_stays (kind_text kind ++ (offset_text offset ++ n))) b.there b.comma_there y.1
                (offset_then kind d n y.0 rest m.2.0 y.2 m.2.1),
            ap (λ (l : List Part). one d (Begin kind name offset) ++ l) m.2.2,
          ),
    )

is_branch : (kind : ArgumentKind) → is_nested (context_of kind) ≡ true
is_branch Plural = refl
is_branch Ordinal = refl
is_branch Select = refl

branch_grouped : (sel message text rest : List ℕ)
    → (32 ∷ (sel ++ 32 ∷ opening ∷ (message ++ closing ∷ text))) ++ rest
    ≡ 32 ∷ (sel ++ 32 ∷ opening ∷ (message ++ closing ∷ (text ++ rest)))
branch_grouped sel message text rest = simp append_assoc

branch_part : {formats : Formats} (d : ℕ) (kind : ArgumentKind) (other : Bool) (sel : Selector) (s t : List ℕ) (inner more : List Part)
    → IsSelector kind s sel t → d < DEPTH_LIMIT
    → MessageBack formats (context_of kind) (d + 1) false inner → IsBack formats (InBranches kind d (other || is_other sel)) more
    → IsBack formats (InBranches kind d other) (one d (Branch sel) ++ (inner ++ more))
branch_part {formats = formats} d kind other sel s t inner more i room h k rest =
    let m = k rest in
    let n = m.0 ++ rest in
    let b = h (closing ∷ n) n (inr (is_branch kind, refl)) in
    let z = b.0 ++ closing ∷ n in
    let grouped = branch_grouped (selector_text sel) b.0 m.0 rest in (
      32 ∷ (selector_text sel ++ 32 ∷ opening ∷ (b.0 ++ closing ∷ m.0)),
      prints.style_branch d kind other sel b.0 m.0 inner more b.1 m.1,
      subst (λ (u : List ℕ). IsReadAs formats (InBranches kind d other) u (one d (Branch sel) ++ spelled (inner ++ more)) rest)
          (sym grouped) (
            one d (Branch sel) ++ (b.2.0 ++ m.2.0),
            style_branch d kind other sel (32 ∷ (selector_text sel ++ 32 ∷ opening ∷ z)) (32 ∷ opening ∷ z) z n rest b.2.0 m.2.0
                (selector_back kind s sel t (opening ∷ z) i) (brace_back z) room b.2.1 m.2.1,
            ap (λ (l : List Part). one d (Branch sel) ++ l)
                (spelled-append b.2.0 m.2.0
                ∙ (ap (λ (l : List Part). l ++ spelled m.2.0) b.2.2
                ∙ (ap (λ (l : List Part). spelled inner ++ l) m.2.2 ∙ sym (spelled-append inner more)))),
          ),
      subst NoOffset (sym grouped) (selector_no_offset kind s sel t (opening ∷ z) i),
    )

style_end : {formats : Formats} (d : ℕ) (kind : ArgumentKind) → IsBack formats (InBranches kind d true) (one d piece.End)
style_end d kind rest = (
  closing ∷ [],
  prints.style_ends d kind,
  (one d piece.End, style_ends d kind (closing ∷ rest) rest (closing_stays rest), refl),
  closing_no_offset rest,
)

back : {formats : Formats} {place : PatternPlace} {s rest : List ℕ} {parts : List Part} → IsReadAt formats place s parts rest
    → IsBack formats place parts
back (message_ends c d q s e w) = λ k. ends_back c d k
back (message_closes c d q s rest e) = λ k. ends_back c d k
back (message_text c d q r s t rest p more e h) = pieces_back c d p r t more (piece_is c q r s t p e) (back h)
back (message_argument c d q s t u rest inner more e h k) = λ j. argument_part c d j inner more (back h) (back k false)
back (none_arg d s name t rest i e) = none_back d (after_white s) name t i
back (simple_arg d s text name word rest style a w h) = simple_back d text name word style a h
back (complex_arg d kind offset s name t u v w x rest more i e j f o h) =
    complex_back d kind offset (after_white s) name t w x more i o (back h)
back (style_branch d kind other sel s t u v rest inner more i e room h k) =
    branch_part d kind other sel (after_white s) t inner more i room (back h false) (back k)
back (style_ends d kind s rest e) = style_end d kind

-- the parts of a pattern are printed as a text that is read back
pub prints_back : {formats : Formats} (source : List ℕ) (parts : List Part) → IsTextOf formats source parts
    → (text : List ℕ) × PrintsAs parts text × IsReadAlike formats text parts
prints_back {formats = formats} source parts h =
    let b = back h false [] [] (inl (refl, refl, refl)) in
    (b.0, b.1, (b.2.0, subst (λ (u : List ℕ). IsReadAt formats (InMessage Whole 0 false) u b.2.0 []) (append-nil b.0) b.2.1, b.2.2))

-- ---- without simple formats

unstyled_piece_is : (c : Context) (d : ℕ) (p : Option PatternPiece) (r : Bool) (t : List ℕ) → IsMessagePiece c (Takes p r t)
    → unstyled (at_most_one d p) ≡ at_most_one d p
unstyled_piece_is c d None r t e = refl
unstyled_piece_is c d (Some (Text s)) r t e = refl
unstyled_piece_is c d (Some Hash) r t e = refl
unstyled_piece_is c d (Some (Argument name)) r t e = absurd e
unstyled_piece_is c d (Some (Begin kind name offset)) r t e = absurd e
unstyled_piece_is c d (Some (Branch sel)) r t e = absurd e
unstyled_piece_is c d (Some piece.End) r t e = absurd e

name_back_as : (d : ℕ) (s name t n : List ℕ) → IsNameOrNumber s name t → n ≡ name → IsBack Refused (InArgument d) (one d (Argument n))
name_back_as d s name t n h e = subst (λ (l : List ℕ). IsBack Refused (InArgument d) (one d (Argument l))) (sym e) (none_back d s name t h)

unstyled_back : {place : PatternPlace} {s rest : List ℕ} {parts : List Part} → IsReadAt Allowed place s parts rest
    → IsBack Refused place (unstyled parts)
unstyled_back (message_ends c d q s e w) = λ k. ends_back c d k
unstyled_back (message_closes c d q s rest e) = λ k. ends_back c d k
unstyled_back (message_text c d q r s t rest p more e h) = λ k.
    let is = piece_is c q r s t p e in
    subst (λ (l : List Part). MessageBack Refused c d k l)
    (sym (map-append unstyled_part (at_most_one d p) more ∙ ap (λ (l : List Part). l ++ unstyled more) (unstyled_piece_is c d p r t is)))
    (pieces_back c d p r t (unstyled more) is (unstyled_back h) k)
unstyled_back (message_argument c d q s t u rest inner more e h k) = λ j.
    subst (λ (l : List Part). MessageBack Refused c d j l) (sym (map-append unstyled_part inner more))
    (argument_part c d j (unstyled inner) (unstyled more) (unstyled_back h) (unstyled_back k false))
unstyled_back (none_arg d s name t rest i e) =
    name_back_as d (after_white s) name t (argument_name_of name) i (name_alone (after_white s) name t i.bytes)
unstyled_back (simple_arg d s text name word rest style a w h) =
    name_back_as d text name h.behind_name (argument_name_of text) h.named (longest_run Name text name h.behind_name h.named.bytes)
unstyled_back (complex_arg d kind offset s name t u v w x rest more i e j f o h) =
    complex_back d kind offset (after_white s) name t w x (unstyled more) i o (unstyled_back h)
unstyled_back (style_branch d kind other sel s t u v rest inner more i e room h k) =
    subst (λ (l : List Part). IsBack Refused (InBranches kind d other) (one d (Branch sel) ++ l))
    (sym (map-append unstyled_part inner more))
    (branch_part d kind other sel (after_white s) t (unstyled inner) (unstyled more) i room (unstyled_back h false) (unstyled_back k))
unstyled_back (style_ends d kind s rest e) = style_end d kind

-- without simple formats, the parts are printed as a text that is read back
pub unstyled_prints : UnstyledPrintsBack
unstyled_prints source parts h =
    let b = unstyled_back h false [] [] (inl (refl, refl, refl)) in
    (b.0, b.1, (b.2.0, subst (λ (u : List ℕ). IsReadAt Refused (InMessage Whole 0 false) u b.2.0 []) (append-nil b.0) b.2.1, b.2.2))
