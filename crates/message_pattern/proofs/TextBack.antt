-- A text that is printed is read as its bytes.
use Rattle.std.proofs.Common.{◌≡◌, ◌==◌, ℕ, List, [], ◌∷◌, ◌++◌, Bool, true, false, not, ◌&&◌, ◌||◌, Option, Some, None, refl, sym, ap, subst, ◌∙◌, append_assoc, if◌then◌else◌}
use Rattle.std.proofs.lemmas.Bool.{eqb-true}
use Rattle.message_pattern.specs.declared.head.Formats.{Formats}
use Rattle.pattern_bytes.specs.declared.bytes.Class.{Class}
use Rattle.pattern_bytes.specs.declared.bytes.Class.TheVariants.{Plain, Unquoted}
use Rattle.message_pattern.specs.declared.text.Context.{Context}
use Rattle.pattern_bytes.specs.PatternBytes.{apostrophe, hash, opening, closing, begins, class_front, behind_run}
use Rattle.message_pattern.specs.PatternText.{Front, End, Closes, Opens, Takes, takes_text, message_front, is_nested, is_counted, is_quotable, apostrophe_front, quoted_apostrophe}
use Rattle.message_pattern.specs.PatternParts.{Part, PatternPiece, Text, Hash}
use Rattle.message_pattern.specs.PatternReading.{PatternPlace, InMessage, InArgument, InBranches, one, at_most_one}
use Rattle.message_pattern.specs.PatternGrammar.{IsReadAt, message_ends, message_closes, message_text, message_argument, none_arg, simple_arg, complex_arg, style_branch, style_ends}
use Rattle.message_pattern.specs.PatternPrinting.{letters, spelled, end_of_quote, byte_text, text_text, quoted_behind}

-- what is read says the same as these parts
abbrev pub IsReadAs : Formats → PatternPlace → List ℕ → List Part → List ℕ → Type 0
IsReadAs formats place s parts rest = (again : List Part) × IsReadAt formats place s again rest × (spelled again ≡ parts)

-- ---- a message that begins with a piece

-- a message whose message_front is a piece is that piece and the message behind it
abbrev pub BeginsWith : Formats → PatternPlace → List ℕ → List Part → List ℕ → Type 0
BeginsWith formats (InMessage c d q) s parts rest =
    (p : Option PatternPiece) (r : Bool) (t : List ℕ) → message_front c q s ≡ Takes p r t
    → (more : List Part) × IsReadAt formats (InMessage c d r) t more rest × (parts ≡ at_most_one d p ++ more)
BeginsWith formats (InArgument d) s parts rest = Unit {0}
BeginsWith formats (InBranches k d o) s parts rest = Unit {0}

no_piece : {f : Front} (p : Option PatternPiece) (r : Bool) (t : List ℕ) → f ≡ End → f ≡ Takes p r t → ⊥
no_piece p r t e h = let x : End ≡ Takes p r t = sym e ∙ h in cc

no_piece_closes : {f : Front} (p : Option PatternPiece) (r : Bool) (t s : List ℕ) → f ≡ Closes s → f ≡ Takes p r t → ⊥
no_piece_closes p r t s e h = let x : Closes s ≡ Takes p r t = sym e ∙ h in cc

no_piece_opens : {f : Front} (p : Option PatternPiece) (r : Bool) (t s : List ℕ) → f ≡ Opens s → f ≡ Takes p r t → ⊥
no_piece_opens p r t s e h = let x : Opens s ≡ Takes p r t = sym e ∙ h in cc

same_piece : {formats : Formats} (c : Context) (d : ℕ) (p p' : Option PatternPiece) (r r' : Bool) (t t' rest : List ℕ) (more : List Part)
    → Takes p r t ≡ Takes p' r' t' → IsReadAt formats (InMessage c d r) t more rest
    → (again : List Part) × IsReadAt formats (InMessage c d r') t' again rest × (at_most_one d p ++ more ≡ at_most_one d p' ++ again)
same_piece {formats = formats} c d p p' r r' t t' rest more e h =
    let f : p ≡ p' = cc in
    let g : r ≡ r' = cc in
    let k : t ≡ t' = cc in (
      more,
      subst (λ (v : Bool). IsReadAt formats (InMessage c d v) t' more rest) g
          (subst (λ (u : List ℕ). IsReadAt formats (InMessage c d r) u more rest) k h),
      ap (λ (x : Option PatternPiece). at_most_one d x ++ more) f,
    )

begins_with : {formats : Formats} {place : PatternPlace} {s rest : List ℕ} {parts : List Part} → IsReadAt formats place s parts rest
    → BeginsWith formats place s parts rest
begins_with (message_ends c d q s e w) = λ p r t h. absurd (no_piece p r t e h)
begins_with (message_closes c d q s rest e) = λ p r t h. absurd (no_piece_closes p r t rest e h)
begins_with (message_text c d q r s t rest p more e h) = λ p' r' t' f. same_piece c d p p' r r' t t' rest more (sym e ∙ f) h
begins_with (message_argument c d q s t u rest inner more e h k) = λ p r t' f. absurd (no_piece_opens p r t' t e f)
begins_with (none_arg d s name t rest i e) = tt
begins_with (simple_arg d s text name word rest style a w h) = tt
begins_with (complex_arg d kind offset s name t u v w x rest more i e j f o h) = tt
begins_with (style_branch d kind other sel s t u v rest inner more i e room h k) = tt
begins_with (style_ends d kind s rest e) = tt

-- ---- a byte before a text

-- at a byte of the class, the message_front is the run
abbrev IsRunFront : Context → Bool → Class → Type 0
IsRunFront c q k = (b : ℕ) (s : List ℕ) → begins k (b ∷ s) ≡ true
    → message_front c q (b ∷ s) ≡ takes_text (class_front k (b ∷ s)) q (behind_run k (b ∷ s))

takes_one : (k : Class) (b : ℕ) (t : List ℕ) (q : Bool) → begins k (b ∷ t) ≡ true
    → takes_text (class_front k (b ∷ t)) q (behind_run k (b ∷ t)) ≡ takes_text (b ∷ class_front k t) q (behind_run k t)
takes_one k b t q e = ap (λ (v : Bool). takes_text (if v then b ∷ class_front k t else []) q (if v then behind_run k t else b ∷ t)) e

run_none : (k : Class) (t : List ℕ) → begins k t ≡ false → class_front k t ≡ []
run_none k [] e = refl
run_none k (b ∷ t) e = ap (λ (v : Bool). if v then b ∷ class_front k t else []) e

behind_none : (k : Class) (t : List ℕ) → begins k t ≡ false → behind_run k t ≡ t
behind_none k [] e = refl
behind_none k (b ∷ t) e = ap (λ (v : Bool). if v then behind_run k t else b ∷ t) e

-- the byte is a piece, or it stands before one
byte_before : {formats : Formats} (c : Context) (d : ℕ) (q : Bool) (k : Class) (b : ℕ) (t : List ℕ) (parts : List Part)
    (rest : List ℕ) (v : Bool) → IsRunFront c q k
    → begins k (b ∷ t) ≡ true → begins k t ≡ v → IsReadAs formats (InMessage c d q) t parts rest
    → IsReadAs formats (InMessage c d q) (b ∷ t) (letters d (b ∷ []) ++ parts) rest
byte_before c d q k b t parts rest false runs e f h = (
  one d (Text (b ∷ [])) ++ h.0,
  message_text c d q q (b ∷ t) t rest (Some (Text (b ∷ []))) h.0
      (runs b t e ∙ (takes_one k b t q e
      ∙ (ap (λ (u : List ℕ). takes_text (b ∷ u) q (behind_run k t)) (run_none k t f)
      ∙ ap (λ (u : List ℕ). takes_text (b ∷ []) q u) (behind_none k t f)))) h.1,
  ap (λ (l : List Part). letters d (b ∷ []) ++ l) h.2,
)
byte_before c d q k b [] parts rest true runs e f h = absurd (let x : false ≡ true = f in cc)
byte_before c d q k b (a ∷ t) parts rest true runs e f h =
    let m = begins_with h.1 (Some (Text (class_front k (a ∷ t)))) q (behind_run k (a ∷ t)) (runs a t f) in (
      one d (Text (b ∷ class_front k (a ∷ t))) ++ m.0,
      message_text c d q q (b ∷ a ∷ t) (behind_run k (a ∷ t)) rest (Some (Text (b ∷ class_front k (a ∷ t)))) m.0
          (runs b (a ∷ t) e ∙ takes_one k b (a ∷ t) q e) m.1,
      ap (λ (l : List Part). letters d (b ∷ []) ++ l) (sym (ap spelled m.2) ∙ h.2),
    )

-- ---- text that isn't quoted

plain_by : (a o e h : Bool) (c : Context) (b : ℕ) (s t u : List ℕ) → not (a || o || e || h) ≡ true
    → (if a then apostrophe_front c s else if o then Opens s else if e && is_nested c then Closes s else if h && is_counted c
    then Takes (Some Hash) false s
    else if e || h then takes_text (b ∷ []) false s
    else takes_text t false u) ≡ takes_text t false u
plain_by true o e h c b s t u x = absurd (let y : false ≡ true = x in cc)
plain_by false true e h c b s t u x = absurd (let y : false ≡ true = x in cc)
plain_by false false true h c b s t u x = absurd (let y : false ≡ true = x in cc)
plain_by false false false true c b s t u x = absurd (let y : false ≡ true = x in cc)
plain_by false false false false c b s t u x = refl

plain_runs : (c : Context) → IsRunFront c false Plain
plain_runs c b s e = plain_by (b == apostrophe) (b == opening) (b == closing) (b == hash) c b s (class_front Plain (b ∷ s))
    (behind_run Plain (b ∷ s)) e

-- ---- quoted text

quoted_by : (a : Bool) (s t u : List ℕ) → not a ≡ true → (if a then quoted_apostrophe s else takes_text t true u) ≡ takes_text t true u
quoted_by true s t u x = absurd (let y : false ≡ true = x in cc)
quoted_by false s t u x = refl

quoted_runs : (c : Context) → IsRunFront c true Unquoted
quoted_runs c b s e = quoted_by (b == apostrophe) s (class_front Unquoted (b ∷ s)) (behind_run Unquoted (b ∷ s)) e

-- a byte that is quoted
in_quotes : {formats : Formats} (c : Context) (d b : ℕ) (t : List ℕ) (parts : List Part) (rest : List ℕ) → (b == apostrophe) ≡ false
    → IsReadAs formats (InMessage c d true) t parts rest → IsReadAs formats (InMessage c d true) (b ∷ t) (letters d (b ∷ []) ++ parts) rest
in_quotes c d b t parts rest e h = byte_before c d true Unquoted b t parts rest (begins Unquoted t) (quoted_runs c) (ap not e) refl h

-- an apostrophe begins quoted text
opens_by : (a o : Bool) (c : Context) (b : ℕ) (s : List ℕ) → a ≡ false → o ≡ true
    → (if a then takes_text (apostrophe ∷ []) false s else if o then Takes None true (b ∷ s)
    else takes_text (apostrophe ∷ []) false (b ∷ s)) ≡ Takes None true (b ∷ s)
opens_by true o c b s e f = absurd (let x : true ≡ false = e in cc)
opens_by false true c b s e f = refl
opens_by false false c b s e f = absurd (let x : false ≡ true = f in cc)

opens_quote : {formats : Formats} (c : Context) (d b : ℕ) (t : List ℕ) (parts : List Part) (rest : List ℕ) → (b == apostrophe) ≡ false
    → is_quotable c b ≡ true
    → IsReadAs formats (InMessage c d true) (b ∷ t) parts rest → IsReadAs formats (InMessage c d false) (apostrophe ∷ b ∷ t) parts rest
opens_quote c d b t parts rest e f h = (
  h.0,
  message_text c d false true (apostrophe ∷ b ∷ t) (b ∷ t) rest None h.0
      (opens_by (b == apostrophe) (is_quotable c b) c b t e f) h.1,
  h.2,
)

-- two apostrophes are one
doubled : {formats : Formats} (c : Context) (d : ℕ) (q : Bool) (t : List ℕ) (parts : List Part) (rest : List ℕ)
    → IsReadAs formats (InMessage c d q) t parts rest
    → IsReadAs formats (InMessage c d q) (apostrophe ∷ apostrophe ∷ t) (letters d (apostrophe ∷ []) ++ parts) rest
doubled c d true t parts rest h = (
  one d (Text (apostrophe ∷ [])) ++ h.0,
  message_text c d true true (apostrophe ∷ apostrophe ∷ t) t rest (Some (Text (apostrophe ∷ []))) h.0 refl h.1,
  ap (λ (l : List Part). letters d (apostrophe ∷ []) ++ l) h.2,
)
doubled c d false t parts rest h = (
  one d (Text (apostrophe ∷ [])) ++ h.0,
  message_text c d false false (apostrophe ∷ apostrophe ∷ t) t rest (Some (Text (apostrophe ∷ []))) h.0 refl h.1,
  ap (λ (l : List Part). letters d (apostrophe ∷ []) ++ l) h.2,
)

-- a byte that needs no quotes: `#` where it isn't the number, or one that stands for itself
hash_alone : (c : Context) (s : List ℕ) → is_counted c ≡ false → message_front c false (hash ∷ s) ≡ takes_text (hash ∷ []) false s
hash_alone c s e = ap (λ (n : Bool). if n then Takes (Some Hash) false s else takes_text (hash ∷ []) false s) e

bare_hash : {formats : Formats} (c : Context) (d b : ℕ) (t : List ℕ) (parts : List Part) (rest : List ℕ) → b ≡ hash → is_counted c ≡ false
    → IsReadAs formats (InMessage c d false) t parts rest
    → IsReadAs formats (InMessage c d false) (b ∷ t) (letters d (b ∷ []) ++ parts) rest
bare_hash c d b t parts rest e f h = (
  one d (Text (b ∷ [])) ++ h.0,
  message_text c d false false (b ∷ t) t rest (Some (Text (b ∷ []))) h.0
      (subst (λ (x : ℕ). message_front c false (x ∷ t) ≡ takes_text (x ∷ []) false t) (sym e) (hash_alone c t f)) h.1,
  ap (λ (l : List Part). letters d (b ∷ []) ++ l) h.2,
)

bare_plain : (o e n : Bool) → (o || e || (false && n)) ≡ false → not (false || o || e || false) ≡ true
bare_plain true e n x = absurd (let y : true ≡ false = x in cc)
bare_plain false true n x = absurd (let y : true ≡ false = x in cc)
bare_plain false false n x = refl

bare_counted : (o e n : Bool) → (o || e || (true && n)) ≡ false → n ≡ false
bare_counted true e n x = absurd (let y : true ≡ false = x in cc)
bare_counted false true n x = absurd (let y : true ≡ false = x in cc)
bare_counted false false n x = x

bare_by : {formats : Formats} (c : Context) (d b : ℕ) (t : List ℕ) (parts : List Part) (rest : List ℕ) (h : Bool) → (b == hash) ≡ h
    → (b == apostrophe) ≡ false
    → is_quotable c b ≡ false → IsReadAs formats (InMessage c d false) t parts rest
    → IsReadAs formats (InMessage c d false) (b ∷ t) (letters d (b ∷ []) ++ parts) rest
bare_by c d b t parts rest true e f g r =
    bare_hash c d b t parts rest (eqb-true b hash e)
    (bare_counted (b == opening) (b == closing) (is_counted c)
    (subst (λ (x : Bool). (b == opening || b == closing || (x && is_counted c)) ≡ false) e g)) r
bare_by c d b t parts rest false e f g r =
    byte_before c d false Plain b t parts rest (begins Plain t) (plain_runs c)
    (ap (λ (x : Bool). not (x || b == opening || b == closing || b == hash)) f
    ∙ (ap (λ (x : Bool). not (false || b == opening || b == closing || x)) e
    ∙ bare_plain (b == opening) (b == closing) (is_counted c)
    (subst (λ (x : Bool). (b == opening || b == closing || (x && is_counted c)) ≡ false) e g)))
    refl r

-- ---- a byte that is printed

or_false : (q : Bool) → (q || false) ≡ q
or_false true = refl
or_false false = refl

-- the text of a byte, by whether it is an apostrophe, whether it can be quoted, and whether it is
abbrev byte_as : Bool → Bool → Bool → ℕ → List ℕ
byte_as a o q b = if a then apostrophe ∷ apostrophe ∷ [] else if o && not q then apostrophe ∷ b ∷ [] else b ∷ []

byte_by : {formats : Formats} (c : Context) (d b : ℕ) (t : List ℕ) (parts : List Part) (rest : List ℕ) (a o q : Bool)
    → (b == apostrophe) ≡ a → is_quotable c b ≡ o
    → IsReadAs formats (InMessage c d (q || o)) t parts rest
    → IsReadAs formats (InMessage c d q) (byte_as a o q b ++ t) (letters d (b ∷ []) ++ parts) rest
byte_by {formats = formats} c d b t parts rest true o q e f h =
    let same : b ≡ apostrophe = eqb-true b apostrophe e in
    let none : o ≡ false = sym f ∙ ap (λ (x : ℕ). is_quotable c x) same in
    subst (λ (x : ℕ). IsReadAs formats (InMessage c d q) (apostrophe ∷ apostrophe ∷ t) (letters d (x ∷ []) ++ parts) rest) (sym same)
    (doubled c d q t parts rest
    (subst (λ (v : Bool). IsReadAs formats (InMessage c d v) t parts rest) (ap (λ (v : Bool). q || v) none ∙ or_false q) h))
byte_by c d b t parts rest false true true e f h = in_quotes c d b t parts rest e h
byte_by c d b t parts rest false false true e f h = in_quotes c d b t parts rest e h
byte_by c d b t parts rest false true false e f h = opens_quote c d b t _ rest e f (in_quotes c d b t parts rest e h)
byte_by c d b t parts rest false false false e f h = bare_by c d b t parts rest (b == hash) refl e f h

-- a text that is printed is read as its bytes
pub text_back : {formats : Formats} (c : Context) (d : ℕ) (q : Bool) (s t : List ℕ) (parts : List Part) (rest : List ℕ)
    → IsReadAs formats (InMessage c d (quoted_behind c q s)) t parts rest
    → IsReadAs formats (InMessage c d q) (text_text c q s ++ t) (letters d s ++ parts) rest
text_back c d q [] t parts rest h = h
text_back {formats = formats} c d q (b ∷ s) t parts rest h =
    subst (λ (u : List ℕ). IsReadAs formats (InMessage c d q) u (letters d (b ∷ s) ++ parts) rest)
    (sym (append_assoc (byte_text c q b) (text_text c (q || is_quotable c b) s) t))
    (byte_by c d b (text_text c (q || is_quotable c b) s ++ t) (letters d s ++ parts) rest (b == apostrophe) (is_quotable c b) q refl refl
    (text_back c d (q || is_quotable c b) s t parts rest h))

-- ---- the end of quoted text

-- an apostrophe is at the message_front
abbrev pub quotes : List ℕ → Bool
quotes [] = false
quotes (b ∷ s) = b == apostrophe

ends_quote : (c : Context) (s : List ℕ) → quotes s ≡ false → message_front c true (apostrophe ∷ s) ≡ Takes None false s
ends_quote c [] e = refl
ends_quote c (b ∷ s) e = ap (λ (v : Bool). if v then takes_text (apostrophe ∷ []) true s else Takes None false (b ∷ s)) e

-- what isn't text, behind quoted text or not
pub quote_back : {formats : Formats} (c : Context) (d : ℕ) (q : Bool) (t : List ℕ) (parts : List Part) (rest : List ℕ) → quotes t ≡ false
    → IsReadAs formats (InMessage c d false) t parts rest → IsReadAs formats (InMessage c d q) (end_of_quote q ++ t) parts rest
quote_back c d true t parts rest e h = (h.0, message_text c d true false (apostrophe ∷ t) t rest None h.0 (ends_quote c t e) h.1, h.2)
quote_back c d false t parts rest e h = h
