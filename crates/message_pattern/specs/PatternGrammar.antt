-- The grammar of patterns, line by line as ICU's pages on MessageFormat, PluralFormat and
-- SelectFormat state it, with the parts. Each line says what is read from the message_front of a text, and
-- the rest that follows it.
use Rattle.std.specs.Prelude.{◌≡◌, ◌≢◌, ℕ, ◌+◌, ◌<◌, List, [], ◌∷◌, ◌++◌, Bool, true, false, ◌||◌, Option, Some, None, length, drop, codes}
use Rattle.pattern_bytes.specs.declared.bytes.Class.{Class}
use Rattle.pattern_bytes.specs.declared.bytes.Class.TheVariants.{Name, Number, Digit, Letter}
use Rattle.message_pattern.specs.declared.head.Formats.{Formats}
use Rattle.message_pattern.specs.declared.head.Formats.TheVariants.{Allowed}
use Rattle.message_pattern.specs.declared.part.ArgumentKind.{ArgumentKind}
use Rattle.message_pattern.specs.declared.part.ArgumentKind.TheVariants.{Select}
use Rattle.message_pattern.specs.declared.reader.TheConstants.{DEPTH_LIMIT}
use Rattle.message_pattern.specs.declared.text.Context.{Context}
use Rattle.pattern_bytes.specs.PatternBytes.{comma, equals, opening, closing, begins, after_white, after_word}
use Rattle.message_pattern.specs.PatternText.{message_front, is_nested, End, Closes, Opens, Takes}
use Rattle.message_pattern.specs.PatternParts.{Part, PatternPiece, Selector, Exactly, Keyword, Argument, Begin, Branch}
use Rattle.message_pattern.specs.PatternParts as piece
use Rattle.message_pattern.specs.PatternHeads.{is_bad_number, kind_named, is_simple_type, is_counting, is_number, is_other}
use Rattle.message_pattern.specs.PatternStyles.{IsStyle}
use Rattle.message_pattern.specs.PatternReading.{PatternPlace, InMessage, InArgument, InBranches, one, at_most_one, context_of}

-- the longest message_front of the class, and the rest: at each place of the message_front a byte of the class
-- begins, which in a name is no white space, and at the rest none does
pub record IsLongest (class : Class) (s taken rest : List ℕ) : Type 0 where
  pub whole : s ≡ taken ++ rest
  pub each : (i : ℕ) → i < length taken → begins class (drop i s) ≡ true
  pub longest : begins class rest ≡ false

-- argNameOrNumber = argName | argNumber
-- argName = [^[[:Pattern_Syntax:][:Pattern_White_Space:]]]+
-- argNumber = '0' | ('1'..'9' ('0'..'9')*)
pub record IsNameOrNumber (s name rest : List ℕ) : Type 0 where
  pub bytes : IsLongest Name s name rest
  pub nonempty : name ≢ []
  pub no_zeros : is_bad_number name ≡ false

-- "plural" | "selectordinal" | "select", in letters of any case
pub record IsArgumentType (s : List ℕ) (kind : ArgumentKind) (rest : List ℕ) : Type 0 where
  pub word : List ℕ
  pub letters : IsLongest Letter s word rest
  pub nonempty : word ≢ []
  pub named : kind_named word ≡ Some kind

-- argType = [a-zA-Z]+, but for those above and "choice"
pub record IsSimpleType (s word rest : List ℕ) : Type 0 where
  pub letters : IsLongest Letter s word rest
  pub simple : is_simple_type word ≡ true

-- [',' argStyleText], to the end
abbrev pub IsStyleBehind : List ℕ → Option (List ℕ) → Type 0
IsStyleBehind s None = s ≡ []
IsStyleBehind s (Some style) = (s ≡ comma ∷ style) × IsStyle style

-- argNameOrNumber ',' argType [',' argStyleText]: what stands between the braces of an argument with
-- a simple format
pub record IsSimpleText (text name word : List ℕ) (style : Option (List ℕ)) : Type 0 where
  pub behind_name : List ℕ
  pub behind_comma : List ℕ
  pub behind_type : List ℕ
  pub named : IsNameOrNumber text name behind_name
  pub comma_there : after_white behind_name ≡ comma ∷ behind_comma
  pub typed : IsSimpleType (after_white behind_comma) word behind_type
  pub styled : IsStyleBehind (after_white behind_type) style

-- offsetValue = "offset:" number
abbrev pub IsOffsetValue : List ℕ → Option (List ℕ) → List ℕ → Type 0
IsOffsetValue s None rest = (after_word (codes "offset:") s ≡ None) × (rest ≡ s)
IsOffsetValue s (Some digits) rest =
    (t : List ℕ) × (after_word (codes "offset:") s ≡ Some t) × IsLongest Digit (after_white t) digits rest × (digits ≢ [])

-- [offsetValue], in a style that counts
abbrev pub IsOffset : ArgumentKind → List ℕ → Option (List ℕ) → List ℕ → Type 0
IsOffset Select s offset rest = (offset ≡ None) × (rest ≡ s)
IsOffset _ s offset rest = IsOffsetValue (after_white s) offset rest

-- selector = explicitValue | keyword
-- explicitValue = '=' number
-- keyword = [^[[:Pattern_Syntax:][:Pattern_White_Space:]]]+
abbrev pub IsSelector : ArgumentKind → List ℕ → Selector → List ℕ → Type 0
IsSelector kind s (Exactly number) rest =
    (t : List ℕ) × (s ≡ equals ∷ t) × (is_counting kind ≡ true) × IsLongest Number t number rest × (is_number number ≡ true)
IsSelector kind s (Keyword word) rest = IsLongest Name s word rest × (word ≢ [])

-- from a place on, these parts are read from the message_front of a text, and the rest follows
pub data IsReadAt (formats : Formats) : PatternPlace → List ℕ → List Part → List ℕ → Type 0 where
  -- message = messageText (argument messageText)*
  message_ends : (c : Context) (d : ℕ) (q : Bool) (s : List ℕ) → message_front c q s ≡ End → is_nested c ≡ false → IsReadAt formats (InMessage c d q) s [] []
  message_closes : (c : Context) (d : ℕ) (q : Bool) (s rest : List ℕ) → message_front c q s ≡ Closes rest → IsReadAt formats (InMessage c d q) s [] rest
  message_text : (c : Context) (d : ℕ) (q r : Bool) (s t rest : List ℕ) (p : Option PatternPiece) (more : List Part) → message_front c q s ≡ Takes p r t
      → IsReadAt formats (InMessage c d r) t more rest → IsReadAt formats (InMessage c d q) s (at_most_one d p ++ more) rest
  message_argument : (c : Context) (d : ℕ) (q : Bool) (s t u rest : List ℕ) (inner more : List Part) → message_front c q s ≡ Opens t
      → IsReadAt formats (InArgument d) t inner u → IsReadAt formats (InMessage c d false) u more rest → IsReadAt formats (InMessage c d q) s (inner ++ more) rest
  -- noneArg = '{' argNameOrNumber '}'
  none_arg : (d : ℕ) (s name t rest : List ℕ) → IsNameOrNumber (after_white s) name t → after_white t ≡ closing ∷ rest
      → IsReadAt formats (InArgument d) s (one d (Argument name)) rest
  -- simpleArg = '{' argNameOrNumber ',' argType [',' argStyleText] '}'
  simple_arg : (d : ℕ) (s text name word rest : List ℕ) (style : Option (List ℕ)) → formats ≡ Allowed
      → after_white s ≡ text ++ closing ∷ rest → IsSimpleText text name word style → IsReadAt formats (InArgument d) s (one d (Argument text)) rest
  -- pluralArg = '{' argNameOrNumber ',' "plural" ',' pluralStyle '}', and likewise selectordinal
  -- and select; pluralStyle = [offsetValue] (selector '{' message '}')+
  complex_arg : (d : ℕ) (kind : ArgumentKind) (offset : Option (List ℕ)) (s name t u v w x rest : List ℕ) (more : List Part)
      → IsNameOrNumber (after_white s) name t → after_white t ≡ comma ∷ u → IsArgumentType (after_white u) kind v → after_white v ≡ comma ∷ w
      → IsOffset kind w offset x → IsReadAt formats (InBranches kind d false) x more rest
      → IsReadAt formats (InArgument d) s (one d (Begin kind name offset) ++ more) rest
  -- (selector '{' message '}')+, with a selector `other` among them
  style_branch : (d : ℕ) (kind : ArgumentKind) (other : Bool) (sel : Selector) (s t u v rest : List ℕ) (inner more : List Part)
      → IsSelector kind (after_white s) sel t → after_white t ≡ opening ∷ u → d < DEPTH_LIMIT
      → IsReadAt formats (InMessage (context_of kind) (d + 1) false) u inner v → IsReadAt formats (InBranches kind d (other || is_other sel)) v more rest
      → IsReadAt formats (InBranches kind d other) s (one d (Branch sel) ++ (inner ++ more)) rest
  style_ends : (d : ℕ) (kind : ArgumentKind) (s rest : List ℕ) → after_white s ≡ closing ∷ rest → IsReadAt formats (InBranches kind d true) s (one d piece.End) rest
