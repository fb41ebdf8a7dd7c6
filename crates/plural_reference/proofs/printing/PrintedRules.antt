-- The samples of a rule that is read from a text, and the tokens of their printed text, from which
-- they are read again, if they have small runs. PrintedBack joins this with the condition.
use Rattle.std.proofs.Common.{◌≡◌, List, [], ◌∷◌, ◌++◌, Option, Some, None, refl, sym, ap, ◌∙◌, subst, append_assoc}
use Rattle.std.proofs.lemmas.List.{append-nil}
use Rattle.std.specs.List.{AllByRecursion}
use Rattle.std.specs.Prelude.{ℕ, IfSome, fold, codes}
use Rattle.plural_reference.specs.declared.ast.SampleList.{SampleList}
use Rattle.plural_reference.specs.declared.ast.Samples as samples
use Rattle.plural_reference.specs.declared.token.Token.{Token}
use Rattle.plural_reference.specs.declared.token.Token.TheVariants.{At, Decimal, Integer}
use Rattle.plural_reference.specs.Parser.{IsUnconditional}
use Rattle.plural_reference.specs.PrintingLaws.{ListHasSmallRuns}
use Rattle.plural_reference.specs.Samples.{IsSampleType, IsSampleList, Section, AreSections, with_list, samples_of, ReadsSamples}
use Rattle.plural_reference.specs.Inner.Scan.{tokens_of, tokens_from}
use Rattle.plural_reference.specs.Serializer.{prefixed, sample_list_text, samples_text}
use Rattle.plural_reference.proofs.printing.PrintedDigits.{EndsSample, space_breaks}
use Rattle.plural_reference.proofs.printing.PrintedSamples.{IsSpelled, list_spells}
use Rattle.plural_reference.proofs.printing.PrintedTokens.{Scans, scans_then, Spells}
use Rattle.plural_reference.proofs.tokens.TokensFit.{AllFit, fit_left, fit_right}

-- ---- what is read

-- one of two lists is present
abbrev HasList : Option SampleList → Option SampleList → Type 0
HasList None None = ⊥
HasList _ _ = Unit {0}

-- samples as they are read from a text whose numbers fit
pub record AreReadSamples (s : samples.Samples) : Type 0 where
  pub integer : IfSome s.integer (λ l. IsSpelled IsSampleList l)
  pub decimal : IfSome s.decimal (λ l. IsSpelled IsSampleList l)
  pub some : HasList s.integer s.decimal

-- if the second list is present, one of the two is
has_second : (first : Option SampleList) (l : SampleList) → HasList first (Some l)
has_second None l = tt
has_second (Some k) l = tt

-- a list takes its place among samples as they are read, or is the first
with_list_read : (t : Token) (l : SampleList) (old : samples.Samples) → IsSampleType t → IsSpelled IsSampleList l
    → IfSome old.integer (λ k. IsSpelled IsSampleList k) → IfSome old.decimal (λ k. IsSpelled IsSampleList k)
    → AreReadSamples (with_list t l old)
with_list_read Integer l old h k i d = record { integer = k; decimal = d; some = tt }
with_list_read Decimal l old h k i d = record { integer = i; decimal = k; some = has_second old.integer l }
with_list_read _ l old h k i d = absurd h

-- a section whose list is spelled by tokens that fit
abbrev IsSpelledSection : Section → Type 0
IsSpelledSection s = IsSampleType s.type × IsSpelled IsSampleList s.list

-- sections of tokens that fit are such sections
sections_spelled : (tokens : List Token) (ss : List Section) → AllFit tokens → AreSections tokens ss → AllByRecursion IsSpelledSection ss
sections_spelled tokens [] f h = tt
sections_spelled tokens (s ∷ ss) f h =
    let fits : AllFit (h.0 ++ h.1) = (subst AllFit h.2 f).1.1 in
    ((h.3, (h.0, fit_left h.0 h.1 fits, h.4)), sections_spelled h.1 ss (fit_right h.0 h.1 fits) h.5)

-- samples that are read stay so with the lists of such sections
sections_read : (ss : List Section) (old : samples.Samples) → AllByRecursion IsSpelledSection ss → AreReadSamples old
    → AreReadSamples (fold (λ before new. with_list new.type new.list before) old ss)
sections_read [] old h k = k
sections_read (s ∷ ss) old h k =
    sections_read ss (with_list s.type s.list old) h.1
    (with_list_read s.type s.list old h.0.0 h.0.1 k.integer k.decimal)

-- the samples of such sections are samples as they are read
are_read : (ss : List Section) → AllByRecursion IsSpelledSection ss → IfSome (samples_of ss) AreReadSamples
are_read [] h = tt
are_read (s ∷ ss) h = sections_read ss _ h.1 (with_list_read s.type s.list (record { integer = None; decimal = None }) h.0.0 h.0.1 tt tt)

-- the samples that are read of tokens that fit are such samples
pub samples_are_read : (tokens : List Token) (s : Option samples.Samples) → AllFit tokens → ReadsSamples tokens s → IfSome s AreReadSamples
samples_are_read tokens s f h =
    let spelled = sections_spelled h.1 h.0 (fit_left h.1 h.2 (subst AllFit h.3 f)) h.4 in
    subst (λ (x : Option samples.Samples). IfSome x AreReadSamples) (sym h.6) (are_read h.0 spelled)

-- ---- what is printed

-- the section of a list, if the list is present
abbrev section_of : Token → Option SampleList → List Section
section_of type None = []
section_of type (Some l) = (record { type = type; list = l }) ∷ []

module _ (type : Token) (prefix : List ℕ) (is_type : IsSampleType type)
    (gives : (rest : List ℕ) → tokens_of (prefix ++ rest) ≡ At ∷ type ∷ tokens_of rest)
    (may_follow : (rest : List ℕ) → EndsSample (prefix ++ rest)) where
  -- a list with its type and its prefix is read again from its text, as a section
  section_spells : (list : Option SampleList) → IfSome list (λ l. IsSpelled IsSampleList l)
      → IfSome list ListHasSmallRuns
      → Spells EndsSample AreSections (prefixed prefix sample_list_text list) (section_of type list)
  section_spells None h small = record { tokens = []; part = refl; scans = record { gives = λ rest f. refl } }
  section_spells (Some l) h small =
      let list : Spells EndsSample IsSampleList (sample_list_text l) l = list_spells l h small in
      record {
        tokens = At ∷ type ∷ list.tokens;
        part = (list.tokens, [], ap (λ ts. At ∷ type ∷ ts) (sym (append-nil list.tokens)), is_type, list.part, refl);
        scans =
            record {
              gives = λ rest f.
                  ap tokens_of (append_assoc prefix (sample_list_text l) rest)
                  ∙ gives _
                  ∙ ap (λ ts. At ∷ type ∷ ts) (list.scans.gives rest f);
            };
      }

  -- a section, and what may follow a sample, may follow one
  section_follows : (list : Option SampleList) (rest : List ℕ) → EndsSample rest
      → EndsSample (prefixed prefix sample_list_text list ++ rest)
  section_follows None rest h = h
  section_follows (Some l) rest h = subst EndsSample (sym (append_assoc prefix (sample_list_text l) rest)) (may_follow _)

-- sections and more sections are sections
sections_append : (a b : List Token) (ss ts : List Section) → AreSections a ss → AreSections b ts → AreSections (a ++ b) (ss ++ ts)
sections_append a b [] ts h k = subst (λ l. AreSections (l ++ b) ts) (sym h) k
sections_append a b (s ∷ ss) ts h k = (
  h.0,
  h.1 ++ b,
  ap (λ l. l ++ b) h.2 ∙ ap (λ l. At ∷ s.type ∷ l) (append_assoc h.0 h.1 b),
  h.3,
  h.4,
  sections_append h.1 b ss ts h.5 k,
)

-- the sections of two lists, one of them there, are those of the samples with both
samples_of-sections : (integer decimal : Option SampleList) → HasList integer decimal
    → samples_of (section_of Integer integer ++ section_of Decimal decimal)
    ≡ Some (record { integer = integer; decimal = decimal })
samples_of-sections None None h = absurd h
samples_of-sections None (Some d) h = refl
samples_of-sections (Some i) None h = refl
samples_of-sections (Some i) (Some d) h = refl

-- the tokens of sections are empty, or begin with At
sections_unconditional : (tokens : List Token) (ss : List Section) → AreSections tokens ss → IsUnconditional tokens
sections_unconditional tokens [] h = subst IsUnconditional (sym h) tt
sections_unconditional tokens (s ∷ ss) h = subst IsUnconditional (sym h.2) tt

-- the tokens of printed samples, from which they are read
pub record SamplesReadBack (s : samples.Samples) : Type 0 where
  pub tokens : List Token
  pub scans : Scans EndsSample (samples_text s) tokens
  pub follows : (rest : List ℕ) → EndsSample rest → EndsSample (samples_text s ++ rest)
  pub unconditional : IsUnconditional tokens
  pub reads : ReadsSamples tokens (Some s)

-- samples that were read and have small runs are read from their printed text
pub samples_read_back : (s : samples.Samples) → AreReadSamples s → IfSome s.integer ListHasSmallRuns
    → IfSome s.decimal ListHasSmallRuns → SamplesReadBack s
unfolding tokens_from
samples_read_back s h small_integer small_decimal =
    let a : Spells EndsSample AreSections (prefixed (codes " @integer ") sample_list_text s.integer)
    (section_of Integer s.integer) =
    section_spells Integer (codes " @integer ") tt (λ rest. refl) (λ rest. space_breaks) s.integer h.integer
    small_integer in
    let b : Spells EndsSample AreSections (prefixed (codes " @decimal ") sample_list_text s.decimal)
    (section_of Decimal s.decimal) =
    section_spells Decimal (codes " @decimal ") tt (λ rest. refl) (λ rest. space_breaks) s.decimal h.decimal
    small_decimal in
    let are = sections_append a.tokens b.tokens (section_of Integer s.integer) (section_of Decimal s.decimal) a.part b.part in
    let behind = section_follows Decimal (codes " @decimal ") tt (λ rest. refl) (λ rest. space_breaks) s.decimal in
    record {
      tokens = a.tokens ++ b.tokens;
      scans =
          scans_then EndsSample EndsSample (prefixed (codes " @integer ") sample_list_text s.integer)
          (prefixed (codes " @decimal ") sample_list_text s.decimal) a.tokens b.tokens a.scans b.scans behind;
      follows = λ rest f.
          subst EndsSample
          (sym
          (append_assoc (prefixed (codes " @integer ") sample_list_text s.integer)
          (prefixed (codes " @decimal ") sample_list_text s.decimal) rest))
          (section_follows Integer (codes " @integer ") tt (λ r. refl) (λ r. space_breaks) s.integer _
          (behind rest f));
      unconditional = sections_unconditional (a.tokens ++ b.tokens) (section_of Integer s.integer ++ section_of Decimal s.decimal) are;
      reads = (
        section_of Integer s.integer ++ section_of Decimal s.decimal,
        a.tokens ++ b.tokens,
        [],
        sym (append-nil (a.tokens ++ b.tokens)),
        are,
        tt,
        sym (samples_of-sections s.integer s.decimal h.some),
      );
    }
