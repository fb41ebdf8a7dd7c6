-- What is read is in the grammar, and what is in the grammar is read.
use Rattle.std.proofs.Common.{◌≡◌, inl, inr, ◌+◌, ℕ, List, [], ◌++◌, Bool, true, false, ◌||◌, nat_lt, Result, Ok, Err, refl, sym, ap, subst, ◌∙◌, append_assoc, if◌then◌else◌}
use Rattle.std.proofs.lemmas.Bool.{ltb-true}
use Rattle.std.proofs.lemmas.List.{append-nil}
use Rattle.message_pattern.specs.declared.head.Formats.{Formats}
use Rattle.message_pattern.specs.declared.error.Fault.{Fault}
use Rattle.message_pattern.specs.declared.error.FaultKind.TheVariants.{TooDeep}
use Rattle.message_pattern.specs.declared.part.ArgumentKind.{ArgumentKind}
use Rattle.message_pattern.specs.declared.reader.TheConstants.{DEPTH_LIMIT}
use Rattle.message_pattern.specs.declared.text.Context.{Context}
use Rattle.message_pattern.specs.PatternText.{Front, End, Closes, Opens, Takes, message_front, is_nested}
use Rattle.message_pattern.specs.PatternParts.{Part, PatternPiece, Selector, Argument, Begin, Branch}
use Rattle.message_pattern.specs.PatternParts as piece
use Rattle.message_pattern.specs.PatternHeads.{Head, Plain, Choice, BranchFront, head_front, branch_front, is_other, unclosed, pattern_fault_at}
use Rattle.message_pattern.specs.PatternHeads as branch
use Rattle.message_pattern.specs.PatternReading.{PatternPlace, InMessage, InArgument, InBranches, ReadStep, Ends, Fails, Goes, Calls, ReadOutcome, Read, Faulty, ReadsTo, ends, fails, goes, calls, breaks, read_step, one, at_most_one, context_of, message_step, argument_step, branches_step}
use Rattle.message_pattern.specs.PatternGrammar.{IsReadAt, message_ends, message_closes, message_text, message_argument, none_arg, simple_arg, complex_arg, style_branch, style_ends}
use Rattle.message_pattern.proofs.Steps.{front_decides, may_open}
use Rattle.message_pattern.proofs.GrammarHeads.{HeadIs, head_sound, branch_sound}
use Rattle.message_pattern.proofs.GrammarAgain.{plain_again, simple_again, choice_again, opens_again, closes_again}

-- ---- what is in the grammar is read

regrouped : (a b c : List Part) → ((a ++ []) ++ b) ++ c ≡ a ++ (b ++ c)
regrouped a b c = ap (λ (l : List Part). (l ++ b) ++ c) (append-nil a) ∙ append_assoc a b c

regrouped_four : (a o b c : List Part) → ((a ++ o) ++ b) ++ c ≡ a ++ (o ++ (b ++ c))
regrouped_four a o b c = append_assoc (a ++ o) b c ∙ append_assoc a o (b ++ c)

pub read_again : {formats : Formats} {place : PatternPlace} {s rest : List ℕ} {parts : List Part} (before : List Part)
    → IsReadAt formats place s parts rest
    → ReadsTo formats (read_step formats place s) before (Read (before ++ parts) rest)
read_again before (message_ends c d q s e w) =
    front_decides c d q s End before _ e (ends _ before [] [] (ap (λ (n : Bool). if n then Fails unclosed else Ends [] []) w))
read_again before (message_closes c d q s rest e) = front_decides c d q s (Closes rest) before _ e (ends _ before [] rest refl)
read_again {formats = formats} before (message_text c d q r s t rest p more e h) =
    goes _ before (at_most_one d p) (InMessage c d r) t _ (ap (message_step c d) e)
    (subst (λ (all : List Part). ReadsTo formats (read_step formats (InMessage c d r) t) (before ++ at_most_one d p) (Read all rest))
    (append_assoc before (at_most_one d p) more)
    (read_again (before ++ at_most_one d p) h))
read_again {formats = formats} before (message_argument c d q s t u rest inner more e h k) =
    calls _ before [] ((before ++ []) ++ inner) (InArgument d) (InMessage c d false) t u _ (ap (message_step c d) e)
    (read_again (before ++ []) h)
    (subst (λ (all : List Part). ReadsTo formats (read_step formats (InMessage c d false) u) ((before ++ []) ++ inner) (Read all rest))
    (regrouped before inner more)
    (read_again ((before ++ []) ++ inner) k))
read_again {formats = formats} before (none_arg d s name t rest i e) =
    ends _ before (one d (Argument name)) rest (ap (argument_step d) (plain_again formats s name t rest i e))
read_again before (simple_arg d s text name word rest style a w h) =
    ends _ before (one d (Argument text)) rest (ap (argument_step d) (simple_again s text name word rest style a w h))
read_again {formats = formats} before (complex_arg d kind offset s name t u v w x rest more i e j f o h) =
    goes _ before (one d (Begin kind name offset)) (InBranches kind d false) x _
    (ap (argument_step d) (choice_again formats kind offset s name t u v w x i e j f o))
    (subst (λ (all : List Part). ReadsTo formats (read_step formats (InBranches kind d false) x)
    (before ++ one d (Begin kind name offset)) (Read all rest))
    (append_assoc before (one d (Begin kind name offset)) more) (read_again (before ++ one d (Begin kind name offset)) h))
read_again {formats = formats} before (style_branch d kind other sel s t u v rest inner more i e room h k) =
    calls _ before (one d (Branch sel)) ((before ++ one d (Branch sel)) ++ inner) (InMessage (context_of kind) (d + 1) false)
    (InBranches kind d (other || is_other sel)) u v _
    (ap (branches_step kind d other) (opens_again kind other s t u sel i e) ∙ may_open kind d other sel u room)
    (read_again (before ++ one d (Branch sel)) h)
    (subst (λ (all : List Part). ReadsTo formats (read_step formats (InBranches kind d (other || is_other sel)) v)
    ((before ++ one d (Branch sel)) ++ inner) (Read all rest))
    (regrouped_four before (one d (Branch sel)) inner more) (read_again ((before ++ one d (Branch sel)) ++ inner) k))
read_again before (style_ends d kind s rest e) =
    ends _ before (one d piece.End) rest (ap (branches_step kind d true) (closes_again kind s rest e))

-- ---- what is read is in the grammar

-- what a step reads is in the grammar, if what follows is
abbrev pub IsGrammatical : Formats → PatternPlace → List ℕ → ReadStep → Type 0
IsGrammatical formats place s (Ends parts rest) = IsReadAt formats place s parts rest
IsGrammatical formats place s (Fails fault) = Unit {0}
IsGrammatical formats place s (Goes parts next t) =
    (more : List Part) (rest : List ℕ) → IsReadAt formats next t more rest → IsReadAt formats place s (parts ++ more) rest
IsGrammatical formats place s (Calls parts next after t) =
    (inner more : List Part) (u rest : List ℕ) → IsReadAt formats next t inner u → IsReadAt formats after u more rest
    → IsReadAt formats place s (parts ++ (inner ++ more)) rest

end_step : (formats : Formats) (c : Context) (d : ℕ) (q : Bool) (s : List ℕ) (n : Bool) → message_front c q s ≡ End → is_nested c ≡ n
    → IsGrammatical formats (InMessage c d q) s (if n then Fails unclosed else Ends [] [])
end_step formats c d q s true e h = tt
end_step formats c d q s false e h = message_ends c d q s e h

message_by : (formats : Formats) (c : Context) (d : ℕ) (q : Bool) (s : List ℕ) (f : Front) → message_front c q s ≡ f
    → IsGrammatical formats (InMessage c d q) s (message_step c d f)
message_by formats c d q s End e = end_step formats c d q s (is_nested c) e refl
message_by formats c d q s (Closes rest) e = message_closes c d q s rest e
message_by formats c d q s (Opens t) e = λ inner more u rest h k. message_argument c d q s t u rest inner more e h k
message_by formats c d q s (Takes p r t) e = λ more rest h. message_text c d q r s t rest p more e h

plain_by : (formats : Formats) (d : ℕ) (s name rest : List ℕ) → HeadIs formats s (Plain name) rest
    → IsReadAt formats (InArgument d) s (one d (Argument name)) rest
plain_by formats d s name rest (inl h) = none_arg d s name h.0 rest h.1 h.2
plain_by formats d s name rest (inr h) = simple_arg d s name h.2 h.3 rest h.4 h.0 h.1 h.5

argument_by : (formats : Formats) (d : ℕ) (s : List ℕ) (r : Result (Head × List ℕ) Fault) → head_front formats s ≡ r
    → IsGrammatical formats (InArgument d) s (argument_step d r)
argument_by formats d s (Err fault) e = tt
argument_by formats d s (Ok (Plain name, rest)) e = plain_by formats d s name rest (head_sound formats s (Plain name, rest) e)
argument_by formats d s (Ok (Choice kind name offset, x)) e = λ more rest k.
    let h = head_sound formats s (Choice kind name offset, x) e in
    complex_arg d kind offset s name h.0 h.1 h.2 h.3 x rest more h.4 h.5 h.6 h.7 h.8 k

opens_by : (formats : Formats) (kind : ArgumentKind) (d : ℕ) (other : Bool) (s t : List ℕ) (sel : Selector) (v : Bool)
    → branch_front kind other s ≡ Ok (branch.Opens sel t)
    → nat_lt d DEPTH_LIMIT ≡ v
    → IsGrammatical formats (InBranches kind d other) s
    (if v then Calls (one d (Branch sel)) (InMessage (context_of kind) (d + 1) false) (InBranches kind d (other || is_other sel)) t
    else Fails (pattern_fault_at TooDeep t))
opens_by formats kind d other s t sel true e room = λ inner more u rest h k.
    let b = branch_sound kind other s (branch.Opens sel t) e in
    style_branch d kind other sel s b.0 t u rest inner more b.1 b.2 (ltb-true d DEPTH_LIMIT room) h k
opens_by formats kind d other s t sel false e room = tt

branches_by : (formats : Formats) (kind : ArgumentKind) (d : ℕ) (other : Bool) (s : List ℕ) (r : Result BranchFront Fault)
    → branch_front kind other s ≡ r
    → IsGrammatical formats (InBranches kind d other) s (branches_step kind d other r)
branches_by formats kind d other s (Err fault) e = tt
branches_by formats kind d other s (Ok (branch.Closes rest)) e =
    let b = branch_sound kind other s (branch.Closes rest) e in
    subst (λ (o : Bool). IsReadAt formats (InBranches kind d o) s (one d piece.End) rest) (sym b.0) (style_ends d kind s rest b.1)
branches_by formats kind d other s (Ok (branch.Opens sel t)) e = opens_by formats kind d other s t sel (nat_lt d DEPTH_LIMIT) e refl

step_by : (formats : Formats) (place : PatternPlace) (s : List ℕ) → IsGrammatical formats place s (read_step formats place s)
step_by formats (InMessage c d q) s = message_by formats c d q s (message_front c q s) refl
step_by formats (InArgument d) s = argument_by formats d s (head_front formats s) refl
step_by formats (InBranches kind d other) s = branches_by formats kind d other s (branch_front kind other s) refl

-- the parts behind those before are in the grammar
abbrev pub IsIn : Formats → PatternPlace → List ℕ → List Part → ReadOutcome → Type 0
IsIn formats place s before (Read all rest) = (parts : List Part) × (all ≡ before ++ parts) × IsReadAt formats place s parts rest
IsIn formats place s before (Faulty fault) = Unit {0}

goes_in : {formats : Formats} (place next : PatternPlace) (s t : List ℕ) (before parts : List Part) (o : ReadOutcome)
    → IsGrammatical formats place s (Goes parts next t) → IsIn formats next t (before ++ parts) o → IsIn formats place s before o
goes_in place next s t before parts (Read all rest) g h =
    (parts ++ h.0, h.1 ∙ append_assoc before parts h.0, g h.0 rest h.2)
goes_in place next s t before parts (Faulty fault) g h = tt

calls_in : {formats : Formats} (place next after : PatternPlace) (s t u : List ℕ) (before parts inner : List Part) (o : ReadOutcome)
    → IsGrammatical formats place s (Calls parts next after t) → IsIn formats next t (before ++ parts) (Read inner u)
    → IsIn formats after u inner o → IsIn formats place s before o
calls_in place next after s t u before parts inner (Read all rest) g h k = (
  parts ++ (h.0 ++ k.0),
  k.1 ∙ (ap (λ (l : List Part). l ++ k.0) h.1 ∙ regrouped_four before parts h.0 k.0),
  g h.0 k.0 u rest h.2 k.2,
)
calls_in place next after s t u before parts inner (Faulty fault) g h k = tt

-- a reading from a step of a place is in the grammar
pub reading_in : {formats : Formats} {at : ReadStep} {before : List Part} {o : ReadOutcome} → ReadsTo formats at before o
    → (place : PatternPlace) (s : List ℕ) → read_step formats place s ≡ at → IsIn formats place s before o
reading_in {formats = formats} (ends at before parts rest e) place s f =
    (parts, refl, subst (λ (x : ReadStep). IsGrammatical formats place s x) (f ∙ e) (step_by formats place s))
reading_in (fails at before fault e) place s f = tt
reading_in {formats = formats} (goes at before parts next t o e h) place s f =
    goes_in place next s t before parts o (subst (λ (x : ReadStep). IsGrammatical formats place s x) (f ∙ e) (step_by formats place s))
    (reading_in h next t refl)
reading_in {formats = formats} (calls at before parts inner next after t u o e h k) place s f =
    calls_in place next after s t u before parts inner o
    (subst (λ (x : ReadStep). IsGrammatical formats place s x) (f ∙ e) (step_by formats place s)) (reading_in h next t refl)
    (reading_in k after u refl)
reading_in (breaks at before parts next after t fault e h) place s f = tt
