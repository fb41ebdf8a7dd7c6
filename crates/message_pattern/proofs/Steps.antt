-- The steps of a reading, in the order of the reader's code.
use Rattle.std.proofs.Common.{◌≡◌, ◌<◌, ◌≤◌, ℕ, ◌+◌, List, [], ◌++◌, Bool, true, false, ◌||◌, Option, Ok, Err, refl, sym, ap, subst, ◌∙◌, if◌then◌else◌}
use Rattle.std.proofs.lemmas.Bool.{lt-ltb, le-ltb}
use Rattle.std.proofs.lemmas.List.{append-nil}
use Rattle.message_pattern.specs.declared.head.Formats.{Formats}
use Rattle.message_pattern.specs.declared.reader.TheConstants.{DEPTH_LIMIT}
use Rattle.message_pattern.specs.declared.error.Fault.{Fault}
use Rattle.message_pattern.specs.declared.error.FaultKind.TheVariants.{TooDeep}
use Rattle.message_pattern.specs.declared.part.ArgumentKind.{ArgumentKind}
use Rattle.message_pattern.specs.declared.text.Context.{Context}
use Rattle.message_pattern.specs.PatternText.{Front, End, Closes, Opens, Takes, message_front, is_nested}
use Rattle.message_pattern.specs.PatternParts.{Part, PatternPiece, Selector, Argument, Begin, Branch}
use Rattle.message_pattern.specs.PatternParts as piece
use Rattle.message_pattern.specs.PatternHeads.{Head, Plain, Choice, BranchFront, head_front, branch_front, is_other, unclosed, pattern_fault_at}
use Rattle.message_pattern.specs.PatternHeads as branch
use Rattle.message_pattern.specs.PatternReading.{InMessage, InArgument, InBranches, Ends, Fails, Calls, ReadOutcome, Read, Faulty, ReadsTo, ends, fails, goes, calls, breaks, read_step, one, at_most_one, context_of, message_step, argument_step, opens_branch, branches_step}

-- ---- in a message

-- what stands at the message_front decides the step
pub front_decides : {formats : Formats} (c : Context) (d : ℕ) (q : Bool) (s : List ℕ) (f : Front) (before : List Part) (o : ReadOutcome)
    → message_front c q s ≡ f → ReadsTo formats (message_step c d f) before o → ReadsTo formats (read_step formats (InMessage c d q) s) before o
front_decides {formats = formats} c d q s f before o e h = subst (λ (g : Front). ReadsTo formats (message_step c d g) before o) (sym e) h

-- a piece is a part
pub piece_read : {formats : Formats} (c : Context) (d : ℕ) (q r : Bool) (s rest : List ℕ) (p : Option PatternPiece)
    (before after : List Part) (o : ReadOutcome)
    → message_front c q s ≡ Takes p r rest → after ≡ before ++ at_most_one d p → ReadsTo formats (read_step formats (InMessage c d r) rest) after o
    → ReadsTo formats (read_step formats (InMessage c d q) s) before o
piece_read {formats = formats} c d q r s rest p before after o e f h =
    goes _ before _ (InMessage c d r) rest o (ap (message_step c d) e)
    (subst (λ (all : List Part). ReadsTo formats (read_step formats (InMessage c d r) rest) all o) f h)

-- the text ends, and so does the message
pub text_ends : {formats : Formats} (c : Context) (d : ℕ) (before : List Part) → is_nested c ≡ false
    → ReadsTo formats (message_step c d End) before (Read before [])
text_ends {formats = formats} c d before whole =
    subst (λ (all : List Part). ReadsTo formats (message_step c d End) before (Read all [])) (append-nil before)
    (ends _ before [] [] (ap (λ (nested : Bool). if nested then Fails unclosed else Ends [] []) whole))

-- the text ends in a branch
pub branch_unclosed : {formats : Formats} (c : Context) (d : ℕ) (before : List Part) → is_nested c ≡ true
    → ReadsTo formats (message_step c d End) before (Faulty unclosed)
branch_unclosed c d before nested = fails _ before unclosed (ap (λ (b : Bool). if b then Fails unclosed else Ends [] []) nested)

-- the branch ends
pub branch_ends : {formats : Formats} (c : Context) (d : ℕ) (rest : List ℕ) (before : List Part)
    → ReadsTo formats (message_step c d (Closes rest)) before (Read before rest)
branch_ends {formats = formats} c d rest before =
    subst (λ (all : List Part). ReadsTo formats (message_step c d (Closes rest)) before (Read all rest)) (append-nil before)
    (ends _ before [] rest refl)

-- an argument is read, and then the message goes on
pub argument_read : {formats : Formats} (c : Context) (d : ℕ) (rest end : List ℕ) (before inner : List Part) (o : ReadOutcome)
    → ReadsTo formats (read_step formats (InArgument d) rest) before (Read inner end)
    → ReadsTo formats (read_step formats (InMessage c d false) end) inner o
    → ReadsTo formats (message_step c d (Opens rest)) before o
argument_read {formats = formats} c d rest end before inner o h k =
    calls _ before [] inner (InArgument d) (InMessage c d false) rest end o refl
    (subst (λ (all : List Part). ReadsTo formats (read_step formats (InArgument d) rest) all (Read inner end))
    (sym (append-nil before)) h) k

-- an argument has a fault
pub argument_broken : {formats : Formats} (c : Context) (d : ℕ) (rest : List ℕ) (before : List Part) (fault : Fault)
    → ReadsTo formats (read_step formats (InArgument d) rest) before (Faulty fault)
    → ReadsTo formats (message_step c d (Opens rest)) before (Faulty fault)
argument_broken {formats = formats} c d rest before fault h =
    breaks _ before [] (InArgument d) (InMessage c d false) rest fault refl
    (subst (λ (all : List Part). ReadsTo formats (read_step formats (InArgument d) rest) all (Faulty fault)) (sym (append-nil before)) h)

-- ---- in an argument

pub head_broken : {formats : Formats} (d : ℕ) (s : List ℕ) (before : List Part) (fault : Fault)
    → head_front formats s ≡ Err fault → ReadsTo formats (read_step formats (InArgument d) s) before (Faulty fault)
head_broken d s before fault e = fails _ before fault (ap (argument_step d) e)

pub plain_read : {formats : Formats} (d : ℕ) (s name rest : List ℕ) (before after : List Part)
    → head_front formats s ≡ Ok (Plain name, rest) → after ≡ before ++ one d (Argument name)
    → ReadsTo formats (read_step formats (InArgument d) s) before (Read after rest)
plain_read {formats = formats} d s name rest before after e f =
    subst (λ (all : List Part). ReadsTo formats (read_step formats (InArgument d) s) before (Read all rest)) (sym f)
    (ends _ before _ rest (ap (argument_step d) e))

pub choice_begins : {formats : Formats} (d : ℕ) (s name rest : List ℕ) (kind : ArgumentKind) (offset : Option (List ℕ))
    (before after : List Part) (o : ReadOutcome)
    → head_front formats s ≡ Ok (Choice kind name offset, rest) → after ≡ before ++ one d (Begin kind name offset)
    → ReadsTo formats (read_step formats (InBranches kind d false) rest) after o
    → ReadsTo formats (read_step formats (InArgument d) s) before o
choice_begins {formats = formats} d s name rest kind offset before after o e f h =
    goes _ before _ (InBranches kind d false) rest o (ap (argument_step d) e)
    (subst (λ (all : List Part). ReadsTo formats (read_step formats (InBranches kind d false) rest) all o) f h)

-- ---- before a branch

pub selector_broken : {formats : Formats} (k : ArgumentKind) (d : ℕ) (b : Bool) (s : List ℕ) (before : List Part) (fault : Fault)
    → branch_front k b s ≡ Err fault → ReadsTo formats (read_step formats (InBranches k d b) s) before (Faulty fault)
selector_broken k d b s before fault e = fails _ before fault (ap (branches_step k d b) e)

pub argument_ends : {formats : Formats} (k : ArgumentKind) (d : ℕ) (b : Bool) (s rest : List ℕ) (before after : List Part)
    → branch_front k b s ≡ Ok (branch.Closes rest) → after ≡ before ++ one d piece.End
    → ReadsTo formats (read_step formats (InBranches k d b) s) before (Read after rest)
argument_ends {formats = formats} k d b s rest before after e f =
    subst (λ (all : List Part). ReadsTo formats (read_step formats (InBranches k d b) s) before (Read all rest)) (sym f)
    (ends _ before _ rest (ap (branches_step k d b) e))

-- where a branch may begin
pub may_open : (k : ArgumentKind) (d : ℕ) (b : Bool) (sel : Selector) (rest : List ℕ) → d < DEPTH_LIMIT
    → opens_branch k d b sel rest
    ≡ Calls (one d (Branch sel)) (InMessage (context_of k) (d + 1) false) (InBranches k d (b || is_other sel)) rest
may_open k d b sel rest room =
    ap (λ (fits : Bool). if fits
    then Calls (one d (Branch sel)) (InMessage (context_of k) (d + 1) false) (InBranches k d (b || is_other sel)) rest
    else Fails (pattern_fault_at TooDeep rest)) (lt-ltb d DEPTH_LIMIT room)

pub branch_read : {formats : Formats} (k : ArgumentKind) (d : ℕ) (b later : Bool) (c : Context) (s rest end : List ℕ)
    (sel : Selector) (before after inner : List Part) (o : ReadOutcome)
    → branch_front k b s ≡ Ok (branch.Opens sel rest) → d < DEPTH_LIMIT → c ≡ context_of k → later ≡ (b || is_other sel)
    → after ≡ before ++ one d (Branch sel)
    → ReadsTo formats (read_step formats (InMessage c (d + 1) false) rest) after (Read inner end)
    → ReadsTo formats (read_step formats (InBranches k d later) end) inner o
    → ReadsTo formats (read_step formats (InBranches k d b) s) before o
branch_read {formats = formats} k d b later c s rest end sel before after inner o e room same_context same_later f h g =
    calls _ before _ inner (InMessage (context_of k) (d + 1) false) (InBranches k d (b || is_other sel)) rest end o
    (ap (branches_step k d b) e ∙ may_open k d b sel rest room)
    (subst (λ (x : Context). ReadsTo formats (read_step formats (InMessage x (d + 1) false) rest) (before ++ one d (Branch sel))
    (Read inner end)) same_context
    (subst (λ (all : List Part). ReadsTo formats (read_step formats (InMessage c (d + 1) false) rest) all (Read inner end)) f h))
    (subst (λ (v : Bool). ReadsTo formats (read_step formats (InBranches k d v) end) inner o) same_later g)

pub branch_broken : {formats : Formats} (k : ArgumentKind) (d : ℕ) (b : Bool) (c : Context) (s rest : List ℕ) (sel : Selector)
    (before after : List Part) (fault : Fault)
    → branch_front k b s ≡ Ok (branch.Opens sel rest) → d < DEPTH_LIMIT → c ≡ context_of k → after ≡ before ++ one d (Branch sel)
    → ReadsTo formats (read_step formats (InMessage c (d + 1) false) rest) after (Faulty fault)
    → ReadsTo formats (read_step formats (InBranches k d b) s) before (Faulty fault)
branch_broken {formats = formats} k d b c s rest sel before after fault e room same_context f h =
    breaks _ before _ (InMessage (context_of k) (d + 1) false) (InBranches k d (b || is_other sel)) rest fault
    (ap (branches_step k d b) e ∙ may_open k d b sel rest room)
    (subst (λ (x : Context). ReadsTo formats (read_step formats (InMessage x (d + 1) false) rest) (before ++ one d (Branch sel))
    (Faulty fault)) same_context
    (subst (λ (all : List Part). ReadsTo formats (read_step formats (InMessage c (d + 1) false) rest) all (Faulty fault)) f h))

pub too_deep : {formats : Formats} (k : ArgumentKind) (d : ℕ) (b : Bool) (s rest : List ℕ) (sel : Selector) (before : List Part)
    → branch_front k b s ≡ Ok (branch.Opens sel rest) → DEPTH_LIMIT ≤ d
    → ReadsTo formats (read_step formats (InBranches k d b) s) before (Faulty (pattern_fault_at TooDeep rest))
too_deep k d b s rest sel before e deep =
    fails _ before _
    (ap (branches_step k d b) e
    ∙ ap (λ (fits : Bool). if fits
    then Calls (one d (Branch sel)) (InMessage (context_of k) (d + 1) false) (InBranches k d (b || is_other sel)) rest
    else Fails (pattern_fault_at TooDeep rest)) (le-ltb d DEPTH_LIMIT deep))
