-- Every text is read to an outcome.
use Rattle.std.proofs.Common.{◌≡◌, ◌<◌, ◌≤◌, ◌+◌, ◌*◌, ℕ, zero, suc, List, [], ◌++◌, Bool, true, false, ◌||◌, nat_lt, Result, Ok, Err, length, refl, arith, if◌then◌else◌}
use Rattle.message_pattern.specs.declared.head.Formats.{Formats}
use Rattle.message_pattern.specs.declared.error.Fault.{Fault}
use Rattle.message_pattern.specs.declared.error.FaultKind.TheVariants.{TooDeep}
use Rattle.message_pattern.specs.declared.part.ArgumentKind.{ArgumentKind}
use Rattle.message_pattern.specs.declared.reader.TheConstants.{DEPTH_LIMIT}
use Rattle.message_pattern.specs.declared.text.Context.{Context}
use Rattle.message_pattern.specs.PatternText.{Front, End, Closes, Opens, Takes, message_front, is_nested}
use Rattle.message_pattern.specs.PatternParts.{Part, Selector, Branch}
use Rattle.message_pattern.specs.PatternHeads.{Head, Plain, Choice, BranchFront, head_front, branch_front, is_other, unclosed, pattern_fault_at}
use Rattle.message_pattern.specs.PatternHeads as branch
use Rattle.message_pattern.specs.PatternReading.{PatternPlace, InMessage, InArgument, InBranches, ReadStep, Ends, Fails, Goes, Calls, ReadOutcome, Read, Faulty, ReadsTo, ends, fails, goes, calls, breaks, read_step, one, context_of, message_step, argument_step, branches_step}
use Rattle.message_pattern.specs.Inner.PatternViews.{IsShorter}
use Rattle.message_pattern.proofs.GrammarHeads.{head_sound, branch_sound}
use Rattle.message_pattern.proofs.Shorter.{front_shorter, head_le, branch_less}

-- what is left to read at a place
abbrev pub size : PatternPlace → List ℕ → ℕ
size (InMessage c d q) s = 2 * length s
size (InArgument d) s = 2 * length s + 1
size (InBranches k d o) s = 2 * length s

-- a step leaves less to read
abbrev pub LeavesLess : ℕ → List ℕ → ReadStep → Type 0
LeavesLess n s (Ends parts rest) = length rest ≤ length s
LeavesLess n s (Fails fault) = Unit {0}
LeavesLess n s (Goes parts next t) = (size next t < n) × (length t ≤ length s)
LeavesLess n s (Calls parts next after t) =
    (size next t < n) × (length t ≤ length s) × ((u : List ℕ) → length u ≤ length t → size after u < n)

end_less : (c : Context) (s : List ℕ) (v : Bool) → LeavesLess (2 * length s) s (if v then Fails unclosed else Ends [] [])
end_less c s true = tt
end_less c s false = omega arith

message_less : (c : Context) (d : ℕ) (s : List ℕ) (f : Front) → IsShorter f s → LeavesLess (2 * length s) s (message_step c d f)
message_less c d s End h = end_less c s (is_nested c)
message_less c d s (Closes rest) h = omega (arith, h)
message_less c d s (Opens t) h = (omega (arith, h), omega (arith, h), λ u k. omega (arith, h, k))
message_less c d s (Takes p q t) h = (omega (arith, h), omega (arith, h))

argument_less : (formats : Formats) (d : ℕ) (s : List ℕ) (r : Result (Head × List ℕ) Fault) → head_front formats s ≡ r
    → LeavesLess (2 * length s + 1) s (argument_step d r)
argument_less formats d s (Err fault) e = tt
argument_less formats d s (Ok (Plain name, rest)) e = head_le formats s (Plain name) rest (head_sound formats s (Plain name, rest) e)
argument_less formats d s (Ok (Choice kind name offset, rest)) e =
    let h : length rest ≤ length s =
    head_le formats s (Choice kind name offset) rest (head_sound formats s (Choice kind name offset, rest) e) in
    (omega (arith, h), h)

opens_less : (k : ArgumentKind) (d : ℕ) (o : Bool) (s t : List ℕ) (sel : Selector) (v : Bool) → length t < length s
    → LeavesLess (2 * length s) s
    (if v then Calls (one d (Branch sel)) (InMessage (context_of k) (d + 1) false) (InBranches k d (o || is_other sel)) t
    else Fails (pattern_fault_at TooDeep t))
opens_less k d o s t sel true h = (omega (arith, h), omega (arith, h), λ u l. omega (arith, h, l))
opens_less k d o s t sel false h = tt

branches_less : (k : ArgumentKind) (d : ℕ) (o : Bool) (s : List ℕ) (r : Result BranchFront Fault) → branch_front k o s ≡ r
    → LeavesLess (2 * length s) s (branches_step k d o r)
branches_less k d o s (Err fault) e = tt
branches_less k d o s (Ok (branch.Closes rest)) e =
    let h : length rest < length s =
    branch_less k o s _ (branch.Closes rest) refl (branch_sound k o s (branch.Closes rest) e) in omega (arith, h)
branches_less k d o s (Ok (branch.Opens sel t)) e =
    opens_less k d o s t sel (nat_lt d DEPTH_LIMIT)
    (branch_less k o s _ (branch.Opens sel t) refl (branch_sound k o s (branch.Opens sel t) e))

step_less : (formats : Formats) (place : PatternPlace) (s : List ℕ) → LeavesLess (size place s) s (read_step formats place s)
step_less formats (InMessage c d q) s = message_less c d s (message_front c q s) (front_shorter c q s)
step_less formats (InArgument d) s = argument_less formats d s (head_front formats s) refl
step_less formats (InBranches k d o) s = branches_less k d o s (branch_front k o s) refl

-- what follows is no longer than the text
abbrev pub IsWithin : ℕ → ReadOutcome → Type 0
IsWithin n (Read parts rest) = length rest ≤ n
IsWithin n (Faulty fault) = Unit {0}

within_more : (m n : ℕ) (o : ReadOutcome) → m ≤ n → IsWithin m o → IsWithin n o
within_more m n (Read parts rest) h k = omega (arith, h, k)
within_more m n (Faulty fault) h k = tt

-- an outcome
abbrev pub Found : Formats → PatternPlace → List ℕ → List Part → Type 0
Found formats place s before = (o : ReadOutcome) × ReadsTo formats (read_step formats place s) before o × IsWithin (length s) o

calls_found : {formats : Formats} (n : ℕ) (again : (p : PatternPlace) (t : List ℕ) (b : List Part) → size p t < n → Found formats p t b)
    (place next after : PatternPlace) (s t : List ℕ) (before parts : List Part) (o : ReadOutcome)
    → read_step formats place s ≡ Calls parts next after t → length t ≤ length s → ((u : List ℕ) → length u ≤ length t → size after u < n)
    → ReadsTo formats (read_step formats next t) (before ++ parts) o → IsWithin (length t) o → Found formats place s before
calls_found n again place next after s t before parts (Read inner u) e le less h w =
    let k = again after u inner (less u w) in
    (k.0, calls _ before parts inner next after t u k.0 e h k.1, within_more (length u) (length s) k.0 (omega (arith, w, le)) k.2)
calls_found n again place next after s t before parts (Faulty fault) e le less h w =
    (Faulty fault, breaks _ before parts next after t fault e h, tt)

step_found : {formats : Formats} (n : ℕ) (again : (p : PatternPlace) (t : List ℕ) (b : List Part) → size p t < n → Found formats p t b)
    (place : PatternPlace) (s : List ℕ) (before : List Part) (x : ReadStep) → size place s ≤ n → read_step formats place s ≡ x
    → LeavesLess (size place s) s x → Found formats place s before
step_found n again place s before (Ends parts rest) m e h = (Read (before ++ parts) rest, ends _ before parts rest e, h)
step_found n again place s before (Fails fault) m e h = (Faulty fault, fails _ before fault e, tt)
step_found n again place s before (Goes parts next t) m e h =
    let k = again next t (before ++ parts) (omega (arith, h.0, m)) in
    (k.0, goes _ before parts next t k.0 e k.1, within_more (length t) (length s) k.0 h.1 k.2)
step_found n again place s before (Calls parts next after t) m e h =
    let k = again next t (before ++ parts) (omega (arith, h.0, m)) in
    calls_found n again place next after s t before parts k.0 e h.1
    (λ u l. let x : size after u < size place s = h.2 u l in omega (arith, x, m)) k.1 k.2

found_below : {formats : Formats} (n : ℕ) (place : PatternPlace) (s : List ℕ) (before : List Part) → size place s < n
    → Found formats place s before
found_below zero place s before h = absurd (omega (arith, h))
found_below {formats = formats} (suc n) place s before h =
    step_found n (λ p t b k. found_below n p t b k) place s before (read_step formats place s) (omega (arith, h)) refl
    (step_less formats place s)

-- every text is read
pub found : {formats : Formats} (place : PatternPlace) (s : List ℕ) (before : List Part) → Found formats place s before
found place s before = found_below (size place s + 1) place s before (omega arith)
