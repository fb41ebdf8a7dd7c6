-- What waits after several parts of a line are printed.
use Rattle.std.proofs.Common.{◌≡◌, ℕ, zero, suc, ◌+◌, ◌-◌, Bool, true, false, List, [], ◌∷◌, ◌++◌, length, drop, refl, sym, ap, ◌∙◌}
use Rattle.std.proofs.Common.{append_assoc, append-nil, arith, subst, length-append, Option, Some, Result, Ok, Err, get_or, ◌<◌}
use Rattle.std.proofs.KnownBytes.{Appends-nil, Appends-trans}
use Rattle.std.proofs.Math.Seq.{drop-append_seam, drop-cons}
use Rattle.std.specs.Prelude.{OnErr, OnOk}
use Rattle.plural_documents.specs.PrintedKeys.{ended_line}
use Rattle.plural_documents.specs.WrittenLines.{shown_lines}
use Rattle.std.proofs.lemmas.List.{drop-drop}
use Rattle.std.specs.Io.KnownBytes.{Appends}
use Rattle.std.specs.List.{FoldsTo, concat}
use Rattle.std.specs.Fmt.{WritesInCalls, WritesText, with_newline}
use Rattle.plural_documents.specs.Inner.WaitingSteps.{TakesPrinted, TakesBehind, IsWaiting, begun_at}
use Rattle.plural_documents.specs.Inputs.{IsPartWritten}
use Rattle.plural_documents.specs.declared.written_lines.WaitingBytes.{WaitingBytes}

-- without the first bytes of two texts
drop_both : (n : ℕ) (a b : List ℕ) → drop n (a ++ b) ≡ drop n a ++ drop (n - length a) b
drop_both zero a b = let none : 0 - length a ≡ 0 = omega arith in rw none refl
drop_both (suc n) [] b = let same : suc n - 0 ≡ suc n = omega arith in ap (λ m. drop m b) (sym same)
drop_both (suc n) (x ∷ a) b =
    let same : suc n - suc (length a) ≡ n - length a = omega arith in drop_both n a b ∙ ap (λ m. drop n a ++ drop m b) (sym same)

drop_none : (n : ℕ) → let none : List ℕ = [] in drop n none ≡ []
drop_none zero = refl
drop_none (suc n) = refl

-- no bytes
takes_none : (w : WaitingBytes) → TakesPrinted w [] w
takes_none w = (
  record {
    taken = [];
    rest = [];
    split = drop_none w.skip;
    items = sym (append-nil w.bytes.items);
    whole = λ h. (h, refl);
    cut = λ _. refl;
  },
  omega arith,
)

not_both : (b : Bool) → b ≡ false → b ≡ true → ⊥
not_both b off on = grind (arith, off, on)

-- bytes behind bytes: of those that are cut, no more
takes_both : (w v u : WaitingBytes) (a b : List ℕ) → TakesPrinted w a v → TakesPrinted v b u → TakesPrinted w (a ++ b) u
takes_both w v u a b first second = (by v.is_cut refl, skipped)
  where
    one : TakesBehind w (drop w.skip a) v
    one = first.0

    two : TakesBehind v (drop v.skip b) u
    two = second.0

    skipped : u.skip ≡ w.skip - length (a ++ b)
    skipped = let all = length-append a b in omega (arith, first.1, second.1, all)

    parts : drop w.skip (a ++ b) ≡ (one.taken ++ one.rest) ++ (two.taken ++ two.rest)
    parts = drop_both w.skip a b ∙ ap (λ n. drop w.skip a ++ drop n b) (sym first.1)
        ∙ ap (λ l. l ++ drop v.skip b) one.split ∙ ap (λ l. (one.taken ++ one.rest) ++ l) two.split

    by : (is_cut : Bool) → v.is_cut ≡ is_cut → TakesBehind w (drop w.skip (a ++ b)) u
    by false all =
        let none = (one.whole all).1 in
        record {
          taken = one.taken ++ two.taken;
          rest = two.rest;
          split = parts ∙ ap (λ l. (one.taken ++ l) ++ (two.taken ++ two.rest)) none
              ∙ ap (λ l. l ++ (two.taken ++ two.rest)) (append-nil one.taken) ∙ sym (append_assoc one.taken two.taken two.rest);
          items = two.items ∙ ap (λ l. l ++ two.taken) one.items ∙ append_assoc w.bytes.items one.taken two.taken;
          whole = λ h. ((one.whole all).0, (two.whole h).1);
          cut = λ yes. absurd (not_both w.is_cut (one.whole all).0 yes);
        }
    by true some =
        let none = two.cut some in
        record {
          taken = one.taken;
          rest = one.rest ++ two.rest;
          split = parts ∙ ap (λ l. (one.taken ++ one.rest) ++ (l ++ two.rest)) none ∙ append_assoc one.taken one.rest two.rest;
          items = two.items ∙ ap (λ l. v.bytes.items ++ l) none ∙ append-nil v.bytes.items ∙ one.items;
          whole = λ h. absurd (not_both v.is_cut (two.whole h).0 some);
          cut = one.cut;
        }

takes_calls : (w : WaitingBytes) (parts : List (List ℕ)) (v : WaitingBytes) → FoldsTo TakesPrinted w parts v
    → TakesPrinted w (concat parts) v
takes_calls w [] v p = subst (TakesPrinted w []) p (takes_none w)
takes_calls w (part ∷ parts) v p = takes_both w p.0 v part (concat parts) p.1 (takes_calls p.0 parts v p.2)

-- calls that each take what they are given do so together
takes_writes : (w : WaitingBytes) (bytes : List ℕ) (v : WaitingBytes) → WritesInCalls TakesPrinted w bytes v → TakesPrinted w bytes v
takes_writes w bytes v p = subst (λ l. TakesPrinted w l v) p.whole (takes_calls w p.parts v p.calls)

-- ---- What was written and what waits

-- nothing was written yet
pub waits_first : (old : Option (List ℕ)) (waiting : List ℕ) → IsWaiting old old waiting (waiting ++ [])
waits_first old waiting = ([], append-nil waiting, Appends-nil old)

-- what waits follows by some bytes
waits_more : (old now : Option (List ℕ)) (waiting text more next whole : List ℕ) → IsWaiting old now waiting text
    → next ≡ waiting ++ more → whole ≡ text ++ more → IsWaiting old now next whole
waits_more old now waiting text more next whole (taken, split, wrote) grown all =
    (taken, all ∙ ap (λ l. l ++ more) split ∙ append_assoc taken waiting more ∙ ap (λ l. taken ++ l) (sym grown), wrote)

-- one after the other
pub waits_after : (old now new : Option (List ℕ)) (waiting more next text whole : List ℕ) → IsWaiting old now waiting text
    → IsWaiting now new next (waiting ++ more) → whole ≡ text ++ more → IsWaiting old new next whole
waits_after old now new waiting more next text whole (taken, split, wrote) (then, halves, written) all = (
  taken ++ then,
  all ∙ ap (λ l. l ++ more) split ∙ append_assoc taken waiting more ∙ ap (λ l. taken ++ l) halves ∙ sym (append_assoc taken then next),
  Appends-trans old now new taken then wrote written,
)

-- what waited is written
waits_no_more : (old now new : Option (List ℕ)) (waiting text : List ℕ) → IsWaiting old now waiting text
    → Appends now new waiting → IsWaiting old new [] text
waits_no_more old now new waiting text (taken, split, wrote) written =
    (taken ++ waiting, split ∙ sym (append-nil (taken ++ waiting)), Appends-trans old now new taken waiting wrote written)

all_written : (old now : Option (List ℕ)) (text : List ℕ) → IsWaiting old now [] text → Appends old now text
all_written old now text (taken, split, wrote) = subst (Appends old now) (sym (split ∙ append-nil taken)) wrote

-- what was written before a write that failed
part_before : (old now : Option (List ℕ)) (waiting text more whole : List ℕ) → IsWaiting old now waiting text
    → whole ≡ text ++ more → IsPartWritten old now whole
part_before old now waiting text more whole (taken, split, wrote) all =
    (taken, waiting ++ more, all ∙ ap (λ l. l ++ more) split ∙ append_assoc taken waiting more, wrote)

-- and by it
pub part_after : (old now new : Option (List ℕ)) (waiting more bytes text rest whole : List ℕ) → IsWaiting old now waiting text
    → bytes ≡ waiting ++ more → IsPartWritten now new bytes → whole ≡ text ++ (more ++ rest) → IsPartWritten old new whole
part_after old now new waiting more bytes text rest whole (taken, split, wrote) behind (then, left, halves, written) all = (
  taken ++ then,
  left ++ rest,
  all ∙ ap (λ l. l ++ (more ++ rest)) split ∙ append_assoc taken waiting (more ++ rest)
      ∙ ap (λ l. taken ++ l) (sym (append_assoc waiting more rest) ∙ ap (λ l. l ++ rest) (sym behind ∙ halves)
      ∙ append_assoc then left rest)
      ∙ sym (append_assoc taken then (left ++ rest)),
  Appends-trans old now new taken then wrote written,
)

part_of_more : (old now : Option (List ℕ)) (bytes more whole : List ℕ) → IsPartWritten old now bytes → whole ≡ bytes ++ more
    → IsPartWritten old now whole
part_of_more old now bytes more whole (taken, rest, split, wrote) all =
    (taken, rest ++ more, all ∙ ap (λ l. l ++ more) split ∙ append_assoc taken rest more, wrote)

-- ---- A line from one of its bytes on

-- what isn't printed yet
left_of_line : (line printed : List ℕ) (start next : ℕ) (w v : WaitingBytes) → line ≡ printed ++ drop start line
    → (t : TakesBehind (begun_at start w) (drop start line) v) → next ≡ start + length t.taken
    → line ≡ (printed ++ t.taken) ++ drop next line
left_of_line line printed start next w v so_far t is_next =
    let left : drop next line ≡ t.rest =
    ap (λ n. drop n line) is_next ∙ sym (drop-drop (length t.taken) start line) ∙ ap (drop (length t.taken)) t.split
    ∙ drop-append_seam t.taken t.rest in
    so_far ∙ ap (λ l. printed ++ l) t.split ∙ sym (append_assoc printed t.taken t.rest) ∙ ap (λ l. (printed ++ t.taken) ++ l) (sym left)

-- all of it is printed
whole_line : (line printed : List ℕ) (start : ℕ) (w v : WaitingBytes) → line ≡ printed ++ drop start line
    → (t : TakesBehind (begun_at start w) (drop start line) v) → v.is_cut ≡ false → line ≡ printed ++ t.taken
whole_line line printed start w v so_far t all =
    so_far ∙ ap (λ l. printed ++ l) t.split ∙ ap (λ l. printed ++ (t.taken ++ l)) (t.whole all).1
    ∙ ap (λ l. printed ++ l) (append-nil t.taken)

split_line : (before line printed rest : List ℕ) → line ≡ printed ++ rest → before ++ line ≡ (before ++ printed) ++ rest
split_line before line printed rest split = ap (λ l. before ++ l) split ∙ sym (append_assoc before printed rest)

-- how far the line is printed
pub next_start : (start next printed waited waiting : ℕ) (w v : WaitingBytes) (bytes : List ℕ) (t : TakesBehind (begun_at start w) bytes v)
    → waited ≡ length w.bytes.items → waiting ≡ length v.bytes.items → printed ≡ waiting - waited → next ≡ start + printed
    → next ≡ start + length t.taken
next_start start next printed waited waiting w v bytes t one two three four =
    let all = length-append w.bytes.items t.taken in
    let grown = ap length t.items in
    omega (arith, all, grown, one, two, three, four)

-- ---- Lines

pub next_lines : {T : Type 0} (line_of : T → List ℕ) (things : List T) (i : ℕ) (thing : T) → i < length things
    → thing ≡ get_or things i thing
    → shown_lines line_of (drop i things) ≡ ended_line (line_of thing) ++ shown_lines line_of (drop (i + 1) things)
next_lines line_of things i thing within is =
    let one : suc i ≡ i + 1 = omega arith in
    ap (shown_lines line_of) (drop-cons things i thing within)
    ∙ ap (λ x. ended_line (line_of x) ++ shown_lines line_of (drop (suc i) things)) (sym is)
    ∙ ap (λ n. ended_line (line_of thing) ++ shown_lines line_of (drop n things)) one

pub on_err : {A E : Type 0} (r : Result A E) (P : Type 0) → P → OnErr r P
on_err (Ok x) P h = tt
on_err (Err e) P h = h

pub on_err_then : {A E : Type 0} (r : Result A E) (P Q : Type 0) → (P → Q) → OnErr r P → OnErr r Q
on_err_then (Ok x) P Q then h = tt
on_err_then (Err e) P Q then h = then h

pub on_ok_then : {A E : Type 0} (r : Result A E) (P Q : Type 0) → (P → Q) → OnOk r P → OnOk r Q
on_ok_then (Ok x) P Q then h = then h
on_ok_then (Err e) P Q then h = tt

-- the line and its end are printed
pub takes_line : (w v : WaitingBytes) (shown : Option (List ℕ)) (text : List ℕ) → shown ≡ Some text
    → WritesText TakesPrinted w (with_newline shown) v → TakesPrinted w (ended_line text) v
takes_line w v shown text is h = takes_writes w (ended_line text) v (subst (λ o. WritesText TakesPrinted w (with_newline o) v) is h)

-- ---- One line

pub line_part : (old now : Option (List ℕ)) (waiting before line printed : List ℕ) (start : ℕ) → line ≡ printed ++ drop start line
    → IsWaiting old now waiting (before ++ printed) → IsPartWritten old now (before ++ line)
line_part old now waiting before line printed start so_far waits =
    part_before old now waiting (before ++ printed) (drop start line) (before ++ line) waits
    (split_line before line printed (drop start line) so_far)

-- what waits once it is printed as far as there is room
line_waits : (old now : Option (List ℕ)) (before line printed : List ℕ) (start : ℕ) (w v : WaitingBytes)
    → IsWaiting old now w.bytes.items (before ++ printed) → (t : TakesBehind (begun_at start w) (drop start line) v)
    → IsWaiting old now v.bytes.items (before ++ (printed ++ t.taken))
line_waits old now before line printed start w v waits t =
    waits_more old now w.bytes.items (before ++ printed) t.taken v.bytes.items (before ++ (printed ++ t.taken)) waits t.items
    (sym (append_assoc before printed t.taken))

pub line_whole : (old now : Option (List ℕ)) (before line printed : List ℕ) (start : ℕ) (w v : WaitingBytes)
    → line ≡ printed ++ drop start line
    → IsWaiting old now w.bytes.items (before ++ printed) → (t : TakesBehind (begun_at start w) (drop start line) v) → v.is_cut ≡ false
    → IsWaiting old now v.bytes.items (before ++ line)
line_whole old now before line printed start w v so_far waits t all =
    subst (λ l. IsWaiting old now v.bytes.items (before ++ l)) (sym (whole_line line printed start w v so_far t all))
    (line_waits old now before line printed start w v waits t)

pub line_next : (old now new : Option (List ℕ)) (before line printed none : List ℕ) (start next : ℕ) (w v : WaitingBytes)
    → line ≡ printed ++ drop start line → IsWaiting old now w.bytes.items (before ++ printed)
    → (t : TakesBehind (begun_at start w) (drop start line) v) → next ≡ start + length t.taken → Appends now new v.bytes.items → none ≡ []
    → (printed : List ℕ) × (line ≡ printed ++ drop next line) × IsWaiting old new none (before ++ printed)
line_next old now new before line printed none start next w v so_far waits t is written empty = (
  printed ++ t.taken,
  left_of_line line printed start next w v so_far t is,
  subst (λ l. IsWaiting old new l (before ++ (printed ++ t.taken))) (sym empty)
      (waits_no_more old now new v.bytes.items (before ++ (printed ++ t.taken))
      (line_waits old now before line printed start w v waits t) written),
)

pub line_part_after : (old now new : Option (List ℕ)) (before line printed : List ℕ) (start next : ℕ) (w v : WaitingBytes)
    → line ≡ printed ++ drop start line → IsWaiting old now w.bytes.items (before ++ printed)
    → (t : TakesBehind (begun_at start w) (drop start line) v) → next ≡ start + length t.taken → IsPartWritten now new v.bytes.items
    → IsPartWritten old new (before ++ line)
line_part_after old now new before line printed start next w v so_far waits t is part =
    part_after old now new v.bytes.items [] v.bytes.items (before ++ (printed ++ t.taken)) (drop next line) (before ++ line)
    (line_waits old now before line printed start w v waits t) (sym (append-nil v.bytes.items)) part
    (split_line before line (printed ++ t.taken) (drop next line) (left_of_line line printed start next w v so_far t is))

-- ---- All lines, and the end

pub lines_part : (old now : Option (List ℕ)) (waiting lines end : List ℕ) → IsPartWritten old now (waiting ++ lines)
    → IsPartWritten old now (waiting ++ (lines ++ end))
lines_part old now waiting lines end part =
    part_of_more old now (waiting ++ lines) end (waiting ++ (lines ++ end)) part (sym (append_assoc waiting lines end))

pub lines_part_after : (old now new : Option (List ℕ)) (next waiting lines end : List ℕ) → IsWaiting old now next (waiting ++ lines)
    → IsPartWritten now new next → IsPartWritten old new (waiting ++ (lines ++ end))
lines_part_after old now new next waiting lines end waits part =
    part_after old now new next [] next (waiting ++ lines) end (waiting ++ (lines ++ end)) waits (sym (append-nil next)) part
    (sym (append_assoc waiting lines end))

pub lines_written : (old now mid new : Option (List ℕ)) (next waiting lines end : List ℕ) → IsWaiting old now next (waiting ++ lines)
    → Appends now mid next → Appends mid new end → Appends old new (waiting ++ (lines ++ end))
lines_written old now mid new next waiting lines end waits written last =
    subst (Appends old new) (append_assoc waiting lines end)
    (Appends-trans old mid new (waiting ++ lines) end
    (all_written old mid (waiting ++ lines) (waits_no_more old now mid next (waiting ++ lines) waits written)) last)

pub end_part : (old now mid new : Option (List ℕ)) (next waiting lines end : List ℕ) → IsWaiting old now next (waiting ++ lines)
    → Appends now mid next → IsPartWritten mid new end → IsPartWritten old new (waiting ++ (lines ++ end))
end_part old now mid new next waiting lines end waits written part =
    part_after old mid new [] end end (waiting ++ lines) [] (waiting ++ (lines ++ end))
    (waits_no_more old now mid next (waiting ++ lines) waits written) refl part
    (ap (λ l. waiting ++ (lines ++ l)) (sym (append-nil end)) ∙ sym (append_assoc waiting lines (end ++ [])))
