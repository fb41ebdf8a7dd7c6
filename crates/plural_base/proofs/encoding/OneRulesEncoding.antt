-- The items of rules tell the rules.
use Rattle.std.proofs.Common.{◌≡◌, ◌↔◌, ℕ, ◌+◌, ◌≤◌, List, [], ◌∷◌, ◌++◌, Option, Some, None, refl, sym, ap, ◌∙◌, subst, arith, append-nil}
use Rattle.std.specs.Prelude.{⊤}
use Rattle.plural_runtime.specs.PackedRelations.{PackedRelation, RuleBytes, packed_bytes}
use Rattle.plural_base.specs.FiveRules.{FiveRules, five}
use Rattle.plural_base.specs.RulesBytes.{keyed, rule_items, CanPackRule, CanPackRules}

-- a rule as contracts see it
abbrev Rule : Type 0
Rule = List PackedRelation

-- the law of packed rules that is used below
abbrev pub OneRule : Type 0
OneRule = (relations others : Rule) (a b : List ℕ) → RuleBytes relations a → RuleBytes others b → (a ≡ b) ↔ (relations ≡ others)

-- the key of the first item, if any, is at least this one
abbrev StartsAt : ℕ → List (List ℕ) → Type 0
StartsAt least [] = ⊤
StartsAt least ([] ∷ items) = ⊤
StartsAt least ((key ∷ bytes) ∷ items) = least ≤ key

-- so it is at least one lower
starts_lower : (least : ℕ) (items : List (List ℕ)) → StartsAt (least + 1) items → StartsAt least items
starts_lower least [] h = tt
starts_lower least ([] ∷ items) h = tt
starts_lower least ((key ∷ bytes) ∷ items) h = omega arith

-- after a rule that may be absent, too
starts_at : (key : ℕ) (rule : Option Rule) (items : List (List ℕ)) → StartsAt (key + 1) items → StartsAt key (keyed key rule ++ items)
starts_at key None items h = starts_lower key items h
starts_at key (Some rule) items h = let same : key ≤ key = omega arith in same

-- no item with a lower key is first
not_below : (key : ℕ) (items : List (List ℕ)) (bytes : List ℕ) (others : List (List ℕ)) → StartsAt (key + 1) items
    → items ≡ (key ∷ bytes) ∷ others → ⊥
not_below key items bytes others h same = let low : key + 1 ≤ key = subst (StartsAt (key + 1)) same h in omega arith

-- the items of a rule and of those after it tell whether it is present, and which it is
told_apart : OneRule → (key : ℕ) (rule other : Option Rule) (items others : List (List ℕ)) → CanPackRule rule → CanPackRule other
    → StartsAt (key + 1) items → StartsAt (key + 1) others → keyed key rule ++ items ≡ keyed key other ++ others
    → (rule ≡ other) × (items ≡ others)
told_apart one key None None items others can could from until h = (refl, h)
told_apart one key None (Some other) items others can could from until h = absurd (not_below key items (packed_bytes other) others from h)
told_apart one key (Some rule) None items others can could from until h =
    absurd (not_below key others (packed_bytes rule) items until (sym h))
told_apart one key (Some rule) (Some other) items others can could from until h =
    let same : (key ∷ packed_bytes rule) ∷ items ≡ (key ∷ packed_bytes other) ∷ others = h in
    let bytes : packed_bytes rule ≡ packed_bytes other = cc in
    let behind : items ≡ others = cc in
    (ap Some ((one rule other (packed_bytes rule) (packed_bytes other) can could).0 bytes), behind)

-- the items of the rules from few on, from two on, and from one on
abbrev from_few : FiveRules → List (List ℕ)
from_few rules = keyed 3 rules.few ++ keyed 4 rules.many

abbrev from_two : FiveRules → List (List ℕ)
from_two rules = keyed 2 rules.two ++ from_few rules

abbrev from_one : FiveRules → List (List ℕ)
from_one rules = keyed 1 rules.one ++ from_two rules

-- the first of them has at least that key
many_starts : (rules : FiveRules) → StartsAt 4 (keyed 4 rules.many)
many_starts rules = subst (StartsAt 4) (append-nil (keyed 4 rules.many)) (starts_at 4 rules.many [] tt)

few_starts : (rules : FiveRules) → StartsAt 3 (from_few rules)
few_starts rules = starts_at 3 rules.few (keyed 4 rules.many) (many_starts rules)

two_starts : (rules : FiveRules) → StartsAt 2 (from_two rules)
two_starts rules = starts_at 2 rules.two (from_few rules) (few_starts rules)

one_starts : (rules : FiveRules) → StartsAt 1 (from_one rules)
one_starts rules = starts_at 1 rules.one (from_two rules) (two_starts rules)

-- rules are the same if each is
same_rules : (rules others : FiveRules) → rules.zero ≡ others.zero → rules.one ≡ others.one → rules.two ≡ others.two
    → rules.few ≡ others.few → rules.many ≡ others.many → rules ≡ others
same_rules rules others zero one two few many =
    ap (λ rule. five rule rules.one rules.two rules.few rules.many) zero
    ∙ ap (λ rule. five others.zero rule rules.two rules.few rules.many) one
    ∙ ap (λ rule. five others.zero others.one rule rules.few rules.many) two
    ∙ ap (λ rule. five others.zero others.one others.two rule rules.many) few
    ∙ ap (λ rule. five others.zero others.one others.two others.few rule) many

-- rules with the same items are the same
pub same_items : OneRule → (rules others : FiveRules) → CanPackRules rules → CanPackRules others → rule_items rules ≡ rule_items others
    → rules ≡ others
same_items one rules others can could h =
    let zero = told_apart one 0 rules.zero others.zero (from_one rules) (from_one others) can.zero could.zero (one_starts rules)
    (one_starts others) h in
    let first = told_apart one 1 rules.one others.one (from_two rules) (from_two others) can.one could.one (two_starts rules)
    (two_starts others) zero.1 in
    let two = told_apart one 2 rules.two others.two (from_few rules) (from_few others) can.two could.two (few_starts rules)
    (few_starts others) first.1 in
    let few = told_apart one 3 rules.few others.few (keyed 4 rules.many) (keyed 4 others.many) can.few could.few (many_starts rules)
    (many_starts others) two.1 in
    let many = told_apart one 4 rules.many others.many [] [] can.many could.many tt tt
    (append-nil (keyed 4 rules.many) ∙ few.1 ∙ sym (append-nil (keyed 4 others.many))) in
    same_rules rules others zero.0 first.0 two.0 few.0 many.0
