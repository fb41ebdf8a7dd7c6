use Rattle.std.proofs.Common.{◌≡◌, ◌≤◌, ◌-◌, [], ⊎_elim, arith, drop, length, refl, subst, sym, take}
use Rattle.std.proofs.lemmas.Grind.{common_steps}
use Rattle.std.proofs.lemmas.List.{nil_from_length}
use Rattle.message_pattern.specs.PatternParts.{Part, Argument, Begin, Branch, End, Exactly, Hash, Keyword, Text}
use Rattle.message_pattern.specs.declared.part.ArgumentKind.TheVariants.{Ordinal, Plural, Select}
use Rattle.packed_pattern.specs.Inner.PlacesAhead.{GoesOnTo}
use Rattle.packed_pattern.proofs.PartsWalked.{one_walked}
use Rattle.packed_pattern.proofs.walk.Walk.take.Goals as goal

pub returns-in-0 : goal.returns-in-0
returns-in-0 c = λ items w t.
    let depth = c.from-depth.result in
    let deep : depth ≤ 32 = omega (arith, c.if-depth-gt-DEPTH_LIMIT.false) in
    let content = take (length c.args.item.now - 2) (drop 2 c.args.item.now) in
    let s = c.take_plain.ensures t in
    ⊎_elim
    (λ e. one_walked c.args.self.now c.take_plain.new.self (record { depth = depth; piece = Text content }) c.args.index c.args.item.now items w
    deep c.in-len2-up.len_at_least e c.from-depth.ensures
    (record { content = record { fits = refl; bytes = refl }; before = (sym s.0, λ h. cc); walk = s.1 }))
    (λ e. one_walked c.args.self.now c.take_plain.new.self (record { depth = depth; piece = Argument content }) c.args.index c.args.item.now items w
    deep c.in-len2-up.len_at_least e c.from-depth.ensures
    (record { content = record { fits = refl; bytes = refl }; before = (sym s.0, λ h. cc); walk = s.1 }))
    c.in-0.is

pub returns-then-is_empty : goal.returns-then-is_empty
returns-then-is_empty c = λ items w t.
    let content = take (length c.args.item.now - 2) (drop 2 c.args.item.now) in
    let none : content ≡ [] = nil_from_length content (grind (arith, common_steps, c.is_empty.ensures, c.if-is_empty.true)) in
    let s = c.take_plain-then-is_empty.ensures t in
    one_walked c.args.self.now c.take_plain-then-is_empty.new.self (record { depth = c.from-depth.result; piece = Hash }) c.args.index
    c.args.item.now items w (omega (arith, c.if-depth-gt-DEPTH_LIMIT.false)) c.in-len2-up.len_at_least c.in-1.is c.from-depth.ensures
    (record { content = record { fits = refl; bytes = none }; before = (sym s.0, λ h. cc); walk = s.1 })

pub returns-in-3 : goal.returns-in-3
returns-in-3 c = λ items w t.
    let s = c.take_plural.ensures t in
    one_walked c.args.self.now c.take_plural.new.self (record { depth = c.from-depth.result; piece = Begin Plural s.0 s.1 }) c.args.index
    c.args.item.now items w (omega (arith, c.if-depth-gt-DEPTH_LIMIT.false)) c.in-len2-up.len_at_least c.in-3.is c.from-depth.ensures s.2

pub returns-in-4 : goal.returns-in-4
returns-in-4 c = λ items w t.
    let s = c.take_plural-in-4.ensures t in
    one_walked c.args.self.now c.take_plural-in-4.new.self (record { depth = c.from-depth.result; piece = Begin Ordinal s.0 s.1 }) c.args.index
    c.args.item.now items w (omega (arith, c.if-depth-gt-DEPTH_LIMIT.false)) c.in-len2-up.len_at_least c.in-4.is c.from-depth.ensures
    (record { content = record { fits = s.2.content.fits; bytes = s.2.content.bytes }; before = s.2.before; walk = s.2.walk })

pub returns-in-5 : goal.returns-in-5
returns-in-5 c = λ items w t.
    let s = c.take_select.ensures t in
    one_walked c.args.self.now c.take_select.new.self (record { depth = c.from-depth.result; piece = Begin Select s.0 s.1 }) c.args.index
    c.args.item.now items w (omega (arith, c.if-depth-gt-DEPTH_LIMIT.false)) c.in-len2-up.len_at_least c.in-5.is c.from-depth.ensures s.2

pub returns-in-6 : goal.returns-in-6
returns-in-6 c = λ items w t.
    let s = c.take_keyword.ensures t in
    one_walked c.args.self.now c.take_keyword.new.self (record { depth = c.from-depth.result; piece = Branch (Keyword s.0) }) c.args.index
    c.args.item.now items w (omega (arith, c.if-depth-gt-DEPTH_LIMIT.false)) c.in-len2-up.len_at_least c.in-6.is c.from-depth.ensures s.1

pub returns-in-7 : goal.returns-in-7
returns-in-7 c = λ items w t.
    let s = c.take_number.ensures t in
    one_walked c.args.self.now c.take_number.new.self (record { depth = c.from-depth.result; piece = Branch (Exactly s.0) }) c.args.index
    c.args.item.now items w (omega (arith, c.if-depth-gt-DEPTH_LIMIT.false)) c.in-len2-up.len_at_least c.in-7.is c.from-depth.ensures s.1

pub returns-then-is_empty-2 : goal.returns-then-is_empty-2
returns-then-is_empty-2 c = λ items w t.
    let p : Part = record { depth = c.from-depth.result; piece = End } in
    let content = take (length c.args.item.now - 2) (drop 2 c.args.item.now) in
    let none : content ≡ [] = nil_from_length content (grind (arith, common_steps, c.is_empty-in-8.ensures, c.if-is_empty-2.true)) in
    one_walked c.args.self.now c.take_end.new.self p c.args.index c.args.item.now items w (omega (arith, c.if-depth-gt-DEPTH_LIMIT.false))
    c.in-len2-up.len_at_least c.in-8.is c.from-depth.ensures
    (subst (λ bytes. GoesOnTo p c.args.index bytes c.args.self.now c.take_end.new.self) (sym none) (c.take_end.ensures t))
