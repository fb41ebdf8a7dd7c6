use Rattle.std.proofs.Common.{◌≡◌, ℕ, ◌-◌, ◌^◌, ◌≤◌, ◌<◌, ◌++◌, List, length, drop, min, sym, ap, ◌∙◌, arith}
use Rattle.plural_message.specs.Messages.{IsFilling, IsWrittenTo}
use Rattle.plural_message.proofs.OneWay.{one_filling}
use Rattle.plural_message.proofs.fill_into.fill_into.Goals as goal

-- two fillings of a text are one
same_filling : (number text a b : List ℕ) → IsFilling number text a → IsFilling number text b → a ≡ b
same_filling number text a b f g = (one_filling number text).2 a f ∙ sym ((one_filling number text).2 b g)

-- a length that is told and fits is the length
fits : (told most room : ℕ) (a b : List ℕ) → room < most → told ≡ min (length a) most → told ≤ room → a ≡ b → length b ≤ room
fits told most room a b short is inside same = omega (arith, short, is, inside, ap length same)

-- what is told of a text that was written
written : (old new a b : List ℕ) (told : ℕ) → told ≡ min (length a) (2 ^ 64 - 1) → a ≡ b → length b ≤ length old
    → new ≡ b ++ drop (length b) old → IsWrittenTo old new told a
written old new a b told told_is same room new_is =
    record {
      told_is = told_is;
      fits = λ _. new_is ∙ ap (λ l. l ++ drop (length l) old) (sym same);
      too_long = λ short. absurd (omega (arith, short, room, ap length same));
    }

pub write_filled-requires : goal.write_filled-requires
write_filled-requires c = λ filled filling.
    let told = c.filled_length-length.ensures in
    fits c.filled_length-length.result 18446744073709551615 (length c.args.out.now) told.0 filled (grind arith) told.2 c.if-length-out.true
    (same_filling c.args.number.now c.args.text.now told.0 filled told.1 filling)

pub returns-then-length-out : goal.returns-then-length-out
returns-then-length-out c =
    let told = c.filled_length-length.ensures in
    let wrote = c.write_filled.ensures in
    let same = same_filling c.args.number.now c.args.text.now told.0 wrote.0 told.1 wrote.1 in
    let room = fits c.filled_length-length.result 18446744073709551615 (length c.args.out.now) told.0 wrote.0 (grind arith) told.2
    c.if-length-out.true same in
    (told.0, told.1, written c.args.out.now c.write_filled.new.out told.0 wrote.0 c.filled_length-length.result told.2 same room wrote.2)
