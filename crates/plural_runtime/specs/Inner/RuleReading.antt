-- A reader of rule bytes, for the view of a rule, the laws and private contracts. Not a definition
-- of the subject.
use Rattle.std.specs.Prelude.{ℕ, ◌+◌, ◌*◌, ◌%◌, List, [], ◌∷◌, map, drop, slice_index, if◌then◌else◌, ◌==◌, nat_lt, Option, Some, None}
use Rattle.packed_list.specs.Inner.ListReading.{items_in}
use Rattle.plural_operands.specs.declared.operand.Operand.{Operand}
use Rattle.plural_operands.specs.declared.operand.Operand.TheVariants.{N, I, V, W, F, T, C, E}
use Rattle.plural_reference.specs.declared.ast.Operator.{Operator}
use Rattle.plural_reference.specs.declared.ast.Operator.TheVariants.{Eq, NotEq}
use Rattle.plural_runtime.specs.declared.kinds.AndOr.{AndOr}
use Rattle.plural_runtime.specs.declared.kinds.AndOr.TheVariants.{And, Or}
use Rattle.plural_runtime.specs.PackedRelations.{PackedRelation, head_length, RuleBytes}

-- the meaning of bit 7 of a byte
abbrev pub and_or_in : ℕ → AndOr
and_or_in byte = if nat_lt byte 128 then Or else And

-- the meaning of bit 6
abbrev pub operator_in : ℕ → Operator
operator_in byte = if nat_lt (byte % 128) 64 then NotEq else Eq

-- the operand with a number, if that is at most 7
abbrev pub operand_numbered : ℕ → Option Operand
operand_numbered n =
    if n == 0 then Some N else (if n == 1 then Some I else (if n == 2 then Some V else (if n == 3 then Some W
    else (if n == 4 then Some F else (if n == 5 then Some T else (if n == 6 then Some C else (if n == 7 then Some E else None)))))))

-- the meaning of bits 0 to 5
abbrev pub operand_in : ℕ → Option Operand
operand_in byte = operand_numbered (byte % 64)

abbrev pub operand_or_n : Option Operand → Operand
operand_or_n None = N
operand_or_n (Some operand) = operand

-- four bytes as a number, low byte first
abbrev pub four_byte_number : ℕ → ℕ → ℕ → ℕ → ℕ
four_byte_number a b c d = a + 256 * (b + 256 * (c + 256 * d))

-- both ends of a range in eight bytes
abbrev pub range_in : List ℕ → ℕ × ℕ
range_in bytes = (
  four_byte_number (slice_index bytes 0) (slice_index bytes 1) (slice_index bytes 2) (slice_index bytes 3),
  four_byte_number (slice_index bytes 4) (slice_index bytes 5) (slice_index bytes 6) (slice_index bytes 7),
)

-- the ranges in eight bytes each
abbrev pub ranges_in : List ℕ → List (ℕ × ℕ)
ranges_in (a ∷ b ∷ c ∷ d ∷ e ∷ f ∷ g ∷ h ∷ bytes) = (four_byte_number a b c d, four_byte_number e f g h) ∷ ranges_in bytes
ranges_in _ = []

-- the relation that an item of a rule holds
unfoldable pub relation_in : List ℕ → PackedRelation
relation_in bytes = record {
  and_or = and_or_in (slice_index bytes 0);
  meaning = record {
    operand = operand_or_n (operand_in (slice_index bytes 0));
    modulus = four_byte_number (slice_index bytes 1) (slice_index bytes 2) (slice_index bytes 3) (slice_index bytes 4);
    operator = operator_in (slice_index bytes 0);
    ranges = ranges_in (drop head_length bytes);
  };
}

-- the relations that bytes hold, if they encode a rule
unfoldable pub relations_in : List ℕ → List PackedRelation
relations_in bytes = map relation_in (items_in bytes)

-- the bytes encode the relations that they hold
abbrev pub AreRuleBytes : List ℕ → Type 0
AreRuleBytes bytes = RuleBytes (relations_in bytes) bytes
