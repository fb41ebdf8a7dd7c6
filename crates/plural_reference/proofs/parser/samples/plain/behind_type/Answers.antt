use Rattle.std.proofs.Common.{◌∷◌, [], arith, rules}
use Rattle.plural_reference.proofs.plain.PlainBytes.{ShowsAt, decimal_type, integer_type, split_front}
use Rattle.plural_reference.proofs.parser.samples.plain.behind_type.Goals as goal

pub returns-in-105-clause-kind : goal.returns-in-105-clause-kind
returns-in-105-clause-kind c =
    let shows : ShowsAt (105 ∷ 110 ∷ 116 ∷ 101 ∷ 103 ∷ 101 ∷ 114 ∷ 32 ∷ []) 0 c.args.text.now
    = (search rules, (search rules, (search rules, (search rules, (search rules, (search rules, (search rules, (search rules, tt)))))))) in
    integer_type c.args.text.now _ (split_front (105 ∷ 110 ∷ 116 ∷ 101 ∷ 103 ∷ 101 ∷ 114 ∷ 32 ∷ []) c.args.text.now (omega (arith, c.in-105.len_at_least)) shows)

pub returns-in-100-clause-kind : goal.returns-in-100-clause-kind
returns-in-100-clause-kind c =
    let shows : ShowsAt (100 ∷ 101 ∷ 99 ∷ 105 ∷ 109 ∷ 97 ∷ 108 ∷ 32 ∷ []) 0 c.args.text.now
    = (search rules, (search rules, (search rules, (search rules, (search rules, (search rules, (search rules, (search rules, tt)))))))) in
    decimal_type c.args.text.now _ (split_front (100 ∷ 101 ∷ 99 ∷ 105 ∷ 109 ∷ 97 ∷ 108 ∷ 32 ∷ []) c.args.text.now (omega (arith, c.in-100.len_at_least)) shows)
