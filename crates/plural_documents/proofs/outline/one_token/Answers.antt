use Rattle.plural_documents.proofs.OutlinedLemmas.{boolean_outlined, number_outlined, string_outlined, view_bool, view_null}
use Rattle.plural_documents.proofs.OutlinedLemmas.{view_number, view_string}
use Rattle.plural_documents.proofs.WalkLemmas.{null_kept}
use Rattle.plural_documents.proofs.outline.one_token.Goals as goal

pub returns-in_ok-from_str-in-String : goal.returns-in_ok-from_str-in-String
returns-in_ok-from_str-in-String g c =
    rw (c.in-String.is, view_string _, c.in_ok-from_str-in-String.ensures.ok)
    (λ closed sieve rest. string_outlined g.S.Sieve.keeps sieve _ rest)

pub returns-in-Number : goal.returns-in-Number
returns-in-Number g c = rw (c.in-Number.is, view_number _) (λ closed sieve rest. number_outlined g.S.Sieve.keeps sieve _ rest)

pub returns-in-Bool : goal.returns-in-Bool
returns-in-Bool g c = rw (c.in-Bool.is, view_bool _) (λ closed sieve rest. boolean_outlined g.S.Sieve.keeps sieve _ rest)

pub returns-in_default : goal.returns-in_default
returns-in_default g c =
    rw (view_null) (null_kept g.S.Sieve.keeps c.args.token c.in_default.not-Number c.in_default.not-Bool c.in_default.not-String)
