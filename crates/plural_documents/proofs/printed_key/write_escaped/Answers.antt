use Rattle.std.proofs.Common.{◌≡◌, ◌++◌, [], encode_utf8, ap, refl, rules}
use Rattle.std.proofs.Output.{has_written_append, has_written_of_eq, writes_in_calls_nil}
use Rattle.std.specs.List.{flat_map}
use Rattle.std.specs.Str.Iter.{chars_rest}
use Rattle.plural_documents.specs.PrintedKeys.{printed_byte}
use Rattle.plural_documents.proofs.PrintedChars.{next_char, no_more}
use Rattle.plural_documents.proofs.printed_key.write_escaped.Goals as goal

pub loop-c-init : goal.loop-c-init
loop-c-init g c =
    let whole : chars_rest c.into_iter-c-iterator.result ≡ c.args.key.now = search rules in
    ([], ap (λ rest. flat_map printed_byte rest) whole, λ plain. record { wrote = writes_in_calls_nil _ _; plain = plain })

pub loop-c-preserved : goal.loop-c-preserved
loop-c-preserved g c =
    let (now, so_far, wrote) = c.loop-c.invariant in (
      now ++ flat_map printed_byte (encode_utf8 c.in-Some.c),
      next_char c.in-Some.c now _ _ _ c.in-Some.ensures.steps.0 so_far,
      λ plain. let before = wrote plain in has_written_append _ _ _ _ _ _ before (c.in_ok-write_char.ensures before.plain refl),
    )

pub returns : goal.returns
returns g c =
    let (now, so_far, wrote) = c.loop-c.invariant in
    λ plain ok. has_written_of_eq _ _ _ _ _ (no_more _ now _ c.in-None.ensures.steps.0.0 so_far) (wrote plain)
