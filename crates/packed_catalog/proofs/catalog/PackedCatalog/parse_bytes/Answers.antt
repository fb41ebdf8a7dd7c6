use Rattle.std.proofs.Common.{arith, ◌≡◌, ◌*◌, length, sym, ap, ◌∙◌}
use Rattle.std.specs.Prelude.{Ok}
use Rattle.packed_catalog.specs.CatalogFaults.{count_in, key_in, start_of}
use Rattle.packed_catalog.specs.Inner.CatalogReading.{IsBlock}
use Rattle.packed_catalog.proofs.BlockBytes.{block_encodes}
use Rattle.packed_catalog.proofs.FirstFaults.{no_bad_end, no_low_key}
use Rattle.packed_catalog.proofs.OneBlock.{encoded_block, entries_in_one}
use Rattle.packed_catalog.proofs.catalog.PackedCatalog.parse_bytes.Goals as goal

pub returns-in_default-clause-accepted : goal.returns-in_default-clause-accepted
returns-in_default-clause-accepted c = λ entries h.
    let block = encoded_block entries c.args.bytes.now h in
    absurd (omega (arith, c.in_default.ensures.value, block.ends.data_is.header))

pub returns-then-start_of-content-clause-accepted : goal.returns-then-start_of-content-clause-accepted
returns-then-start_of-content-clause-accepted c = λ entries h.
    let block = encoded_block entries c.args.bytes.now h in
    let place = ap (start_of c.args.bytes.now) (ap (λ n. 2 * n) c.in-Some.ensures.value) in
    absurd (c.if-start_of-content.true (c.start_of.ensures ∙ place ∙ block.ends.data_is.whole ∙ sym (ap length c.data-content.ensures)))

pub returns-in-Some-first_bad_end-clause-accepted : goal.returns-in-Some-first_bad_end-clause-accepted
returns-in-Some-first_bad_end-clause-accepted c = λ entries h.
    let block = encoded_block entries c.args.bytes.now h in
    let found = c.in-Some-first_bad_end.ensures in
    absurd (no_bad_end c.args.bytes.now block.ends c.in-Some-first_bad_end.index
    (omega (arith, found.within, c.in-Some.ensures.value)) found.some.here)

pub returns-in-Some-first_low_key-clause-accepted : goal.returns-in-Some-first_low_key-clause-accepted
returns-in-Some-first_low_key-clause-accepted c = λ entries h.
    let block = encoded_block entries c.args.bytes.now h in
    let found = c.in-Some-first_low_key.ensures in
    absurd (no_low_key (key_in c.args.bytes.now) (count_in c.args.bytes.now) block.sorted c.in-Some-first_low_key.index
    (omega (arith, found.within, c.in-Some.ensures.value)) found.some.here)

pub invariant_of-result : goal.invariant_of-result
invariant_of-result c =
    let bytes = c.args.bytes.now in
    let n = c.in-Some.ensures.value in
    let starts : start_of bytes (2 * c.in-Some.count) ≡ length c.data-content.result.now =
    sym c.start_of.ensures ∙ c.if-start_of-content.false in
    let block : IsBlock bytes = record {
      ends = record {
        data_is = record {
          header = omega (arith, n, c.in-Some.ensures.bound);
          whole = ap (λ m. start_of bytes (2 * m)) (sym n) ∙ starts ∙ ap length c.data-content.ensures;
        };
        rises = λ k l. c.in_default-first_bad_end.ensures.none k (omega (arith, n, l));
      };
      sorted = λ k l. c.in_default-first_low_key.ensures.none k (omega (arith, n, l));
    } in
    record { block = block; encoded = block_encodes bytes (λ i. omega (arith, c.type_inv.bytes i)) block }

pub returns-clause-ok : goal.returns-clause-ok
returns-clause-ok c = (invariant_of-result c).encoded

pub returns-clause-accepted : goal.returns-clause-accepted
returns-clause-accepted c = λ entries h. ap Ok (entries_in_one entries c.args.bytes.now h.spelled)
