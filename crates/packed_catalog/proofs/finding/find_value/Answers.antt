use Rattle.std.proofs.Common.{List, ◌+◌, ◌*◌, ◌≡◌, suc, arith, ap, sym, ◌∙◌, Some}
use Rattle.packed_catalog.specs.CatalogBytes.{Entry, value_under}
use Rattle.packed_catalog.specs.CatalogFaults.{piece_in}
use Rattle.packed_catalog.proofs.KeysFound.{found_at, not_found_at, told_other, told_same}
use Rattle.packed_catalog.proofs.OneBlock.{encoded_block, entries_in_one}
use Rattle.packed_catalog.proofs.finding.find_value.Goals as goal
use Rattle.packed_catalog.proofs.finding.find_value.Goals.{then-index-count-via-then-index-count}
use Rattle.packed_catalog.proofs.finding.find_value.Goals.{then-index-count-via-else-index-count+then-ne}

pub returns-in_default-clause-found : goal.returns-in_default-clause-found
returns-in_default-clause-found c = λ entries h.
    let block = encoded_block entries c.args.bytes.now h in
    absurd (omega (arith, c.in_default.ensures.value, block.ends.data_is.header))

pub returns-then-index-count-clause-found : goal.returns-then-index-count-clause-found
returns-then-index-count-clause-found c = λ entries h.
    let bytes = c.args.bytes.now in
    let key = c.args.key.now in
    let block = encoded_block entries bytes h in
    let n = c.in-Some.ensures.value in
    let seek = c.first_from-index.ensures in
    sym (not_found_at bytes key c.first_from-index.result block (seek.below block) (λ k l m. seek.above block k l (omega (arith, m, n)))
    (λ l same. elim c.then-index-count.branch [
      | then-index-count-via-then-index-count w ↦ omega (arith, w.if-index-count.true, n, l)
      | then-index-count-via-else-index-count+then-ne w ↦
          told_other w.any_piece.result.now key w.ne.result w.ne.ensures w.if-ne.true (w.any_piece.ensures.piece block.ends ∙ same)
    ]))
    ∙ ap (λ (es : List Entry). value_under key es) (entries_in_one entries bytes h.spelled)

pub returns-clause-found : goal.returns-clause-found
returns-clause-found c = λ entries h.
    let bytes = c.args.bytes.now in
    let key = c.args.key.now in
    let k = c.first_from-index.result in
    let block = encoded_block entries bytes h in
    let e : 2 * k + 1 ≡ suc (2 * k) = omega arith in
    let found = found_at bytes key k (omega (arith, c.in-Some.ensures.value)) (c.first_from-index.ensures.below block)
    (sym (c.any_piece.ensures.piece block.ends) ∙ told_same c.any_piece.result.now key c.ne.result c.ne.ensures c.if-ne.false) in
    ap Some (c.any_piece-2.ensures.piece block.ends ∙ ap (piece_in bytes) e) ∙ sym found
    ∙ ap (λ (es : List Entry). value_under key es) (entries_in_one entries bytes h.spelled)
