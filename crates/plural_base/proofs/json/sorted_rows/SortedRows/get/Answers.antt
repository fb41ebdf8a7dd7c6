use Rattle.std.proofs.Common.{◌≡◌, ◌+◌, ◌-◌, ◌/◌, ℕ, Less, Equal, Greater, map, nat_cmp, string_bytes, arith, ap, ◌∙◌}
use Rattle.std.specs.Cmp.Lexicographic.{slice_cmp}
use Rattle.plural_base.specs.Inner.JsonSteps.{row_of_entry}
use Rattle.plural_base.proofs.reading.RowsFound.{before_all, behind_all, entry_found, none_between}
use Rattle.plural_base.proofs.json.sorted_rows.SortedRows.get.Goals as goal

pub loop-low-preserved-in-Less : goal.loop-low-preserved-in-Less
loop-low-preserved-in-Less g c =
    let at = c.loop-low.invariant in
    let middle : ℕ = c.loop-low.low + (c.loop-low.high - c.loop-low.low) / 2 in
    let less : slice_cmp nat_cmp c.args.locale.now (string_bytes c.index-entries-middle.result.0) ≡ Less = cc in
    record {
      order = omega arith;
      within = omega (arith, at.within);
      behind = at.behind;
      before = before_all c.args.locale.now c.as_slice-entries.result.now middle c.index-entries-middle.result
          (rw c.as_slice-entries.ensures.value c.self.invariant) (omega (arith, c.loop-low-test.true, at.within))
          c.index-entries-middle.is less;
    }

pub loop-low-preserved : goal.loop-low-preserved
loop-low-preserved g c =
    let at = c.loop-low.invariant in
    let middle : ℕ = c.loop-low.low + (c.loop-low.high - c.loop-low.low) / 2 in
    let greater : slice_cmp nat_cmp c.args.locale.now (string_bytes c.index-entries-middle.result.0) ≡ Greater = cc in
    record {
      order = omega (arith, c.loop-low-test.true);
      within = at.within;
      behind = behind_all c.args.locale.now c.as_slice-entries.result.now middle c.index-entries-middle.result
          (rw c.as_slice-entries.ensures.value c.self.invariant) (omega (arith, c.loop-low-test.true, at.within))
          c.index-entries-middle.is greater;
      before = at.before;
    }

pub returns-in-Equal : goal.returns-in-Equal
returns-in-Equal g c =
    let at = c.loop-low.invariant in
    let middle : ℕ = c.loop-low.low + (c.loop-low.high - c.loop-low.low) / 2 in
    let equal : slice_cmp nat_cmp c.args.locale.now (string_bytes c.index-entries-middle.result.0) ≡ Equal = cc in
    entry_found c.args.locale.now c.as_slice-entries.result.now c.args.self.now
    (ap (map row_of_entry) c.as_slice-entries.ensures.value ∙ c.self.view_is) middle c.index-entries-middle.result
    (rw c.self.view_is at c.self.invariant) (omega (arith, c.loop-low-test.true, at.within)) c.index-entries-middle.is equal

pub returns : goal.returns
returns g c =
    let at = c.loop-low.invariant in
    let met : c.loop-low.high ≡ c.loop-low.low = omega (arith, c.loop-low-test.false, at.order) in
    none_between c.args.locale.now c.as_slice-entries.result.now c.args.self.now
    (ap (map row_of_entry) c.as_slice-entries.ensures.value ∙ c.self.view_is) c.loop-low.low at.behind (rw met at at.before)
