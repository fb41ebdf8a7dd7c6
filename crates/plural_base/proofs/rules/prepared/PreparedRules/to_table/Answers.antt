use Rattle.std.proofs.Common.{◌≡◌, ◌≢◌, sym, ℕ, ◌+◌, ◌%◌, ◌<◌, ◌≤◌, ◌⊎◌, ◌∙◌, ap, subst, get_or, length, arith, inl, inr, ⊎_elim, rules}
use Rattle.std.specs.Prelude.{◌↔◌, None}
use Rattle.plural_operands.specs.Operands.{of_whole}
use Rattle.std.proofs.Math.Nat.{mod-lt}
use Rattle.plural_base.specs.Categories.{place_of}
use Rattle.plural_base.specs.CategoryTables.{IsTableOf, integer_entry, table_bound}
use Rattle.plural_base.specs.FiveRules.{FiveRules}
use Rattle.plural_base.specs.Inner.WholeNumbers.{category_of_whole}
use Rattle.plural_base.specs.Inner.RulesSteps.{entry_number}
use Rattle.plural_base.specs.ToldCategories.{IsCategoryTold, TellsAll, is_told}
use Rattle.plural_base.proofs.tables.Entries.{told_entry, told_exactly}
use Rattle.plural_base.proofs.rules.prepared.PreparedRules.to_table.Goals as goal

pub returns-clause-of : goal.returns-clause-of
returns-clause-of c =
    let made : FiveRules = c.self.inside.rules in
    let bytes = c.table_bytes.result in
    let written = c.table_bytes.ensures in
    let size : length bytes ≡ 236 = search rules in
    let cycle : (n : ℕ) → table_bound bytes ≤ n
    → (get_or bytes (136 + n % 100) 0 ≡ integer_entry made n) ⊎ (get_or bytes (136 + n % 100) 0 ≡ 6) = λ n from.
    let residue : n % 100 < 100 = mod-lt n (omega arith) in
    let P : ℕ → Type 0 = λ bound. bound ≤ n in
    let entry = written.cycle (n % 100) residue in
    ⊎_elim (λ is. inl (entry ∙ is)) (λ six. inr (entry ∙ six))
    (told_entry (category_of_whole made n) (get_or c.self.inside.cycle (n % 100) None)
    (c.self.invariant.1 n (subst P written.bound from))) in
    subst (λ (five : FiveRules). IsTableOf five bytes) c.self.view_is (record {
      size = size;
      low = λ n h. written.low n h ∙ ap place_of (c.self.invariant.0 n h);
      cycle = cycle;
    })

pub returns-clause-all : goal.returns-clause-all
returns-clause-all c =
    let made : FiveRules = c.self.inside.rules in
    let bytes = c.table_bytes.result in
    let written = c.table_bytes.ensures in
    let bound = c.self.inside.bound in
    subst (λ (five : FiveRules). TellsAll five bytes) c.self.view_is (record {
      bound = written.bound ∙ c.self.invariant.3;
      told = λ n from.
          (let residue : n % 100 < 100 = mod-lt n (omega arith) in
          let P : ℕ → Type 0 = λ b. b ≤ n in
          let Q : ℕ → Type 0 = λ b. (get_or bytes (136 + n % 100) 0 ≢ 6) ↔ IsCategoryTold (is_told b (n % 100)) (of_whole n) made in
          let entry = written.cycle (n % 100) residue ∙ ap entry_number (c.self.invariant.4 n (subst P written.bound from)) in
          subst Q (sym written.bound) (told_exactly (is_told bound (n % 100)) (of_whole n) made _ entry));
    })
