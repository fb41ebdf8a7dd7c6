use Rattle.std.proofs.Common.{arith, ap, sym, ◌∙◌}
use Rattle.packed_list.proofs.CursorPlaces.{next_and_rest, start_at_next}
use Rattle.packed_list.proofs.cursor.Cursor.advance.Goals as goal

pub invariant_of-self : goal.invariant_of-self
invariant_of-self c =
    let at = c.self.invariant in record {
      some = omega (arith, at.some);
      even = omega (arith, at.even);
      header = at.header;
      within = omega (arith, at.even, at.header, at.within, c.if-self.false);
      content = at.content;
      start = start_at_next c.self.inside.list c.self.inside.place c.start_at-self-inside.result at.some at.even
          (omega (arith, at.header, c.if-self.false)) c.start_at-self-inside.ensures;
    }

pub returns-clause-moved : goal.returns-clause-moved
returns-clause-moved c =
    let at = c.self.invariant in
    λ _. sym (ap (λ at. at.rest) c.self.view_is)
    ∙ next_and_rest c.self.inside.list c.self.inside.place at.some at.even (omega (arith, at.header, c.if-self.false))
