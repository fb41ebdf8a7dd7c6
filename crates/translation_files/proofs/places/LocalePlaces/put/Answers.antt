use Rattle.std.proofs.Common.{refl, string_bytes}
use Rattle.translation_files.proofs.PlaceLemmas.{after_cardinal, after_ordinal, after_pattern}
use Rattle.translation_files.proofs.places.LocalePlaces.put.Goals as goal

pub returns-in-Cardinal-clause-ok : goal.returns-in-Cardinal-clause-ok
returns-in-Cardinal-clause-ok c =
    rw c.in-Cardinal.is
    (after_cardinal (string_bytes c.args.key) c.args.lines c.args.self.now
    (record c.args.self.now { cardinal = c.insert.new.places })
    c.insert.result c.insert.ensures.ok c.insert.ensures.err refl refl).0

pub returns-in-Cardinal-clause-err : goal.returns-in-Cardinal-clause-err
returns-in-Cardinal-clause-err c =
    (after_cardinal (string_bytes c.args.key) c.args.lines c.args.self.now
    (record c.args.self.now { cardinal = c.insert.new.places })
    c.insert.result c.insert.ensures.ok c.insert.ensures.err refl refl).1

pub returns-in-Ordinal-clause-ok : goal.returns-in-Ordinal-clause-ok
returns-in-Ordinal-clause-ok c =
    rw c.in-Ordinal.is
    (after_ordinal (string_bytes c.args.key) c.args.lines c.args.self.now
    (record c.args.self.now { ordinal = c.insert-in-Ordinal.new.places })
    c.insert-in-Ordinal.result c.insert-in-Ordinal.ensures.ok c.insert-in-Ordinal.ensures.err refl refl).0

pub returns-in-Ordinal-clause-err : goal.returns-in-Ordinal-clause-err
returns-in-Ordinal-clause-err c =
    (after_ordinal (string_bytes c.args.key) c.args.lines c.args.self.now
    (record c.args.self.now { ordinal = c.insert-in-Ordinal.new.places })
    c.insert-in-Ordinal.result c.insert-in-Ordinal.ensures.ok c.insert-in-Ordinal.ensures.err refl refl).1

pub returns-in-Pattern-clause-ok : goal.returns-in-Pattern-clause-ok
returns-in-Pattern-clause-ok c =
    rw c.in-Pattern.is
    (after_pattern (string_bytes c.args.key) c.args.lines c.args.self.now
    (record c.args.self.now { patterns = c.insert-in-Pattern.new.places })
    c.insert-in-Pattern.result c.insert-in-Pattern.ensures.ok c.insert-in-Pattern.ensures.err refl refl).0

pub returns-in-Pattern-clause-err : goal.returns-in-Pattern-clause-err
returns-in-Pattern-clause-err c =
    (after_pattern (string_bytes c.args.key) c.args.lines c.args.self.now
    (record c.args.self.now { patterns = c.insert-in-Pattern.new.places })
    c.insert-in-Pattern.result c.insert-in-Pattern.ensures.ok c.insert-in-Pattern.ensures.err refl refl).1
