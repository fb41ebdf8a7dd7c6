use Rattle.translation_files.proofs.PlaceLemmas.{behind_locale}
use Rattle.translation_files.proofs.places.Places.insert.Goals as goal

pub returns-in-Ok-clause-ok : goal.returns-in-Ok-clause-ok
returns-in-Ok-clause-ok c =
    (behind_locale c.put.result c.args.locale.now c.args.kind c.args.key.now c.args.lines c.args.self.now c.add_locale.new.self
    c.put.new.self c.add_locale.ensures.keeps c.put.ensures.ok c.put.ensures.err).0

pub returns-in-Ok-clause-err : goal.returns-in-Ok-clause-err
returns-in-Ok-clause-err c =
    (behind_locale c.put.result c.args.locale.now c.args.kind c.args.key.now c.args.lines c.args.self.now c.add_locale.new.self
    c.put.new.self c.add_locale.ensures.keeps c.put.ensures.ok c.put.ensures.err).1
