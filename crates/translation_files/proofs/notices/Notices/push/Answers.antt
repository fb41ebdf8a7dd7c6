use Rattle.translation_files.proofs.NoticeLemmas.{pushed}
use Rattle.translation_files.proofs.notices.Notices.push.Goals as goal

pub invariant_of-self : goal.invariant_of-self
invariant_of-self c =
    record {
      graded = pushed c.args.self.now.items.items c.push.new.items.items c.args.notice c.push.result c.push.ensures.ok c.push.ensures.err
          c.args.self.now.graded c.requires;
    }
