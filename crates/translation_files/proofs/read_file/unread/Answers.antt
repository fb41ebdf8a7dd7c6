use Rattle.std.proofs.Common.{List, [], ◌∷◌, ◌++◌, string_bytes, refl, ap, ◌∙◌}
use Rattle.message_report.specs.declared.severity.Severity.TheVariants.{Error}
use Rattle.translation_files.specs.declared.notice.FileNotice.{FileNotice}
use Rattle.translation_files.proofs.ReadLemmas.{nothing_put}
use Rattle.translation_files.proofs.read_file.unread.Goals as goal

pub returns : goal.returns
returns g c =
    let told : FileNotice = record { line = c.args.line; severity = Error; code = c.args.code; text = c.in_ok-text.text } in (
      string_bytes c.in_ok-text.text,
      record {
        unnamed = refl;
        empty = nothing_put c.new-members.result c.new-members.ensures.empty;
        no_places = c.new-places.ensures;
        no_count = c.none-counts.ensures;
        told = told;
        is_error = (refl, refl, refl, refl);
        told_alone = c.in_ok-push.ensures.ok ∙ ap (λ (its : List FileNotice). its ++ told ∷ []) c.new-notices.ensures.items;
      },
      c.in_ok-text.ensures.ok,
    )
