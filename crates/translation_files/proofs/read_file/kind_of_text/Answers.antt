use Rattle.std.proofs.Common.{◌≡◌, ℕ, List, Option, Some, None, not, find, slice_get, ap, ◌∙◌}
use Rattle.std.specs.Char.{is_ascii_whitespace}
use Rattle.std.specs.Option.{option_map_or}
use Rattle.std.proofs.lemmas.Str.Ascii.{trim_ascii_start_is}
use Rattle.translation_files.specs.ReadFiles.{kind_by}
use Rattle.translation_files.specs.declared.read_file.FileKind.TheVariants.{Po}
use Rattle.translation_files.proofs.ReadLemmas.{first_byte}
use Rattle.translation_files.proofs.read_file.kind_of_text.Goals as goal

pub returns-in-Some : goal.returns-in-Some
returns-in-Some c =
    let text = c.args.text.now in
    let rest = trim_ascii_start_is text c.trim_ascii_start.result.now c.trim_ascii_start.ensures.value in
    c.kind_by.ensures
    ∙ ap (λ (found : Option ℕ). option_map_or kind_by found Po)
    (c.in-Some.ensures.value ∙ ap (λ (l : List ℕ). slice_get l 0) rest ∙ first_byte text)

pub returns-in-None : goal.returns-in-None
returns-in-None c =
    let text = c.args.text.now in
    let rest = trim_ascii_start_is text c.trim_ascii_start.result.now c.trim_ascii_start.ensures.value in
    ap (λ (found : Option ℕ). option_map_or kind_by found Po)
    (c.in-None.ensures.value ∙ ap (λ (l : List ℕ). slice_get l 0) rest ∙ first_byte text)
