use Rattle.std.proofs.Common.{◌≡◌, string_bytes, ap, ◌∙◌}
use Rattle.plural_base.specs.Categories.{raw_name_of}
use Rattle.plural_base.specs.Ranges.{range_text}
use Rattle.serde_json.specs.Data.{string, put}
use Rattle.serde_json.specs.View.{members_view}
use Rattle.plural_base.proofs.pairs.RangesWritten.{view-String}
use Rattle.plural_base.proofs.json.ranges.write_range.Goals as goal

pub returns : goal.returns
returns c =
    let old = c.args.members.now.entries in
    let text = c.in_ok-text.text in
    let name : string_bytes c.in_ok-name.name ≡ raw_name_of c.in-Some.category = c.in_ok-name.ensures.ok ∙ c.as_str.ensures in
    rw c.in-Some.is
    (c.in_ok-put_value.ensures
    ∙ ap (λ d. put (string_bytes text) d (members_view old)) (view-String c.in_ok-name.name)
    ∙ ap (λ k. put k (string (string_bytes c.in_ok-name.name)) (members_view old)) c.in_ok-text.ensures
    ∙ ap (λ n. put (range_text c.args.start c.args.end) (string n) (members_view old)) name)
