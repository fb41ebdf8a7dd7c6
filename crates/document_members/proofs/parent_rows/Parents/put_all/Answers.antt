use Rattle.std.proofs.Common.{ap, rules, string_bytes, subst, ◌∙◌}
use Rattle.std.specs.Option.{option_copied}
use Rattle.serde_json.specs.View.{members_view, view}
use Rattle.plural_fallback.specs.LocaleNames.{folded}
use Rattle.document_members.specs.Inner.Rows.{Seen, row_at}
use Rattle.std.proofs.Common.{map}
use Rattle.document_members.proofs.RowLookups.{Rows, no_rows_yet, parent_of_rows, rows_put, up_to_put}
use Rattle.document_members.proofs.parent_rows.Parents.put_all.Goals as goal

pub loop-key-init : goal.loop-key-init
loop-key-init c = (
  λ locale.
      no_rows_yet (members_view c.args.members.now.entries) (members_view c.into_iter-key-iterator.result) locale
      (row_at c.args.firsts.now) (row_at c.args.others.now)
      (ap members_view (c.into_iter-key-iterator.ensures.into_iter_gives ∙ c.iter-key-items.ensures.rest))
      c.requires.firsts c.requires.others,
  λ name long. c.requires.firsts name,
)

pub loop-key-preserved : goal.loop-key-preserved
loop-key-preserved c =
    let all = members_view c.args.members.now.entries in
    let seen : Seen = (c.as_str-name.result.now, option_copied c.as_str.result) in (
      λ locale.
          rows_put all (string_bytes c.in-Some.key.now) (view c.in-Some.value.now) (members_view c.next.new.self) locale
          c.as_str-name.result.now (option_copied c.as_str.result) (row_at c.loop-key.firsts) (row_at c.loop-key.others)
          (row_at c.put.new.firsts) (row_at c.put.new.others) c.as_str-name.ensures.value c.as_str.ensures c.in_ok-put.ensures.firsts
          c.in_ok-put.ensures.others
          (subst (λ es. Rows (row_at c.loop-key.firsts) (row_at c.loop-key.others) (members_view es) all locale) c.in-Some.ensures.steps
          (c.loop-key.invariant.0 locale)),
      up_to_put c.loop-key.longest c.max-longest.result c.as_str-name.result.now seen (row_at c.loop-key.firsts) (row_at c.put.new.firsts)
          c.loop-key.invariant.1 (search rules) (search rules) c.in_ok-put.ensures.firsts,
    )

pub returns-clause-parents : goal.returns-clause-parents
returns-clause-parents c = λ locale.
    let all = members_view c.args.members.now.entries in
    parent_of_rows all locale (row_at c.loop-key.firsts (map folded locale)) (row_at c.loop-key.others locale)
    (subst (λ es. Rows (row_at c.loop-key.firsts) (row_at c.loop-key.others) (members_view es) all locale) c.in-None.ensures.steps.0
    (c.loop-key.invariant.0 locale))

pub returns-clause-longest : goal.returns-clause-longest
returns-clause-longest c = c.loop-key.invariant.1
