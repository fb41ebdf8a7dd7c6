use Rattle.std.proofs.Common.{◌≡◌, ℕ, suc, ◌≤◌, ◌∷◌, List, length, None, sym, ap, subst, ◌∙◌, arith}
use Rattle.std.proofs.lemmas.Result.{IfOk-weaker}
use Rattle.document_tokens.specs.HeldTokens.{Held, held_token}
use Rattle.plural_documents.proofs.HeldLemmas.{no_items_left, no_value}
use Rattle.plural_documents.proofs.OutlinedLemmas.{array_outlined, object_outlined, on_success, part_put}
use Rattle.plural_documents.proofs.outline.+build.Goals as goal
use Rattle.serde_json.specs.View.{members_view, view}
use Rattle.serde_json.proofs.Views.{view-Array, view-Object}
use Rattle.plural_documents.proofs.WalkLemmas.{MembersGoOn, item_added, items_ended, member_added, members_ended, members_not_cut}
use Rattle.plural_documents.proofs.WalkLemmas.{no_end, no_key, no_opening}
use Rattle.plural_documents.proofs.ItemLemmas.{items_after, with_no_more}
use Rattle.plural_documents.proofs.outline.+build.Goals.{outlined_members-in-Some+in_default-first, outlined_members-in_default, whole_items-in-Some+in-EndArray, whole_items-in_default}

one_shorter : (n m k most : ℕ) → n ≤ m → k ≡ suc m → k ≤ most → n ≤ most
one_shorter n m k most less more within = omega arith

pub keep_member-returns-in_default-clause-keeps : goal.keep_member-returns-in_default-clause-keeps
keep_member-returns-in_default-clause-keeps g n c value rest whole is read = absurd (no_value value rest (sym c.in_default.ensures.0 ∙ is))

pub keep_member-returns-in-Whole-clause-keeps : goal.keep_member-returns-in-Whole-clause-keeps
keep_member-returns-in-Whole-clause-keeps g n c =
    rw (c.in-Some.ensures, sym c.portion_below.ensures ∙ c.in-Whole.is) c.put_outlined.ensures.puts

pub keep_member-returns-in-Members-clause-keeps : goal.keep_member-returns-in-Members-clause-keeps
keep_member-returns-in-Members-clause-keeps g n c =
    rw (c.in-Some.ensures, sym c.portion_below.ensures ∙ c.in-Members.is) c.put_outlined-in-Members.ensures.puts

pub outlined-returns-in_ok-outlined_members-in-BeginObject-clause-outlined : goal.outlined-returns-in_ok-outlined_members-in-BeginObject-clause-outlined
outlined-returns-in_ok-outlined_members-in-BeginObject-clause-outlined g n c =
    rw (c.in-BeginObject.is, view-Object _)
    (object_outlined g.S.Sieve.keeps c.args.sieve c.args.left.now c.outlined_members.new.left _
    c.in_ok-outlined_members-in-BeginObject.ensures.members)

pub outlined-returns-in_ok-whole_items-in-BeginArray-clause-outlined : goal.outlined-returns-in_ok-whole_items-in-BeginArray-clause-outlined
outlined-returns-in_ok-whole_items-in-BeginArray-clause-outlined g n c =
    rw (c.in-BeginArray.is, view-Array _)
    (array_outlined g.S.Sieve.keeps c.args.sieve c.args.left.now c.whole_items.new.left _ c.in_ok-whole_items-in-BeginArray.ensures.items)

pub outlined-returns-in_default-clause-outlined : goal.outlined-returns-in_default-clause-outlined
outlined-returns-in_default-clause-outlined g n c =
    IfOk-weaker c.one_token.result _ _
    (λ value one. one (no_opening c.args.first c.in_default.not-BeginArray c.in_default.not-BeginObject) c.args.sieve c.args.left.now)
    c.one_token.ensures

pub push_item-returns-in_ok-outlined-in-BeginArray-clause-adds : goal.push_item-returns-in_ok-outlined-in-BeginArray-clause-adds
push_item-returns-in_ok-outlined-in-BeginArray-clause-adds g n c =
    on_success c.push_value.result (λ added. (_, added, c.in_ok-outlined-in-BeginArray.ensures.outlined)) c.push_value.ensures

pub push_item-returns-in_ok-one_token-in_default-clause-adds : goal.push_item-returns-in_ok-one_token-in_default-clause-adds
push_item-returns-in_ok-one_token-in_default-clause-adds g n c =
    on_success c.push_value-in_default.result
    (λ added. (
      _,
      added,
      c.in_ok-one_token-in_default.ensures (no_opening c.args.first c.in_default.not-BeginArray c.in_default.not-BeginObject)
          None c.args.left.now,
    ))
    c.push_value-in_default.ensures

pub outlined_members-loop-first-preserved : goal.outlined_members-loop-first-preserved
outlined_members-loop-first-preserved g n c = (
  (λ members rest whole is read. member_added g.S.Sieve.keeps c.args.sieve _ _ c.keep_member.new.left rest whole _ _
      (subst (λ (ts : List Held). MembersGoOn g.S.Sieve.keeps c.args.sieve (members_view c.loop-first.members.entries) ts rest whole)
      (c.in-Some.ensures ∙ ap (λ t. held_token t ∷ c.next.new.self) c.in-Key.is)
      (c.loop-first.invariant.0 members rest whole is read)) c.in_ok-keep_member.ensures.keeps),
  one_shorter (length c.keep_member.new.left) (length c.next.new.self) (length c.loop-first.left) (length c.args.left.now)
      c.in_ok-keep_member.ensures.shorter (ap length c.in-Some.ensures) c.loop-first.invariant.1,
)

pub outlined_members-returns-clause-members : goal.outlined_members-returns-clause-members
outlined_members-returns-clause-members g n c ms rest whole is read =
    let now = c.loop-first.invariant.0 ms rest whole is read in
    let found = members_view c.loop-first.members.entries in
    elim c.match-next.branch [
      | outlined_members-in-Some+in_default-first w ↦
          members_ended g.S.Sieve.keeps c.args.sieve (held_token w.in-Some.first) c.next.new.self rest whole found
          (no_key w.in-Some.first w.in_default-first.not-Key)
          (subst (λ (ts : List Held). MembersGoOn g.S.Sieve.keeps c.args.sieve found ts rest whole) w.in-Some.ensures now)
      | outlined_members-in_default w ↦
          absurd (members_not_cut g.S.Sieve.keeps c.args.sieve rest whole found
          (subst (λ (ts : List Held). MembersGoOn g.S.Sieve.keeps c.args.sieve found ts rest whole) w.in_default.ensures.0 now))
    ]

pub put_outlined-returns-clause-puts : goal.put_outlined-returns-clause-puts
put_outlined-returns-clause-puts g n c =
    on_success c.put_value.result
    (part_put g.S.Sieve.keeps c.args.sieve c.args.key.now (held_token c.args.first ∷ c.args.left.now) c.outlined.new.left
    (view c.in_ok-value.value)
    (members_view c.args.members.now.entries) (members_view c.put_value.new.members.entries) c.in_ok-value.ensures.outlined)
    c.put_value.ensures

pub whole_items-loop-first-preserved : goal.whole_items-loop-first-preserved
whole_items-loop-first-preserved g n c = (
  (λ items rest whole is read.
      let now = c.loop-first.invariant.0 items rest whole is read in
      let added = c.in_ok-push_item-in_default-first.ensures.adds in
      rw (added.1)
      (item_added g.S.Sieve.keeps c.loop-first.items.items added.0 now.0 (held_token c.in-Some.first) c.next.new.self rest
      c.push_item.new.left now.1
      whole (sym c.in-Some.ensures ∙ now.2) (no_end c.in-Some.first c.in_default-first.not-EndArray) now.3 now.4 added.2)),
  one_shorter (length c.push_item.new.left) (length c.next.new.self) (length c.loop-first.left) (length c.args.left.now)
      c.in_ok-push_item-in_default-first.ensures.shorter (ap length c.in-Some.ensures) c.loop-first.invariant.1,
)

pub whole_items-returns-clause-items : goal.whole_items-returns-clause-items
whole_items-returns-clause-items g n c items rest whole is read =
    let now = c.loop-first.invariant.0 items rest whole is read in
    elim c.match-next.branch [
      | whole_items-in-Some+in-EndArray w ↦
          let last = items_ended now.0 c.next.new.self rest now.1
          (sym (w.in-Some.ensures ∙ ap (λ t. held_token t ∷ c.next.new.self) w.in-EndArray.is) ∙ now.2) now.3 in
          (last.0, now.4 ∙ ap (items_after c.loop-first.items.items) last.1 ∙ with_no_more c.loop-first.items.items)
      | whole_items-in_default w ↦ absurd (no_items_left now.0 rest (sym w.in_default.ensures.0 ∙ now.2))
    ]
