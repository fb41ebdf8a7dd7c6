use Rattle.std.proofs.Common.{◌≡◌, drop}
use Rattle.serde_json.specs.View.{items_view, members_view}
use Rattle.serde_json.specs.Written.{items_have_float, members_have_float}
use Rattle.plural_base.proofs.json.float.+float.Given as goal

-- the items that were checked have no float
abbrev pub invariant-items_hold_float-loop-item : goal.invariant-items_hold_float-loop-item
invariant-items_hold_float-loop-item l =
    items_have_float (items_view l.items.items) ≡ items_have_float (items_view (drop l.item-index l.item-items))

-- nor have the members that were checked
abbrev pub invariant-members_hold_float-loop-member : goal.invariant-members_hold_float-loop-member
invariant-members_hold_float-loop-member l =
    members_have_float (members_view l.members.entries) ≡ members_have_float (members_view l.member-iterator)
