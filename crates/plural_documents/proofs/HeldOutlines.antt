-- Outlines of what is held of a value, which are those of the value where nothing else is kept.
use Rattle.std.proofs.Common.{◌≡◌, ℕ, List, Bool, true, false, Some, refl, sym, ap, ◌∙◌}
use Rattle.std.specs.Prelude.{if◌then◌else◌}
use Rattle.document_tokens.specs.TextTokens.{is_among_names}
use Rattle.plural_documents.specs.Outlines.{HeldText, IsHeld, named, outline, outline_members, part_by_names, with_member}
use Rattle.plural_documents.specs.declared.outline.Portion.{Portion}
use Rattle.plural_documents.specs.declared.outline.Portion.TheVariants as kept
use Rattle.plural_documents.proofs.OutlinedLemmas.{some_is}
use Rattle.serde_json.specs.Data.{Data, null, boolean, number, string, array, object, Members, no_members, member}

module _ {C : Type 0} (keeps : C → List ℕ → Portion C) (choice : C) (names : List (List ℕ))
    (others : (key : List ℕ) → is_among_names names key ≡ false → keeps choice key ≡ kept.Nothing) where
  members_held : (ms : Members) → outline_members keeps choice (outline_members named names ms) ≡ outline_members keeps choice ms
  members_held no_members = refl
  members_held (member key value ms) = by (is_among_names names key) refl (members_held ms)
    where
      by : (b : Bool) → is_among_names names key ≡ b
          → outline_members keeps choice (outline_members named names ms) ≡ outline_members keeps choice ms
          → outline_members keeps choice
          (with_member key (outline named (if b then kept.Whole else kept.Nothing) value) (outline_members named names ms))
          ≡ with_member key (outline keeps (keeps choice key) value) (outline_members keeps choice ms)
      by true is further = ap (with_member key (outline keeps (keeps choice key) value)) further
      by false is further = rw (others key is) further

  -- the outline of what is held of the members with some names, where a sieve keeps no other
  pub outline_held : (whole held : Data) → outline named (kept.Members names) whole ≡ Some held
      → outline keeps (kept.Members choice) whole ≡ outline keeps (kept.Members choice) held
  outline_held null held is = rw (← some_is null held is) refl
  outline_held (boolean truth) held is = rw (← some_is (boolean truth) held is) refl
  outline_held (number n) held is = rw (← some_is (number n) held is) refl
  outline_held (string text) held is = rw (← some_is (string text) held is) refl
  outline_held (array items) held is = rw (← some_is (array items) held is) refl
  outline_held (object ms) held is =
      rw (← some_is (object (outline_members named names ms)) held is)
      (ap (λ found. Some (object found)) (sym (members_held ms)))

-- a text holds one value
pub held_same : (text : HeldText) (one other : Data) → IsHeld text one → IsHeld text other → one ≡ other
held_same text one other (whole, reads, part) (whole', reads', part') =
    let same : whole ≡ whole' = some_is whole whole' (sym reads ∙ reads') in
    some_is one other (sym part ∙ ap (part_by_names text.names) same ∙ part')
