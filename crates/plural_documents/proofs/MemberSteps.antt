-- What is found in the members of an object, member by member.
use Rattle.std.proofs.Common.{◌≡◌, ℕ, List, refl, sym, ap, subst, ◌∙◌}
use Rattle.serde_json.specs.Data.{Data, Members, no_members, member}
use Rattle.plural_documents.specs.Steps.{HasGrownBy, IsFoundInMembers}

module _ {F : Type 0} (nothing : F) (together : F → F → F) where
  -- whatever is found in the remaining members completes what was found so far
  abbrev pub Completes : (List ℕ → Data → F → Type 0) → Members → Members → F → F → Type 0
  Completes Is left all now first =
      (rest : F) → IsFoundInMembers nothing together Is left rest
      → (whole : F) × IsFoundInMembers nothing together Is all whole × (together now rest ≡ together first whole)

  module _ (Is : List ℕ → Data → F → Type 0) (all : Members) (first : F) where
    -- this holds at first
    pub begins : (left : Members) → left ≡ all → Completes Is left all first first
    begins left same rest h = (rest, subst (λ (ms : Members). IsFoundInMembers nothing together Is ms rest) same h, refl)

    -- and after each member
    pub goes_on : ((a b c : F) → together (together a b) c ≡ together a (together b c))
        → (key : List ℕ) (value : Data) (left : Members) (now next : F)
        → Completes Is (member key value left) all now first → HasGrownBy together (Is key value) now next
        → Completes Is left all next first
    goes_on joins key value left now next so_far added rest h =
        let whole = so_far (together added.0 rest) (added.0, rest, added.1, h, refl) in (
          whole.0,
          whole.1,
          ap (λ (f : F). together f rest) added.2 ∙ joins now added.0 rest ∙ whole.2,
        )

    -- at the end all is found
    pub ends : ((found : F) → together found nothing ≡ found) → (now : F) → Completes Is no_members all now first
        → HasGrownBy together (IsFoundInMembers nothing together Is all) first now
    ends no_more now so_far = let whole = so_far nothing refl in (whole.0, whole.1, sym (no_more now) ∙ whole.2)
