-- The first of five tests that passes.
use Rattle.std.proofs.Common.{◌≡◌, Bool, ap, ◌∙◌}
use Rattle.std.specs.Prelude.{if◌then◌else◌}
use Rattle.plural_base.specs.declared.category.PluralCategory.{PluralCategory}
use Rattle.plural_base.specs.declared.category.PluralCategory.TheVariants.{Zero, One, Two, Few, Many, Other}

-- its category, else other
abbrev pub chosen : Bool → Bool → Bool → Bool → Bool → PluralCategory
chosen zero one two few many =
    if zero then Zero else (if one then One else (if two then Two else (if few then Few else (if many then Many else Other))))

-- tests that agree one by one choose the same category
pub same_choice : {a b c d e a' b' c' d' e' : Bool} → a ≡ a' → b ≡ b' → c ≡ c' → d ≡ d' → e ≡ e' → chosen a b c d e ≡ chosen a' b' c' d' e'
same_choice {a} {b} {c} {d} {e} {a'} {b'} {c'} {d'} {e'} p q r s t =
    ap (λ v. chosen v b c d e) p ∙ ap (λ v. chosen a' v c d e) q ∙ ap (λ v. chosen a' b' v d e) r ∙ ap (λ v. chosen a' b' c' v e) s
    ∙ ap (λ v. chosen a' b' c' d' v) t
