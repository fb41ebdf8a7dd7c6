use Rattle.std.proofs.Common.{◌≡◌, ℕ, List, [], ◌∷◌, ap, ◌∙◌}
use Rattle.plural_reference.specs.Serializer.{condition_text}
use Rattle.plural_reference.specs.declared.ast.AndCondition.{AndCondition}
use Rattle.plural_reference.specs.declared.ast.Relation.{Relation}
use Rattle.rule_notes.proofs.cause.PrintedRelation.of.Goals as goal

-- the text of the condition of these and-conditions, and of the one with these relations
abbrev text_of : List AndCondition → List ℕ
text_of groups = condition_text (record { 0 = groups })

abbrev alone : List Relation → List ℕ
alone relations = text_of (record { 0 = relations } ∷ [])

pub returns : goal.returns
returns c =
    let group : c.into.result ≡ c.args.relation.now ∷ [] =
    c.into.ensures ∙ c.in_ok-vec.ensures.items ∙ ap (λ (r : Relation). r ∷ []) c.in_ok-try_clone.ensures in
    c.in_ok-printed.ensures ∙ ap text_of (c.into-2.ensures ∙ c.in_ok-vec-2.ensures.items) ∙ ap alone group
