-- Parts that are pushed.
use Rattle.std.proofs.Common.{◌≡◌, List, [], ◌∷◌, ◌++◌, ap, sym, ◌∙◌}
use Rattle.std.proofs.lemmas.List.{append-nil, map-append}
use Rattle.message_pattern.specs.declared.part.Part as parts
use Rattle.message_pattern.specs.PatternParts.{Part, part_view, parts_view}

-- a part that is pushed comes last
pub pushed : (old new : List parts.Part) (p : parts.Part) → new ≡ old ++ p ∷ [] → parts_view new ≡ parts_view old ++ part_view p ∷ []
pushed old new p e = ap parts_view e ∙ map-append part_view old (p ∷ [])

-- nothing is pushed
pub none_pushed : (old : List Part) → old ≡ old ++ []
none_pushed old = sym (append-nil old)
