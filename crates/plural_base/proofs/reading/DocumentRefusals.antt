-- An error of a map of a document is an error of the document.
use Rattle.std.proofs.Common.{◌≡◌, true, codes, if◌then◌else◌, is_some, Option, Ok, Err, refl, sym, ap, ◌∙◌}
use Rattle.plural_base.specs.declared.json.error.JsonError.{JsonError}
use Rattle.plural_base.specs.declared.json.error.JsonError.TheVariants.{Float, Shape, Rule, RangeKey, RangeValue, Pack, Memory}
use Rattle.plural_base.specs.declared.ranges.PluralRanges.{PluralRanges}
use Rattle.plural_base.specs.DocumentJson.{Rows, map_meant, all_maps, document_meant}
use Rattle.plural_base.specs.FiveRules.{FiveRules}
use Rattle.plural_base.specs.Json.{Stands, IsRefusal}
use Rattle.plural_base.specs.RangesJson.{ranges_meant}
use Rattle.plural_base.specs.RulesJson.{rules_meant}
use Rattle.serde_json.specs.Data.{Data}
use Rattle.serde_json.specs.Find.{get, as_object}

-- a refusal of a part is a refusal of the whole, if the whole gives the part's error
pub refused_with : {A B : Type 0} (e : JsonError) (part : Stands A) (whole : Stands B) → (part ≡ Err e → whole ≡ Err e)
    → IsRefusal e part → IsRefusal e whole
refused_with Float part whole carry h = carry h
refused_with Shape part whole carry h = carry h
refused_with (Rule category fault) part whole carry h = carry h
refused_with RangeKey part whole carry h = carry h
refused_with RangeValue part whole carry h = carry h
refused_with (Pack fault) part whole carry h = carry h
refused_with Memory part whole carry h = tt

-- the first of three maps is refused
pub first_of_three : (cardinal ordinal : Stands (Rows FiveRules)) (ranges : Stands (Rows PluralRanges)) (e : JsonError)
    → cardinal ≡ Err e → all_maps cardinal ordinal ranges ≡ Err e
first_of_three cardinal ordinal ranges e first = rw first refl

-- after a map that is read, the second is refused
pub second_of_three : (cardinal ordinal : Stands (Rows FiveRules)) (ranges : Stands (Rows PluralRanges)) (c : Rows FiveRules) (e : JsonError)
    → cardinal ≡ Ok c → ordinal ≡ Err e → all_maps cardinal ordinal ranges ≡ Err e
second_of_three cardinal ordinal ranges c e first second = rw (first, second) refl

-- after two maps that are read, the third is refused
pub third_of_three : (cardinal ordinal : Stands (Rows FiveRules)) (ranges : Stands (Rows PluralRanges)) (c o : Rows FiveRules) (e : JsonError)
    → cardinal ≡ Ok c → ordinal ≡ Ok o → ranges ≡ Err e → all_maps cardinal ordinal ranges ≡ Err e
third_of_three cardinal ordinal ranges c o e first second third = rw (first, second, third) refl

-- an error of the cardinal rules is an error of the document
pub cardinal_refused : (value : Data) (a : Option Data) (e : JsonError) → true ≡ is_some (as_object value)
    → a ≡ get (codes "cardinal") value → IsRefusal e (map_meant rules_meant a) → IsRefusal e (document_meant value)
cardinal_refused value a e is_object a_is first =
    let cardinal = map_meant rules_meant (get (codes "cardinal") value) in
    let ordinal = map_meant rules_meant (get (codes "ordinal") value) in
    let ranges = map_meant ranges_meant (get (codes "ranges") value) in
    refused_with e (map_meant rules_meant a) (document_meant value)
    (λ refused.
    ap (λ b. if b then all_maps cardinal ordinal ranges else Err Shape) (sym is_object)
    ∙ first_of_three cardinal ordinal ranges e (ap (map_meant rules_meant) (sym a_is) ∙ refused))
    first

-- an error of the ordinal rules is an error of the document, if the cardinal ones are read
pub ordinal_refused : (value : Data) (a b : Option Data) (c : Rows FiveRules) (e : JsonError) → true ≡ is_some (as_object value)
    → a ≡ get (codes "cardinal") value → b ≡ get (codes "ordinal") value → map_meant rules_meant a ≡ Ok c
    → IsRefusal e (map_meant rules_meant b) → IsRefusal e (document_meant value)
ordinal_refused value a b c e is_object a_is b_is first second =
    let cardinal = map_meant rules_meant (get (codes "cardinal") value) in
    let ordinal = map_meant rules_meant (get (codes "ordinal") value) in
    let ranges = map_meant ranges_meant (get (codes "ranges") value) in
    refused_with e (map_meant rules_meant b) (document_meant value)
    (λ refused.
    ap (λ b. if b then all_maps cardinal ordinal ranges else Err Shape) (sym is_object)
    ∙ second_of_three cardinal ordinal ranges c e
    (ap (map_meant rules_meant) (sym a_is) ∙ first)
    (ap (map_meant rules_meant) (sym b_is) ∙ refused))
    second

-- an error of the ranges is an error of the document, if both maps of rules are read
pub ranges_refused : (value : Data) (a b r : Option Data) (c o : Rows FiveRules) (e : JsonError)
    → true ≡ is_some (as_object value)
    → a ≡ get (codes "cardinal") value → b ≡ get (codes "ordinal") value → r ≡ get (codes "ranges") value
    → map_meant rules_meant a ≡ Ok c → map_meant rules_meant b ≡ Ok o
    → IsRefusal e (map_meant ranges_meant r) → IsRefusal e (document_meant value)
ranges_refused value a b r c o e is_object a_is b_is r_is first second third =
    let cardinal = map_meant rules_meant (get (codes "cardinal") value) in
    let ordinal = map_meant rules_meant (get (codes "ordinal") value) in
    let ranges = map_meant ranges_meant (get (codes "ranges") value) in
    refused_with e (map_meant ranges_meant r) (document_meant value)
    (λ refused.
    ap (λ b. if b then all_maps cardinal ordinal ranges else Err Shape) (sym is_object)
    ∙ third_of_three cardinal ordinal ranges c o e
    (ap (map_meant rules_meant) (sym a_is) ∙ first)
    (ap (map_meant rules_meant) (sym b_is) ∙ second)
    (ap (map_meant ranges_meant) (sym r_is) ∙ refused))
    third
