-- Errors that ranges never give.
use Rattle.std.proofs.Common.{◌≡◌, ◌≢◌, sym, Option, Some, None, Ok, Err, codes}
use Rattle.std.specs.Option.{option_and_then}
use Rattle.plural_runtime.specs.declared.error.RuleError.{RuleError}
use Rattle.plural_base.specs.declared.category.PluralCategory.{PluralCategory}
use Rattle.plural_base.specs.declared.json.error.JsonError.{JsonError}
use Rattle.plural_base.specs.declared.json.error.JsonError.TheVariants.{Float, Shape, Rule, RangeKey, RangeValue, Pack, Memory}
use Rattle.plural_base.specs.declared.ranges.PluralRanges.{PluralRanges}
use Rattle.plural_base.specs.Ranges.{range_named, raw_category_named, no_ranges, with_range}
use Rattle.plural_base.specs.RangesJson.{category_meant, members_meant, ranges_meant}
use Rattle.plural_base.specs.Json.{Stands, ◌>>=◌, there_or, GivesMeaning}
use Rattle.serde_json.specs.Data.{Data, Members, no_members, member}
use Rattle.serde_json.specs.Find.{get, as_object, as_str}

-- an error that none of the parts gives
module _ (bad : JsonError) where
  -- two steps don't give it, if neither does
  never_then : {A B : Type 0} (first : Stands A) (next : A → Stands B) → first ≢ Err bad → ((x : A) → next x ≢ Err bad)
      → (first >>= next) ≢ Err bad
  never_then (Ok x) next no_first no_next = no_next x
  never_then (Err e) next no_first no_next = λ h. no_first cc

  -- nor does a value that may be absent, if its absence is another error
  never_there : {A : Type 0} (e : JsonError) (o : Option A) → e ≢ bad → there_or e o ≢ Err bad
  never_there e None other = λ h. other cc
  never_there e (Some x) other = λ h. absurd cc

  module _ (no_shape : Shape ≢ bad) (no_key : RangeKey ≢ bad) (no_value : RangeValue ≢ bad) where
    -- nor is a category
    never_category : (value : Data) → category_meant value ≢ Err bad
    never_category value =
        never_then (there_or Shape (as_str value)) _ (never_there Shape (as_str value) no_shape)
        (λ text. never_there RangeValue (raw_category_named text) no_value)

    -- nor are members
    never_members : (ms : Members) (ranges : PluralRanges) → members_meant ranges ms ≢ Err bad
    never_members no_members ranges = λ h. absurd cc
    never_members (member key value ms) ranges =
        never_then (there_or RangeKey (range_named key)) _ (never_there RangeKey (range_named key) no_key)
        (λ range. never_then (category_meant value) _ (never_category value)
        (λ category. never_members ms (with_range ranges range.0 range.1 category)))

    -- nor are the categories of ranges
    pub never_ranges : (value : Data) → ranges_meant value ≢ Err bad
    never_ranges value =
        never_then (there_or Shape (option_and_then as_object (get (codes "ranges") value))) (members_meant no_ranges)
        (never_there Shape (option_and_then as_object (get (codes "ranges") value)) no_shape) (λ members. never_members members no_ranges)

-- ranges never give out of memory
pub ranges_no_memory : (value : Data) → ranges_meant value ≢ Err Memory
ranges_no_memory = never_ranges Memory (λ h. absurd cc) (λ h. absurd cc) (λ h. absurd cc)

-- nor the fault of a rule
pub ranges_no_rule : (category : Option PluralCategory) (fault : RuleError) (value : Data) → ranges_meant value ≢ Err (Rule category fault)
ranges_no_rule category fault = never_ranges (Rule category fault) (λ h. absurd cc) (λ h. absurd cc) (λ h. absurd cc)

-- nor a float
pub ranges_no_float : (value : Data) → ranges_meant value ≢ Err Float
ranges_no_float = never_ranges Float (λ h. absurd cc) (λ h. absurd cc) (λ h. absurd cc)

-- if the result is exactly what is expected, the call returns it
pub exactly_answered : {A : Type 0} (result stands : Stands A) → result ≡ stands → GivesMeaning (λ x. x) result stands
exactly_answered (Ok x) stands is = sym is
exactly_answered (Err Float) stands is = sym is
exactly_answered (Err Shape) stands is = sym is
exactly_answered (Err (Rule category fault)) stands is = sym is
exactly_answered (Err RangeKey) stands is = sym is
exactly_answered (Err RangeValue) stands is = sym is
exactly_answered (Err (Pack fault)) stands is = sym is
exactly_answered (Err Memory) stands is = tt
