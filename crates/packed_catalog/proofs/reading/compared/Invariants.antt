use Rattle.packed_catalog.specs.Inner.CatalogReading.{SharesFront}
use Rattle.packed_catalog.proofs.reading.compared.Given as goal

-- So many bytes are in common, if so many are known to be.
abbrev pub invariant-loop-i : goal.invariant-loop-i
invariant-loop-i l = SharesFront l.known l.key l.other → SharesFront l.i l.key l.other
