-- What is found in the parents of a document.
use Rattle.std.proofs.Common.{◌≡◌, false, Option, Some, None, is_some, codes, refl, sym, ap, subst, ◌∙◌}
use Rattle.std.specs.Option.{option_and_then}
use Rattle.serde_json.specs.Data.{Data, Members}
use Rattle.serde_json.specs.Find.{as_null, as_object, get}
use Rattle.plural_fallback.specs.LocalesJson.{parent_in}
use Rattle.document_report.specs.CheckedDocument.{members_or_none}
use Rattle.document_report.specs.FoundInDocuments.{Found, IsFoundInDocumentMembers, document_fault_at, nothing_found, together}
use Rattle.document_report.specs.FoundInDocuments.{HasGrownInDocument}
use Rattle.document_report.specs.DocumentPlaces.{at_parents}
use Rattle.document_members.specs.ParentRows.{parent_among}
use Rattle.document_report.specs.ParentFaults.{found_of_shape, IsFoundInParent, IsFoundInParents}
use Rattle.document_report.specs.declared.cause.Cause.TheVariants.{NoObject}
use Rattle.document_report.proofs.FoundTogether.{together-nothing, two_added}
use Rattle.document_report.proofs.SameParents.{parents_are, same_parents}

-- a part of another kind is a fault
pub no_object : (value : Data) → is_some (as_null value) ≡ false → is_some (as_object value) ≡ false
    → found_of_shape (Some value) ≡ document_fault_at at_parents NoObject
no_object value null object = rw (null, object) refl

-- the part is an object with these members
pub with_members : (document : Data) (members : Members) (old shaped new : Found)
    → Some members ≡ option_and_then as_object (get (codes "parents") document)
    → shaped ≡ together old (found_of_shape (get (codes "parents") document))
    → HasGrownInDocument (IsFoundInDocumentMembers (IsFoundInParent (parent_among members)) members) shaped new
    → HasGrownInDocument (IsFoundInParents document) old new
with_members document members old shaped new there shape (each, is, added) =
    let here = found_of_shape (get (codes "parents") document) in
    let by_document : IsFoundInDocumentMembers (IsFoundInParent (parent_in document)) members each =
    same_parents (parent_among members) (parent_in document) (parents_are document members (sym there)) members each is in (
      together here each,
      (
        each,
        subst (λ (o : Option Members). IsFoundInDocumentMembers (IsFoundInParent (parent_in document)) (members_or_none o) each) there by_document,
        refl,
      ),
      two_added old here each shaped new shape added,
    )

-- the part is no object
pub without_members : (document : Data) (old shaped : Found) → None ≡ option_and_then as_object (get (codes "parents") document)
    → shaped ≡ together old (found_of_shape (get (codes "parents") document))
    → HasGrownInDocument (IsFoundInParents document) old shaped
without_members document old shaped none shape =
    let here = found_of_shape (get (codes "parents") document) in (
      together here nothing_found,
      (
        nothing_found,
        subst (λ (o : Option Members). IsFoundInDocumentMembers (IsFoundInParent (parent_in document)) (members_or_none o) nothing_found) none refl,
        refl,
      ),
      shape ∙ ap (together old) (sym (together-nothing here)),
    )
