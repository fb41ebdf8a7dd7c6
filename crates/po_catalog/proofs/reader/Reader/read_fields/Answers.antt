use Rattle.po_catalog.proofs.reader.Reader.read_fields.Goals as goal

pub fronts-init : goal.fronts-init
fronts-init c = λ end h. h
