use Rattle.std.proofs.Common.{◌≡◌, ◌<◌, ◌≤◌, length}
use Rattle.po_catalog.specs.Quoted.{hexadecimal}
use Rattle.po_catalog.proofs.quoted.hexadecimal_front.Given as goal

-- only digits were passed, and their code is a byte
abbrev pub invariant-loop-rest : goal.invariant-loop-rest
invariant-loop-rest l = record {
  code : hexadecimal l.code l.rest ≡ hexadecimal l.first l.text;
  byte : l.code < 256;
  shorter : length l.rest ≤ length l.text;
}

abbrev pub decreases-loop-rest : goal.decreases-loop-rest
decreases-loop-rest l = length l.rest
