use Rattle.node_ports.proofs.Imports.{Input, Output, Updated, arith, ℕ, ◌||◌, ◌≡◌}
use Rattle.core_laws.specs.Views.{is_set}
use Rattle.node_ports.specs.Ports.{IsMerged}
use Rattle.std.proofs.Common.{bit_or}
use Rattle.std.proofs.lemmas.Nat.Bits.{bit_at-lt, bit_at_or}
use Rattle.node_ports.proofs.sights.merge_updated.Goals as goal

set-or : (x y i : ℕ) → is_set (bit_or x y) i ≡ (is_set x i || is_set y i)
set-or x y i = grind (arith, bit_at_or x y i, bit_at-lt x i, bit_at-lt y i)

merged : (a b : Updated) → IsMerged a b record {
  inputs = bit_or a.inputs b.inputs;
  outputs = bit_or a.outputs b.outputs;
  first = a.first || b.first;
}
merged a b (Input i) = grind (arith, set-or a.inputs b.inputs i)
merged a b (Output o) = grind (arith, set-or a.outputs b.outputs o)

pub returns : goal.returns
returns c = merged c.args.some c.args.more
