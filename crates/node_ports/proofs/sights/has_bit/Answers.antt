use Rattle.node_ports.proofs.Imports.{arith}
use Rattle.std.proofs.lemmas.Nat.Bits.{bit_at_above}
use Rattle.node_ports.proofs.sights.has_bit.Goals as goal

pub returns-else-k-lt32 : goal.returns-else-k-lt32
returns-else-k-lt32 c = let past = c.if-k-lt32.false in
    let none = bit_at_above c.args.word 32 c.args.k c.ranges.word.fits past in
    grind (arith, past, none)
