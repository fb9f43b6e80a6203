use Rattle.command_line.proofs.Imports.{arith, eq-eqb, length, position_or_len_is, sym, ◌==◌}
use Rattle.command_line.proofs.pieces.place_of.Goals as goal

pub returns-then-text-i-clause-place : goal.returns-then-text-i-clause-place
returns-then-text-i-clause-place c =
    sym (position_or_len_is (λ b. b == c.args.byte) c.args.text.now c.loop-i.i 0 (omega arith)
    c.loop-i.invariant (λ _. eq-eqb _ _ c.if-text-i.true))

pub returns-clause-place : goal.returns-clause-place
returns-clause-place c =
    sym (position_or_len_is (λ b. b == c.args.byte) c.args.text.now (length c.args.text.now) 0
    (omega arith) (λ k lt. c.loop-i.invariant k (omega arith)) (λ lt. absurd (omega arith)))
