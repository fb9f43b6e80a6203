use Rattle.std.proofs.Common.{arith}
use Rattle.outside_io.proofs.Fakes.{ended-placed, later-placed, taken-placed, none-now, taken-now, next-is}
use Rattle.outside_io.proofs.script.Script.next_call.Goals as goal

pub invariant_of-self : goal.invariant_of-self
invariant_of-self c =
    ended-placed _ _ _ c.self.invariant (omega (arith, c.if-self-len.true, c.len.ensures))

pub returns-then-self-len-clause-fake : goal.returns-then-self-len-clause-fake
returns-then-self-len-clause-fake c =
    rw (← c.self.view_is) (next-is _ _ _ (omega (arith, c.self.ranges, c.if-self.false))
    (none-now _ _ _ c.self.invariant (invariant_of-self c)))

pub invariant_of-self-then-fake-self : goal.invariant_of-self-then-fake-self
invariant_of-self-then-fake-self c =
    later-placed _ _ _ _ _ c.self.invariant (omega (
      arith,
      c.self.invariant.within,
      c.if-self-len.false,
      c.len.ensures,
    )) c.get-fake.ensures c.if-fake-self.true

pub returns-then-fake-self-clause-fake : goal.returns-then-fake-self-clause-fake
returns-then-fake-self-clause-fake c =
    rw (← c.self.view_is) (next-is _ _ _ (omega (arith, c.self.ranges, c.if-self.false))
    (none-now _ _ _ c.self.invariant (invariant_of-self-then-fake-self c)))

pub invariant_of-self-2 : goal.invariant_of-self-2
invariant_of-self-2 c =
    taken-placed _ _ _ c.get-fake.result.now _ c.self.invariant (omega
    (arith, c.self.invariant.within, c.if-self-len.false, c.len.ensures)) c.get-fake.ensures
    (omega (arith, c.if-fake-self.false))

pub returns-clause-fake : goal.returns-clause-fake
returns-clause-fake c =
    rw (← c.self.view_is) (next-is _ _ _ (omega (arith, c.self.ranges, c.if-self.false))
    (taken-now _ _ _ c.get-fake.result.now _ c.self.invariant (omega
    (arith, c.self.invariant.within, c.if-self-len.false, c.len.ensures)) c.get-fake.ensures
    (omega (arith, c.if-fake-self.false))))
