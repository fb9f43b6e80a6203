use Rattle.node_workers.proofs.Imports.{All-push, IsDequeFor, [], ap, arith, length, length-append, ◌∷◌}
use Rattle.node_workers.proofs.rooms.make_deques.Goals as goal

pub loop-i-preserved : goal.loop-i-preserved
loop-i-preserved c = let inv = c.loop-i.invariant in let pushed = c.push_reserved.ensures.items in
    let made = c.in_ok-with_capacity.ensures in let d = c.in_ok-with_capacity.field-0 in
    let a = ap length pushed in let b = length-append c.loop-i.deques.items (d ∷ []) in record {
      many = let k = inv.many in omega arith;
      room = let k = inv.room in let cap = c.push_reserved.ensures.capacity in omega arith;
      each = rw pushed (All-push (IsDequeFor c.args.nodes) c.loop-i.deques.items d inv.each
          (made.items, made.capacity));
    }
