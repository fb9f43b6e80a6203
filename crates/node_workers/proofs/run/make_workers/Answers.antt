use Rattle.node_workers.proofs.Imports.{All-pop, All-push, IsDequeFor, IsWorkerAt, Some, Worker, [], ap, arith, length, length-append, parts_of, places, total-push, total_over, ◌∙◌, ◌∷◌}
use Rattle.node_workers.proofs.run.make_workers.Goals as goal

pub loop-held-preserved : goal.loop-held-preserved
loop-held-preserved g c = let inv = c.loop-held.invariant in
    let did = c.next_worker-worker.ensures in let popped = c.in-Some.ensures.items in
    let pushed = c.push_reserved.ensures.items in let w = c.next_worker-worker.result in
    let a = ap length popped in let b = length-append c.pop.new.self.items (c.in-Some.held ∷ []) in
    let d = ap length pushed in let e = length-append c.loop-held.workers.items (w ∷ []) in
    let made = did.made in let share = did.from.1 in let one = did.worker.1 in record {
      root = record { root = did.root; spare = let s = inv.root.spare in omega arith };
      first = did.from.0;
      whole = grind (arith, total-push, c.loop-held.workers.items, g.row.P.Denot, g.row.J.Denot);
      parts = let k = inv.parts in omega arith;
      many = let k = inv.many in omega arith;
      held = (All-pop (IsDequeFor (places c.args.shared.now.shelf)) c.loop-held.held.items
          c.pop.new.self.items (Some c.in-Some.held) popped inv.held).0;
      room = let k = inv.room in let cap = c.push_reserved.ensures.capacity in omega arith;
      workers = rw pushed (All-push (IsWorkerAt c.args.shared.now) c.loop-held.workers.items w
          inv.workers did.worker.0);
    }

pub returns-clause-workers : goal.returns-clause-workers
returns-clause-workers g c =
    let inv = c.loop-held.invariant in let pushed = c.push_reserved-2.ensures.items in record {
      each = rw pushed (All-push (IsWorkerAt c.args.shared.now) c.loop-held.workers.items
          c.loop-held.first inv.workers inv.first);
      whole = ap (total_over {V = Worker g.row.P.Denot g.row.J.Denot} parts_of) pushed
          ∙ (total-push parts_of c.loop-held.workers.items c.loop-held.first ∙ inv.whole);
    }
