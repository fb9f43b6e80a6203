use Rattle.node_workers.proofs.Imports.{AwaitGrowth, AwaitsGrowth, NamedCell, [], ap, arith, length, length-append, number_of, place_at, subst, sym, ℕ, ◌∙◌, ◌∷◌}
use Rattle.node_workers.proofs.BirthLaws.{fit-push, times-more}
use Rattle.node_workers.proofs.births.take_all.Goals as goal

pub loop-k-preserved : goal.loop-k-preserved
loop-k-preserved g c = let inv = c.loop-k.invariant in let d = c.in-Ok.named in
    let took = c.take_new.ensures in let x = g.J.Naming.names in let seen = g.P.Processor.seen in
    let places = c.args.places.now in let cells = c.loop-k.new.items in
    let pushed = c.push_reserved.ensures.items in
    let awaits : AwaitsGrowth x seen (place_at places c.loop-k.k) d = c.in-Ok.ensures.awaits in
    let m = ap length pushed in let l = length-append cells (d ∷ []) in let many = inv.many in
    record {
      seat = (took.seat.0 ∙ inv.seat.0, took.seat.1 ∙ inv.seat.1);
      held = λ q.
          grind (arith, times-more number_of q cells c.push_reserved.new.self.items d pushed);
      waiting = subst (AwaitGrowth x seen places) (sym pushed)
          (fit-push (λ (e : NamedCell g.row.P.Denot g.row.J.Denot) (k : ℕ).
          AwaitsGrowth x seen (place_at places k) e) cells d inv.waiting
          (subst (λ k. AwaitsGrowth x seen (place_at places k) d) (sym {A = ℕ} many) awaits));
      many = omega (arith, m, l, many);
      room = let r = inv.room in let cap = c.push_reserved.ensures.capacity in
          omega (arith, r, cap);
    }
