use Rattle.node_workers.proofs.Imports.{CellFits, HasNewOutputs, IsLost, Memory, NamedCell, Some, [], ap, append-nil, append_assoc, arith, at_index, at_last, at_longer, cases_lt, get_elem?, inl, inr, length, length-append, length-set, place_at, some, subst, sym, ℕ, ◌++◌, ◌+◌, ◌<◌, ◌∙◌, ◌∷◌, ◌≡◌, ◌≤◌}
use Rattle.node_workers.proofs.BirthLaws.{all-numbers, all-there, has-form, lost-fits, lost-given, new-node}
use Rattle.node_workers.proofs.NoteLaws.{set-each, within}
use Rattle.node_workers.proofs.births.bear_all.Goals as goal

pub bear_new-requires-clause-may : goal.bear_new-requires-clause-may
bear_new-requires-clause-may g c κs within = let inv = c.loop-node.invariant in
    let popped = c.in-Some.ensures.items in let left = c.pop.new.self.items in
    let node = c.in-Some.node in let k = c.len-k.result in let l = ap length popped in
    let m = length-append left (node ∷ []) in let few = inv.few in
    let is = c.len-k.ensures ∙ c.pop.new.self.ok.0 in let many = inv.many in record {
      step = inv.step;
      number = k;
      wired = inv.growth_of.wired;
      new = new-node inv.growth_of k (omega (arith, l, m, few, is));
      outputs = inv.waiting k c.index_mut.result.now (at_index c.loop-node.new.items k
          c.index_mut.result.now (omega (arith, l, m, few, is, many)) c.index_mut.ensures.value)
          (omega (arith, l, m, is));
      form = has-form inv.step.noted.growth.nodes k node (subst (λ ns. get_elem? ns k ≡ some node)
          inv.nodes_are (at_longer c.loop-node.nodes.items inv.taken k node (rw popped (at_last left
          node k (sym is)))));
    }

pub loop-node-init : goal.loop-node-init
loop-node-init g c = let may = c.requires.may in record {
  step = may.step;
  growth_of = may.growth_of;
  taken = [];
  nodes_are = append-nil _ ∙ may.nodes_are;
  few = let n = c.requires.nodes in omega (arith, n);
  many = c.requires.many;
  waiting = λ i d at lt. may.outputs i d at;
  born = λ i d at le. absurd (let lt = within c.args.new.now.items i d at in
      let n = c.requires.nodes in let m = c.requires.many in omega (arith, le, lt, n, m));
}

pub loop-node-preserved : goal.loop-node-preserved
loop-node-preserved g c = let inv = c.loop-node.invariant in let popped = c.in-Some.ensures.items in
    let left = c.pop.new.self.items in let node = c.in-Some.node in let k = c.len-k.result in
    let x = g.J.Naming.names in let seen = g.P.Processor.seen in let places = c.args.places.now in
    let cells = c.loop-node.new.items in let d = c.bear_new.new.named in let l = ap length popped in
    let m = length-append left (node ∷ []) in let few = inv.few in
    let is = c.len-k.ensures ∙ c.pop.new.self.ok.0 in record {
      step = inv.step;
      growth_of = inv.growth_of;
      taken = node ∷ inv.taken;
      nodes_are = sym (append_assoc left (node ∷ []) inv.taken)
          ∙ (ap (λ ns. ns ++ inv.taken) (sym popped) ∙ inv.nodes_are);
      few = omega (arith, l, m, few);
      many = length-set cells k d ∙ inv.many;
      waiting = set-each (λ i (e : NamedCell g.row.P.Denot g.row.J.Denot). i < length left →
          HasNewOutputs x seen inv.step (place_at places i) e) cells k d (λ i e at ne lt.
          inv.waiting i e at (omega (arith, lt, l, m))) (λ lt. absurd (omega (arith, lt, is)));
      born = set-each (λ i (e : NamedCell g.row.P.Denot g.row.J.Denot). length left ≤ i → CellFits x
          seen (place_at places i) e.cell e.stopped e.note) cells k d (λ i e at ne le. inv.born i e
          at (omega (arith, le, ne, l, m, is))) (λ le. c.in-Ok.ensures.ok);
    }

pub returns-in-Err : goal.returns-in-Err
returns-in-Err g c = let inv = c.loop-node.invariant in let popped = c.in-Some.ensures.items in
    let left = c.pop.new.self.items in let node = c.in-Some.node in let k = c.len-k.result in
    let x = g.J.Naming.names in let seen = g.P.Processor.seen in let places = c.args.places.now in
    let cells = c.loop-node.new.items in let d = c.bear_new.new.named in let l = ap length popped in
    let m = length-append left (node ∷ []) in let is = c.len-k.ensures ∙ c.pop.new.self.ok.0 in
    let many = length-set cells k d ∙ inv.many in
    let lost = set-each (λ i (e : NamedCell g.row.P.Denot g.row.J.Denot). IsLost x seen (place_at
    places i) e) cells k d (λ i e at ne. let lt = within cells i e at in let all = inv.many in
    elim (cases_lt i k) [
      | inl less ↦ lost-given x seen inv.growth_of.wired (new-node inv.growth_of i
          (omega (arith, lt, all))) (inv.waiting i e at (omega (arith, less, l, m, is)))
      | inr le ↦ lost-fits x seen (place_at places i) e.cell e.stopped e.note
          (inv.born i e at (omega (arith, le, ne, l, m, is)))
    ]) c.in-Err.ensures.lost in record {
      many = many;
      numbers = all-numbers x seen (λ _. Some Memory) places _ lost many;
      fit = tt;
      lost = all-there x seen (λ _. Some Memory) places _ lost;
    }

pub returns : goal.returns
returns g c = let x = g.J.Naming.names in let seen = g.P.Processor.seen in
    let all = λ (i : ℕ) (e : NamedCell g.row.P.Denot g.row.J.Denot) (at : get_elem?
    c.loop-node.new.items i ≡ some e). c.loop-node.invariant.born i e at
    (omega (arith, c.in_default.ensures.cases.0, c.loop-node.nodes.ok.0)) in record {
      many = c.loop-node.invariant.many;
      numbers = all-numbers x seen (λ e. e.stopped) c.args.places.now c.loop-node.new.items all
          c.loop-node.invariant.many;
      fit = all-there x seen (λ e. e.stopped) c.args.places.now c.loop-node.new.items all;
      lost = tt;
    }
