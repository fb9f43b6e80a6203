use Rattle.node_workers.proofs.Imports.{ap, arith, drop, length, step_after, sym, ℕ, ◌-◌, ◌∙◌}
use Rattle.node_workers.proofs.BirthLaws.{born-lost}
use Rattle.node_workers.proofs.GrowerLaws.{as-many-places, enough-wires, wires-in}
use Rattle.node_workers.proofs.GrowerOutputs.{lost-outputs}
use Rattle.node_workers.proofs.GrowthVisits.{growth-of}
use Rattle.node_workers.proofs.growth_visit.end_births.Goals as goal

pub last_wires-own-requires : goal.last_wires-own-requires
last_wires-own-requires g c = let h = c.requires.may.outputs.is_asked in
    let e = enough-wires h.flawless in omega (arith, e, c.len.ensures)

pub bear_all-requires-clause-wires : goal.bear_all-requires-clause-wires
bear_all-requires-clause-wires g c κs within =
    grind (arith, wires-in c.requires.may.outputs.wired c.requires.shared.table)

pub bear_all-requires-clause-nodes : goal.bear_all-requires-clause-nodes
bear_all-requires-clause-nodes g c κs within = let r = c.args.growth in let may = c.requires.may in
    ap length c.into_vec.ensures ∙ (sym (as-many-places may.outputs.wired) ∙ sym (ap length
    c.as_slice-places.ensures.value))

pub bear_all-requires-clause-may : goal.bear_all-requires-clause-may
bear_all-requires-clause-may g c κs within = let r = c.args.growth in let may = c.requires.may in
    let value = c.as_slice-places.ensures.value in let step = step_after may.before r.noted in
    let own = c.last_wires-own.ensures ∙ ap (λ (n : ℕ). drop (length r.wires - n) r.wires)
    c.len.ensures in record {
      step = step;
      growth_of = rw (own, value) (growth-of may.outputs);
      nodes_are = c.into_vec.ensures;
      outputs = rw value may.new_outputs;
    }

pub returns-in-Err-clause-lost : goal.returns-in-Err-clause-lost
returns-in-Err-clause-lost g c = lost-outputs c.requires.may.outputs c.requires.shared.reserves

pub end_growth-requires-clause-may : goal.end_growth-requires-clause-may
end_growth-requires-clause-may g c κs within = let r = c.args.growth in let may = c.requires.may in
    let own = c.last_wires-own.ensures ∙ ap (λ (n : ℕ). drop (length r.wires - n) r.wires)
    c.len.ensures in record {
      before = may.before;
      growth = r;
      outputs = rw own may.outputs;
      places_are = c.as_slice-places.ensures.value;
    }

pub returns-clause-lost_new : goal.returns-clause-lost_new
returns-clause-lost_new g c = born-lost g.J.Naming.names g.P.Processor.seen
    c.bear_all.new.new.items c.in-Ok.ensures.fit
