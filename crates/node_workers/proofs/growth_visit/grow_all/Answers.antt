use Rattle.node_workers.proofs.Imports.{IsGrowthOf, Memory, Some, ap, arith, drop, length, step_after, subst, sym, ℕ, ◌-◌, ◌∙◌}
use Rattle.node_workers.proofs.BirthLaws.{all-numbers, all-there, waiting-numbers, waiting-there}
use Rattle.node_workers.proofs.GrowerLaws.{enough-wires, wires-in}
use Rattle.node_workers.proofs.GrowerOutputs.{lost-outputs}
use Rattle.node_workers.proofs.GrowthVisits.{growth-of, outputs-on}
use Rattle.node_workers.proofs.growth_visit.grow_all.Goals as goal

pub last_wires-own-requires : goal.last_wires-own-requires
last_wires-own-requires g c = omega (arith, enough-wires c.requires.asked.flawless, c.len.ensures)

pub begin_growth-requires-clause-wires : goal.begin_growth-requires-clause-wires
begin_growth-requires-clause-wires g c κs within = let r = c.args.growth in
    c.last_wires-own.ensures ∙ ap (λ (n : ℕ). drop (length r.wires - n) r.wires) c.len.ensures

pub returns-in-Err-clause-lost_new : goal.returns-in-Err-clause-lost_new
returns-in-Err-clause-lost_new g c = waiting-there _ g.P.Processor.seen _ _ c.requires.waiting

pub give_all_outputs-requires-clause-wires : goal.give_all_outputs-requires-clause-wires
give_all_outputs-requires-clause-wires g c κs within =
    wires-in c.in-Ok.ensures.ok.wired c.requires.shared.table

pub give_all_outputs-requires-clause-waiting : goal.give_all_outputs-requires-clause-waiting
give_all_outputs-requires-clause-waiting g c κs within =
    rw c.as_slice.ensures.value c.requires.waiting

pub returns-in-Err-give_all_outputs-clause-numbers :
    goal.returns-in-Err-give_all_outputs-clause-numbers
returns-in-Err-give_all_outputs-clause-numbers g c = let x = g.J.Naming.names in
    let seen = g.P.Processor.seen in let out = c.in-Ok.ensures.ok in let r = c.args.growth in
    let own = c.last_wires-own.result.now in let first = c.args.cell.now.reserve.next_edge in
    let value = c.as_slice.ensures.value in let step = step_after c.args.note.now r.noted in
    all-numbers _ seen (λ _. Some Memory) _ _ (c.in-Err-give_all_outputs.ensures.lost step (subst
    (IsGrowthOf x step own first) (sym value) (growth-of out)) out.ends)
    c.give_all_outputs.ensures.many ∙ (value ∙ sym (waiting-numbers x seen r.noted.places.items
    c.args.new.now.items c.requires.waiting c.requires.many))

pub returns-in-Err-give_all_outputs-clause-lost : goal.returns-in-Err-give_all_outputs-clause-lost
returns-in-Err-give_all_outputs-clause-lost g c = let gave = c.give_all_outputs.ensures in
    lost-outputs (outputs-on c.in-Ok.ensures.ok (gave.note ∙ c.requires.shared.notes_are)
    gave.reserve gave.noted) c.requires.shared.reserves

pub returns-in-Err-give_all_outputs-clause-lost_new :
    goal.returns-in-Err-give_all_outputs-clause-lost_new
returns-in-Err-give_all_outputs-clause-lost_new g c =
    let step = step_after c.args.note.now c.args.growth.noted in
    all-there g.J.Naming.names g.P.Processor.seen (λ _. Some Memory) c.as_slice.result.now
    c.give_all_outputs.new.new.items (c.in-Err-give_all_outputs.ensures.lost step (rw
    c.as_slice.ensures.value (growth-of c.in-Ok.ensures.ok)) c.in-Ok.ensures.ok.ends)

pub end_births-requires-clause-may : goal.end_births-requires-clause-may
end_births-requires-clause-may g c κs within =
    let x = g.J.Naming.names in let out = c.in-Ok.ensures.ok in
    let r = c.args.growth in let own = c.last_wires-own.result.now in
    let first = c.args.cell.now.reserve.next_edge in let value = c.as_slice.ensures.value in
    let step = step_after c.args.note.now r.noted in let gave = c.give_all_outputs.ensures in
    let is = c.last_wires-own.ensures
    ∙ ap (λ (n : ℕ). drop (length r.wires - n) r.wires) c.len.ensures in record {
      before = c.args.note.now;
      outputs = rw (← is) (outputs-on out (gave.note ∙ c.requires.shared.notes_are) gave.reserve
          gave.noted);
      new_outputs = rw value at (c.in-Ok-give_all_outputs.ensures.ok step (subst (IsGrowthOf x step
          own first) (sym value) (growth-of out)) out.ends);
    }

pub returns-clause-numbers : goal.returns-clause-numbers
returns-clause-numbers g c = c.end_births.ensures.numbers
    ∙ sym (waiting-numbers _ g.P.Processor.seen _ _ c.requires.waiting c.requires.many)
