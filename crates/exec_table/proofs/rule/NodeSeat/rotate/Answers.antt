use Rattle.exec_table.proofs.Imports.{AreEdgesOnce, ap, edges_out, slot_in, subst, sym, ◌∙◌}
use Rattle.exec_table.proofs.SlotLists.{turned-edges, turned-once, turned-slots}
use Rattle.exec_table.proofs.rule.NodeSeat.rotate.Goals as goal

pub returns-in-Some-clause-hand : goal.returns-in-Some-clause-hand
returns-in-Some-clause-hand c = let h = c.requires in
    let last = c.push_back_reserved.ensures.items in let front = c.in-Some.ensures.items in record {
      places = last ∙ sym (ap (λ m. edges_out m.1) c.turn.ensures.2
          ∙ turned-edges _ c.in-Some.e c.pop_front.new.self.items (sym h.places ∙ front));
      once = subst (λ l. AreEdgesOnce l) (sym last)
          (turned-once c.in-Some.e c.pop_front.new.self.items
          (subst (λ l. AreEdgesOnce l) front h.once));
    }

pub returns-in-Some-clause-slots : goal.returns-in-Some-clause-slots
returns-in-Some-clause-slots c = let h = c.requires in λ d. ap (λ m. slot_in d m.1) c.turn.ensures.2
    ∙ turned-slots _ d (subst (λ l. AreEdgesOnce l) h.places h.once)
