use Rattle.std.proofs.Common.{[], arith, length, refl, rules, sym, ◌++◌, ◌+◌, ◌∷◌, ◌≡◌, ◌≤◌, ℕ}
use Rattle.std.specs.Prelude.{replicate}
use Rattle.std.proofs.lemmas.List.{length-append, length-replicate}
use Rattle.port_word.specs.declared.flags.Reserve.{Reserve}
use Rattle.proc_api.specs.Graphs.{reserved_edges}
use Rattle.proc_api.proofs.Reserving.{graph-reserved, reserve-added, starting-blank}
use Rattle.exec_graph.proofs.graph.GraphBuilder.reserve.Goals as goal

pub invariant_of-self : goal.invariant_of-self
invariant_of-self g c =
    let old = c.args.self.now in
    let new = c.args.blanks.items in
    let r : Reserve = record {
      node = c.args.expander;
      first_node = length old.ranks;
      nodes = length new;
      first_edge = reserved_edges old.reserves;
      edges = c.args.edges;
    } in
    let ranks : c.in-Ok.ranks ≡ old.ranks ++ replicate (length new) 0 = search rules in
    let reserves : c.in-Ok-with_reserve.reserves ≡ old.reserves ++ r ∷ [] = search rules in
    let boxes : c.append.new.self.items ≡ old.boxes.items ++ new = search rules in
    let nodes : length old.ranks + length new ≤ 256 = search rules in
    let edges : length old.wires + reserved_edges old.reserves + c.args.edges ≤ 1024 =
    search rules in
    let len : length (old.ranks ++ replicate (length new) 0) ≡ length old.ranks + length new =
    omega (
      arith,
      length-append old.ranks (replicate (length new) 0),
      length-replicate {A = ℕ} (length new) 0,
    ) in
    record {
      one_each = rw (boxes, ranks, len, length-append, old.one_each) refl;
      well_formed = rw (ranks, reserves) (graph-reserved old.ranks (replicate (length new) 0)
          old.wires old.reserves r old.well_formed
          (omega (arith, nodes, length-replicate {A = ℕ} (length new) 0)) edges);
      reserves_fit = rw (ranks, reserves, len) (reserve-added (length old.ranks) 0 old.wires
          old.reserves old.reserves_fit r c.requires.expander.added c.requires.expander.none_kept
          refl (omega arith));
    }

pub returns-in-Ok-append-clause-starting : goal.returns-in-Ok-append-clause-starting
returns-in-Ok-append-clause-starting g c =
    let old = c.args.self.now in
    let new = c.args.blanks.items in
    let r : Reserve = record {
      node = c.args.expander;
      first_node = length old.ranks;
      nodes = length new;
      first_edge = reserved_edges old.reserves;
      edges = c.args.edges;
    } in
    let reserves : c.in-Ok-with_reserve.reserves ≡ old.reserves ++ r ∷ [] = search rules in
    let boxes : c.append.new.self.items ≡ old.boxes.items ++ new = search rules in
    λ h. starting-blank _ old.reserves old.boxes.items h c.append.new.self.items new r boxes
    c.requires.blank (sym old.one_each) refl _ reserves
