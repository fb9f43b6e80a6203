use Rattle.std.proofs.Common.{length, sym, ◌∙◌}
use Rattle.port_word.specs.declared.flags.Wire.{Wire}
use Rattle.exec_graph.proofs.Refusals.{due-refused, push-connected, push-kept}
use Rattle.exec_graph.proofs.graph.GraphBuilder.connect.Goals as goal

pub returns-in-Some-clause-refused : goal.returns-in-Some-clause-refused
returns-in-Some-clause-refused g c =
    let old = c.args.self.now in
    due-refused c.in-Some.refusal old.ranks old.wires old.reserves
    (record { from = c.args.from; out = c.args.out; to = c.args.to; input = c.args.input })
    (sym c.due_refusal.ensures ∙ c.in-Some.is)

pub invariant_of-self-2 : goal.invariant_of-self-2
invariant_of-self-2 g c =
    let old = c.args.self.now in
    let w : Wire =
    record { from = c.args.from; out = c.args.out; to = c.args.to; input = c.args.input } in
    record {
      one_each = old.one_each;
      well_formed = push-connected old.ranks old.wires c.push.new.self old.reserves w c.push.result
          old.well_formed c.requires.from_added.in_range c.requires.to_added.in_range
          (sym c.due_refusal.ensures ∙ c.in_default.is) c.push.ensures.ok c.push.ensures.err;
      reserves_fit = push-kept (length old.ranks) old.wires c.push.new.self old.reserves w
          c.push.result old.reserves_fit c.requires.from_added c.requires.to_added
          c.push.ensures.ok c.push.ensures.err;
    }
