use Rattle.exec_table.proofs.Imports.{ap, arith, length, length-take-le, sizes_in, ◌∙◌}
use Rattle.exec_table.proofs.Surveying.{has-still, note-allowed, survey-allowed}
use Rattle.exec_table.proofs.rule.ExecTable.note.Goals as goal

pub load-requires : goal.load-requires
load-requires c = let many = c.requires.words in let same = c.loop-i.auto.words in
    let test = c.loop-i-test.true in let inv = c.loop-i.invariant in (
      inv.table ∙ c.requires.root,
      omega arith,
      note-allowed (sizes_in c.args.self.now) _ _ c.loop-i.i c.loop-i.root.me
          (has-still _ c.args.root.now.me.0 c.loop-i.root.me.0 inv.nodes c.requires.all)
          (ap length inv.noted ∙ length-take-le c.loop-i.i c.loop-i.words (omega arith)),
    )

pub load-requires-2 : goal.load-requires-2
load-requires-2 c = let many = c.requires.words in let same = c.loop-i.auto.words in
    let test = c.loop-i-test.false in let end = c.loop-i.auto.i-end in
    let inv = c.loop-i.invariant in
    let w = c.args.self.now.words in let n = c.args.self.now.nodes_are in
    let e = c.args.self.now.edges_are in (
      inv.table ∙ c.requires.root,
      omega arith,
      survey-allowed (sizes_in c.args.self.now) _ _ 0 c.loop-i.root.me
          (ap length inv.noted ∙ (length-take-le c.loop-i.i c.loop-i.words (omega arith)
          ∙ omega arith)),
    )
