use Rattle.proc_shell.proofs.Imports.{Ready, ap, arith, row_of, rules, sym, true, ◌∙◌, ◌≡◌}
use Rattle.proc_shell.proofs.Resizing.{resize-passes}
use Rattle.proc_shell.proofs.SeveralTurns.{turns-again, turns-once}
use Rattle.proc_shell.proofs.turns.move_chunks.Goals as goal

pub loop-next-init : goal.loop-next-init
loop-next-init g c = (
  turns-once _ _ _ _ _ _ _ _ _ _ _ _ c.requires.ports c.requires.few c.push_made.ensures
      c.run_turn-status.ensures.takes,
  c.run_turn-status.ensures.wanted,
  c.run_turn-status.ensures.ready,
  search rules,
  omega (
    arith,
    c.requires.few_in,
    c.push_made.ensures.ins,
    c.run_turn-status.ensures.takes.turns.moves.ins,
  ),
)

pub loop-next-preserved : goal.loop-next-preserved
loop-next-preserved g c =
    let t = c.run_turn-status-in-loop-next in
    let l = c.loop-next in
    let of : c.kind_row.result.passes_on ≡ true = search rules in
    let ready : l.status ≡ Ready = search rules in (
      λ notes. turns-again _ (g.K.Kernel.open_to l.kernel) g.K.Kernel.makes _ _ _ _ _ _ _ _ _ _ _
          _ _ _ (resize-passes _
          (ap (λ k. (row_of k).passes_on)
          ((g.met.K.Kernel.of_kind l.kernel).1 ∙ sym c.kind.ensures)
          ∙ sym c.kind_row.ensures.passes ∙ of))
          ready c.requires.ports c.requires.few l.invariant.1 c.if-not-pass_on.ensures
          t.ensures.takes (l.invariant.0 notes),
      t.ensures.wanted,
      t.ensures.ready,
      search rules,
      search rules,
    )

pub returns-then-not-pass_on-clause-moves : goal.returns-then-not-pass_on-clause-moves
returns-then-not-pass_on-clause-moves g c =
    rw (c.if-not-pass_on.ensures.0, c.if-not-pass_on.ensures.1) c.loop-next.invariant.0
