use Rattle.exec_core.proofs.Imports.{[], ap, append-nil, arith, cond, filter_of_map_range_with_len_more, fresh_sight, is_end_among, sym, ◌∙◌, ◌∷◌}
use Rattle.exec_core.proofs.start_state.ports_of.Goals as goal
use Rattle.exec_core.proofs.start_state.ports_of.Goals.{then-names+in_ok-push, else-names}

pub loop-e-preserved : goal.loop-e-preserved
loop-e-preserved c = let i = c.loop-e.invariant in let n = c.names.ensures in
    let e = filter_of_map_range_with_len_more (is_end_among c.args.n c.args.wires.now) fresh_sight 0
    c.loop-e.e c.loop-e.e (omega arith) in elim c.if-names.branch [
      | then-names+in_ok-push w ↦ let p = w.in_ok-push.ensures.items in let s = w.seen-is in
          let q = ap (λ b. cond b (fresh_sight c.loop-e.e ∷ []) []) (sym n ∙ w.if-names.true) in
          cc (e, p, s, i, q)
      | else-names w ↦ let s = w.seen-is in
          let q = ap (λ b. cond b (fresh_sight c.loop-e.e ∷ []) []) (sym n ∙ w.if-names.false) in
          cc (e, append-nil c.loop-e.seen.items, s, i, q)
    ]
