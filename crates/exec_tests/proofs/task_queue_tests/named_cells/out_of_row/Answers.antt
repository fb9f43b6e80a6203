use Rattle.std.proofs.Common.{arith, ap, ◌∷◌, [], length, length-append}
use Rattle.exec_tests.proofs.Fitting.{fit-last, fit-rest}
use Rattle.exec_tests.proofs.task_queue_tests.named_cells.out_of_row.Goals as goal

pub returns : goal.returns
returns g c =
    let one = c.in_ok-second.ensures.items in let two = c.in_ok-first.ensures.items in
    let n = c.requires.0 in let fits = g.V.Placed.fits in let all = c.args.all.items in
    let left = c.pop.new.self.items in let second = c.in_ok-second.second in
    let a = ap length one in let b = length-append left (second ∷ []) in (
      fit-last fits left _ _ two (fit-rest fits all left second one c.requires.1) 0 (omega arith),
      fit-last fits all left second one c.requires.1 1 n,
    )
