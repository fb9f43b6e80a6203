use Rattle.pipeline_exec.proofs.Imports.{arith, length, list_any, sym, true, ◌<◌, ◌==◌, ◌∙◌, ◌≡◌}
use Rattle.exec_laws.specs.declared.growth.Blank.{Blank}
use Rattle.pipeline_exec.proofs.CellChanges.{read-at}
use Rattle.pipeline_exec.proofs.gathering.is_left.Goals as goal

pub returns-then-m-len : goal.returns-then-m-len
returns-then-m-len g c = λ on.
    let lt : c.args.m < length c.args.cells.now.items = omega arith in
    read-at c.args.cells.now.items c.args.m c.index.result.now lt c.index.ensures
    (λ e. list_any (λ (b : Blank). b.node == c.args.n) e.cell.reserve.blanks.items ≡ true)
    (sym c.is_blank_of.ensures ∙ on)
