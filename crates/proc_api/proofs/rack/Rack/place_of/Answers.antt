use Rattle.proc_api.proofs.Imports.{rules, sym}
use Rattle.proc_api.proofs.RackLaws.{none_so_far}
use Rattle.proc_api.proofs.rack.Rack.place_of.Goals as goal

pub loop-i-preserved : goal.loop-i-preserved
loop-i-preserved g c =
    none_so_far (λ b. (goal.Processor-dyn g (b.vtable, b.value)).seen b.value) c.args.kind
    c.args.self.now.boxes.items c.loop-i.i c.index.result.now (search rules) (search rules)
    c.loop-i.invariant
    (sym c.if-is_of.ensures)
