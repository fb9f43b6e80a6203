use Rattle.proc_api.proofs.RackLaws.{takes_out_of}
use Rattle.proc_api.proofs.rack.Rack.take.Goals as goal

pub returns-in-Some-clause-taken : goal.returns-in-Some-clause-taken
returns-in-Some-clause-taken g c =
    takes_out_of (λ b. (goal.Processor-dyn g (b.vtable, b.value)).seen b.value) c.args.kind
    c.args.self.now.boxes.items c.remove.new.self.items c.in-Some.place c.remove.result
    c.in-Some.ensures c.remove.ensures.value c.remove.ensures.items
