use Rattle.proc_shell.proofs.Imports.{None, differs_false, differs_true, option_map, shell_state, sym, ◌∙◌}
use Rattle.query_model.specs.contracts.processor_spec.Kind as kind
use Rattle.proc_shell.proofs.BoxLaws.{loads, none-mapped, wrong-kind}
use Rattle.proc_shell.proofs.shell.ShellProcessor.load.Goals as goal

pub returns-then-ne-clause-refused : goal.returns-then-ne-clause-refused
returns-then-ne-clause-refused g c =
    let parts =
    option_map (λ l. shell_state (g.K.Kernel.state l.kernel) l.held l.notes) c.self.inside.loaded in
    rw (← c.self.view_is) (wrong-kind g.K.Kernel.kind_is None c.self.inside.pulled parts c.args.spec
    (none-mapped (λ l. shell_state (g.K.Kernel.state l.kernel) l.held l.notes) c.self.inside.loaded
    (sym c.is_some.ensures ∙ c.if-is_some.false))
    (λ e. differs_true kind.the_type c.kind.result c.kind-2.result (sym c.ne.ensures ∙ c.if-ne.true)
    (c.kind.ensures ∙ e ∙ sym c.kind-2.ensures)))

pub returns-in-Ok-clause-ok : goal.returns-in-Ok-clause-ok
returns-in-Ok-clause-ok g c =
    let parts =
    option_map (λ l. shell_state (g.K.Kernel.state l.kernel) l.held l.notes) c.self.inside.loaded in
    rw (← c.self.view_is)
    (loads g.K.Kernel.kind_is None c.self.inside.pulled c.begin.new.self parts c.args.spec
    (shell_state (g.K.Kernel.state c.in-Ok.loaded.kernel) c.in-Ok.loaded.held c.in-Ok.loaded.notes)
    (none-mapped (λ l. shell_state (g.K.Kernel.state l.kernel) l.held l.notes) c.self.inside.loaded
    (sym c.is_some.ensures ∙ c.if-is_some.false))
    (sym c.kind.ensures ∙ differs_false kind.the_type tt c.kind.result c.kind-2.result
    (sym c.ne.ensures ∙ c.if-ne.false) ∙ c.kind-2.ensures) c.in-Ok.ensures c.begin.ensures)
