use Rattle.csv_procs.proofs.Imports.{None, Option, Some, differs_false, differs_true, false, is_some, loads, refl, sym, ◌∙◌, ◌≡◌}
use Rattle.csv_procs.proofs.SourceLaws.{reads}
use Rattle.query_model.specs.contracts.processor_spec.Kind as kinds
use Rattle.csv_procs.proofs.file_source.FileSourceProcessor.load.Goals as goal

is-none : {A : Type 0} (o : Option A) → is_some o ≡ false → o ≡ None
is-none None e = refl
is-none (Some x) e = absurd cc

pub returns-then-ne-clause-refused : goal.returns-then-ne-clause-refused
returns-then-ne-clause-refused g c =
    let blank = is-none c.self.inside.loaded (sym c.is_some.ensures ∙ c.if-is_some.false) in
    rw (← c.self.view_is, blank) (
      refl,
      λ e. differs_true kinds.the_type c.kind.result c.kind-2.result
          (sym c.ne.ensures ∙ c.if-ne.true) (c.kind.ensures ∙ e ∙ sym c.kind-2.ensures),
    )

pub returns-in-Ok-clause-ok : goal.returns-in-Ok-clause-ok
returns-in-Ok-clause-ok g c =
    let r = g.R.FileReader.reader c.self.inside.reader in
    let blank = is-none c.self.inside.loaded (sym c.is_some.ensures ∙ c.if-is_some.false) in
    rw (← c.self.view_is, blank) (loads g.K.Kernel.kind_is
    (reads r.files r.faults r.pendings) c.self.inside.pulled _ None _ _ refl
    (sym c.kind.ensures ∙ differs_false kinds.the_type tt c.kind.result c.kind-2.result
    (sym c.ne.ensures ∙ c.if-ne.false) ∙ c.kind-2.ensures) c.in-Ok.ensures c.begin.ensures)
