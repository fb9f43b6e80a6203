use Rattle.aggregate_proc.proofs.Imports.{GroupingView, IsGroupPhase, IsGroupState, None, Phase, Takes, aggregate_spec, ap, both_ways, idle_own, phase_own, subst, sym, ◌∙◌, ◌≡◌}
use Rattle.aggregate_proc.proofs.GroupingLaws.{drops, table_own, takes}
use Rattle.aggregate_proc.specs.declared.phase.Phase.TheVariants as phase
use Rattle.aggregate_proc.proofs.grouping.GroupingKernel.take.Goals as goal

pub returns-in-Ok-clause-takes : goal.returns-in-Ok-clause-takes
returns-in-Ok-clause-takes g c = λ wanted.
    let m = g.G.Grouped.merges in
    let k = c.args.self.now in
    let inv : IsGroupState m k = subst (IsGroupState m) c.self.view_is c.self.invariant in
    let here : k.phase ≡ phase.Gathering c.in-Gathering.table =
    sym (ap (λ (v : GroupingView). v.phase) c.self.view_is) ∙ sym c.replace.ensures.value
    ∙ c.in-Gathering.is in
    let t = subst (λ (p : Phase). IsGroupPhase m k.group p) here inv.phase in
    let same = sym (c.as_slice.ensures ∙ c.types.ensures)
    ∙ c.same_types.ensures.0 c.if-not-same_types.false ∙ c.as_slice-in-Gathering.ensures
    ∙ c.types-in-Gathering.ensures in
    rw c.put_phase-in-Ok.ensures (subst (λ (p : Phase). Takes (aggregate_spec m k.group)
    (phase_own m k.group p) c.args._input c.args.chunk (table_own c.in-Ok.table) None)
    (sym here)
    (takes m k.group c.in-Gathering.table c.in-Ok.table c.args._input c.args.chunk t wanted
    c.requires same c.rows-rows.ensures.fit c.in-Ok.ensures))

pub returns-then-not-same_types-clause-takes : goal.returns-then-not-same_types-clause-takes
returns-then-not-same_types-clause-takes g c = λ wanted.
    let m = g.G.Grouped.merges in
    let k = c.args.self.now in
    let inv : IsGroupState m k = subst (IsGroupState m) c.self.view_is c.self.invariant in
    let here : k.phase ≡ phase.Gathering c.in-Gathering.table =
    sym (ap (λ (v : GroupingView). v.phase) c.self.view_is) ∙ sym c.replace.ensures.value
    ∙ c.in-Gathering.is in
    let t = subst (λ (p : Phase). IsGroupPhase m k.group p) here inv.phase in
    let table = sym (c.as_slice-in-Gathering.ensures ∙ c.types-in-Gathering.ensures) in
    rw c.put_phase.ensures (subst (λ (p : Phase). Takes (aggregate_spec m k.group)
    (phase_own m k.group p) c.args._input c.args.chunk (table_own c.in-Gathering.table) None)
    (sym here)
    (drops m k.group (table_own c.in-Gathering.table) c.args._input c.args.chunk (λ fits.
    both_ways _ c.if-not-same_types.true (c.same_types.ensures.1
    (c.as_slice.ensures ∙ c.types.ensures ∙ fits.types_are ∙ sym t.types ∙ table)))))

pub returns-in-Dropping-clause-takes : goal.returns-in-Dropping-clause-takes
returns-in-Dropping-clause-takes g c = λ wanted.
    let m = g.G.Grouped.merges in
    let k = c.args.self.now in
    let inv : IsGroupState m k = subst (IsGroupState m) c.self.view_is c.self.invariant in
    let here : k.phase ≡ phase.Dropping =
    sym (ap (λ (v : GroupingView). v.phase) c.self.view_is) ∙ sym c.replace.ensures.value
    ∙ c.in-Dropping.is in
    let never = subst (λ (p : Phase). IsGroupPhase m k.group p) here inv.phase in
    rw c.put_phase-in-Dropping.ensures (subst (λ (p : Phase). Takes (aggregate_spec m k.group)
    (phase_own m k.group p) c.args._input c.args.chunk idle_own None) (sym here)
    (drops m k.group idle_own c.args._input c.args.chunk (λ fits. never fits.summed)))
