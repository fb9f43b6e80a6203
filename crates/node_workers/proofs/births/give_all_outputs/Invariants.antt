use Rattle.node_workers.proofs.Imports.{AwaitsGrowth, EndsNote, HasNewOutputs, IsGrowthOf, IsNoteOf, NamedCell, NotedStep, get_elem?, length, noted, place_at, some, ℕ, ◌<◌, ◌≡◌, ◌≤◌}
use Rattle.node_workers.proofs.births.give_all_outputs.Given as goal

abbrev pub invariant-loop-k : goal.invariant-loop-k
invariant-loop-k g l = record {
  note : IsNoteOf l.shared.notes l.note;
  reserve : l.note.reserve ≡ l.initial.note.reserve;
  noted_is : noted l.note ≡ noted l.initial.note;
  many : length l.new.items ≡ length l.places;
  waiting : (i : ℕ) (d : NamedCell g.row.P.Denot g.row.J.Denot)
      → get_elem? l.new.items i ≡ some d → l.k ≤ i
      → AwaitsGrowth g.J.Naming.names g.P.Processor.seen (place_at l.places i) d;
  given : (h : NotedStep) → IsGrowthOf g.J.Naming.names h l.wires l.first l.places
      → EndsNote h l.initial.note → (i : ℕ) (d : NamedCell g.row.P.Denot g.row.J.Denot)
      → get_elem? l.new.items i ≡ some d → i < l.k
      → HasNewOutputs g.J.Naming.names g.P.Processor.seen h (place_at l.places i) d;
}
