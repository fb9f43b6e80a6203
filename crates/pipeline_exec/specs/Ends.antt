-- The ends of a run.
use Rattle.exec_laws.specs.Names.{AreAllBorn, AreBirths, Birth, IsBadGrowth, IsDone, IsFault, IsStuck, box_at, grown_ranks, grown_wires}
use Rattle.exec_laws.specs.Prelude.{BoxPicture, IsGraph, Reserve, SameBox, Wire, WorkFault}
use Rattle.exec_laws.specs.declared.growth.GrowthFlaw.{GrowthFlaw}
use Rattle.std.specs.Prelude.{IsTrue, List, None, [], length, ℕ, ⊤, ◌<◌, ◌≡◌, ◌≢◌, ◌⊎◌}
use Rattle.proc_api.specs.declared.status.WorkFault.TheVariants as fault
use Rattle.pipeline_exec.specs.declared.run.ExecEnd.{ExecEnd}
use Rattle.pipeline_exec.specs.declared.run.ExecEnd.TheVariants as end
pub use Rattle.node_births.specs.LeftNodes.{GraphBefore as Begun}

-- the graph of these parts
abbrev pub graph_of_boxes : List ℕ → List Wire → List Reserve → List BoxPicture → Begun
graph_of_boxes ranks wires reserves boxes =
    record { ranks = ranks; wires = wires; reserves = reserves; boxes = boxes }

-- the graph has grown, and this is true of the wires then
pub record HasGrown (b : Begun) (boxes : List BoxPicture) (P : List Wire → Type 0) : Type 0 where
  pub births : List Birth
  pub are : AreBirths b.reserves b.boxes boxes births
  pub holds : P (grown_wires b.wires births)

-- it has grown by each growth that a lawful box keeps
pub record HasGrownByAll (b : Begun) (boxes : List BoxPicture) (P : List Wire → Type 0) : Type 0
  where
    pub grown : HasGrown b boxes P
    pub all : AreAllBorn b.boxes boxes grown.births

-- The last growth has a flaw. The graph had grown by the births before it, which left these boxes;
-- that of the node is the same, and had not grown if it is lawful.
pub record EndsBadly (b : Begun) (boxes : List BoxPicture) (node : ℕ)
    (f : GrowthFlaw) : Type 0 where
  pub births : List Birth
  pub grown : List BoxPicture
  pub are : AreBirths b.reserves b.boxes grown births
  pub graph : IsGraph (grown_ranks b.ranks births) (grown_wires b.wires births) []
  pub others : (n : ℕ) → n ≢ node → box_at boxes n ≡ box_at grown n
  pub same : SameBox (box_at grown node) (box_at boxes node)
  pub once : IsTrue (box_at boxes node).lawful → (box_at grown node).growth ≡ None
  pub bad : IsBadGrowth b.ranks b.wires b.reserves births boxes node f

-- what each end says of the boxes as they are given back
abbrev pub ExecEndHolds : ExecEnd → Begun → List BoxPicture → Type 0
ExecEndHolds end.Done b boxes = HasGrownByAll b boxes (λ wires. IsDone wires boxes)
ExecEndHolds (end.Stuck report node) b boxes =
    HasGrownByAll b boxes (λ wires. IsStuck wires boxes report node)
ExecEndHolds (end.Fault node f) b boxes = HasGrown b boxes (λ wires. IsFault boxes node f)
ExecEndHolds (end.BadGrowth node f) b boxes = EndsBadly b boxes node f
ExecEndHolds end.Memory b boxes = ⊤

-- All boxes are lawful, and none keeps, as it is given back, a fault or a growth that has a flaw
-- over the graph before it.
pub record RunsWell (b : Begun) (after : List BoxPicture) : Type 0 where
  pub lawful : (n : ℕ) → n < length b.boxes → IsTrue (box_at b.boxes n).lawful
  pub faultless : (n : ℕ) → n < length b.boxes → (box_at after n).notes.fault ≡ None
  pub unflawed : (n : ℕ) (f : GrowthFlaw) → EndsBadly b after n f → ⊥

-- the run is done, or there was no memory
abbrev pub IsDoneOrMemory : ExecEnd → Type 0
IsDoneOrMemory e = (e ≡ end.Done) ⊎ (e ≡ end.Memory)

-- a fault but want of memory ends the run
abbrev pub IsFaultEnd : ExecEnd → ℕ → WorkFault → Type 0
IsFaultEnd end.Memory node f = ⊤
IsFaultEnd (end.Fault n g) node f = (n ≡ node) × (g ≡ f) × (f ≢ fault.Memory)
IsFaultEnd end.Done node f = ⊥
IsFaultEnd (end.Stuck report n) node f = ⊥
IsFaultEnd (end.BadGrowth n g) node f = ⊥
