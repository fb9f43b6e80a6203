-- What a run of a plan tells: how it ended, of which boxes, and what the rack has afterwards.
use Rattle.std.specs.Prelude.{All, IfErr, IfOk, Result, Vec, ◌≡◌, ◌⊎◌, ℕ, ◌+◌, ◌-◌, ◌<◌, ◌≤◌, ◌++◌, List, length, map, nat_le, ⊤}
use Rattle.std.specs.declared.alloc.Global.{Global}
use Rattle.proc_api.specs.Prelude.{Kind, Spec, Table, kind_of}
use Rattle.proc_api.specs.Reserves.{AreReserves, AreStarting, is_reserved}
use Rattle.exec_laws.specs.declared.growth.GrowthFlaw.{GrowthFlaw}
use Rattle.pipeline_exec.specs.Ends.{Begun, EndsBadly, HasGrown, HasGrownByAll}
use Rattle.proc_api.specs.Names.{BoxPicture, IsBlank, IsGraph, IsSourceKind, HasNoReader, Unloads, handed_out_by}
use Rattle.proc_api.specs.declared.status.WorkFault.{WorkFault}
use Rattle.exec_laws.specs.Names.{box_at, IsDone, IsFault, IsStuck}
use Rattle.exec_laws.specs.declared.edges.StuckNode.{StuckNode}
use Rattle.plan_run.specs.Boxes.{AreRun, IsBlankAgain, PutsBehind}
use Rattle.plan_run.specs.Stock.{HasStock, taken_for, left_after}
use Rattle.plan_run.specs.declared.run.GraphForm.{GraphForm}
use Rattle.plan_run.specs.declared.run.PlanGraph.{PlanGraph}
use Rattle.plan_run.specs.declared.run.PlanFault.{PlanFault}
use Rattle.plan_run.specs.declared.run.PlanFault.TheVariants as end

abbrev pub kinds_of : List Spec → List Kind
kinds_of specs = map kind_of specs

-- the kinds of boxes, and their specs
abbrev pub kinds_in : List BoxPicture → List Kind
kinds_in boxes = map (λ (p : BoxPicture). p.kind) boxes

-- the kinds of the boxes that a plan takes: those of its nodes, and then those that are kept
abbrev pub kinds_taken : List Spec → (kept : List Kind) → List Kind
kinds_taken specs kept = kinds_of specs ++ kept

-- exactly the nodes behind the first are kept for nodes that grow
pub record KeepsBehind (nodes : ℕ) (g : GraphForm) : Type 0 where
  pub graph : IsGraph g.ranks g.wires g.reserves
  pub reserves_fit : AreReserves (length g.ranks) (length g.wires) g.wires g.reserves
  pub kept : (n : ℕ) → n < length g.ranks → is_reserved g.reserves n ≡ nat_le nodes n

-- so many workers may run a graph of this form over so many boxes, of which the first are loaded
pub record MayRun (nodes boxes : ℕ) (g : GraphForm) (workers : ℕ) : Type 0 where
  pub some_nodes : 1 ≤ nodes
  pub one_each : length g.ranks ≡ boxes
  pub graph : KeepsBehind nodes g
  pub some_workers : 1 ≤ workers
  pub few_workers : workers ≤ 16

-- so many workers may run the plan by boxes of a rack, which are blank
pub record MayRunPlan (p : PlanGraph) (workers : ℕ) (rack : List BoxPicture) : Type 0 where
  pub blank : All IsBlank rack
  pub stock : HasStock (kinds_taken p.specs.items p.kept) rack
  pub graph : MayRun (length p.specs.items) (length p.specs.items + length p.kept) p.form workers

-- ---- the rack

-- the nth box that is taken
abbrev pub taken_at : List Kind → List BoxPicture → ℕ → BoxPicture
taken_at kinds before n = box_at (taken_for kinds before) n

-- The first box of each kind in turn, which was there, was taken from the rack. It has the boxes
-- that weren't taken, in their order, and then the taken ones in the order in which they were
-- taken: the same ones, blank again, none of whose counts has fallen.
pub record GivesBack (kinds : List Kind) (before after : List BoxPicture) : Type 0 where
  pub stock : HasStock kinds before
  pub back : PutsBehind IsBlankAgain (taken_for kinds before) (left_after kinds before) after

-- all boxes were taken and given back, or none was touched
abbrev pub LeavesRack : List Kind → List BoxPicture → List BoxPicture → Type 0
LeavesRack kinds before after = GivesBack kinds before after ⊎ (after ≡ before)

-- The boxes that were taken for the specs and for what is kept, as the run left them, and as they
-- were given back.
pub record RunsPlan (specs : List Spec) (kept : List Kind) (before after ended : List BoxPicture)
    : Type 0 where
  pub boxes : AreRun specs (taken_for (kinds_taken specs kept) before) ended
  pub back : PutsBehind Unloads ended (left_after (kinds_taken specs kept) before) after

-- ---- the ends, where R says which lists of boxes a run may have left

-- A graph of this form began with boxes of these kinds, of which the first were loaded, and this is
-- true of it.
pub record GraphBegins (g : GraphForm) (kinds : List Kind) (P : Begun → Type 0) : Type 0 where
  pub boxes : List BoxPicture
  pub kinds_are : kinds_in boxes ≡ kinds
  pub starting : AreStarting g.reserves boxes
  pub holds : P (record { ranks = g.ranks; wires = g.wires; reserves = g.reserves; boxes = boxes })

-- Each node of the graph as it has grown is over, and the last of the first nodes handed out these
-- chunks.
pub record GivesRows (R : List BoxPicture → Type 0) (nodes : ℕ) (chunks : List Table) (b : Begun)
    : Type 0 where
  pub ended : List BoxPicture
  pub runs : R ended
  pub done : HasGrownByAll b ended (λ wires. IsDone wires ended)
  pub rows : chunks ≡ handed_out_by (box_at ended (nodes - 1)).kind (box_at ended (nodes - 1)).work

-- a box of a kind that reads no file has no reader
abbrev pub ReadsByKind : BoxPicture → Type 0
ReadsByKind p = IsSourceKind p.kind ⊎ HasNoReader p

-- the box of the node keeps this fault
pub record FailsWith (R : List BoxPicture → Type 0) (node : ℕ) (f : WorkFault) (b : Begun) : Type 0
  where
    pub ended : List BoxPicture
    pub runs : R ended
    pub grown : HasGrown b ended (λ wires. IsFault ended node f)
    pub reader : ReadsByKind (box_at ended node)

-- the run ended stuck, at a node whose box is of the kind and isn't lawful
pub record StuckWith (R : List BoxPicture → Type 0) (k : Kind) (b : Begun) : Type 0 where
  pub ended : List BoxPicture
  pub runs : R ended
  pub report : List StuckNode
  pub node : ℕ
  pub stuck : HasGrownByAll b ended (λ wires. IsStuck wires ended report node)
  pub of_kind : (box_at ended node).kind ≡ k

-- the run ended by a growth with a flaw, of a node whose box is of the kind
pub record FlawedWith (R : List BoxPicture → Type 0) (k : Kind) (b : Begun) : Type 0 where
  pub ended : List BoxPicture
  pub runs : R ended
  pub node : ℕ
  pub flaw : GrowthFlaw
  pub bad : EndsBadly b ended node flaw
  pub of_kind : (box_at ended node).kind ≡ k

-- why a plan gave no rows, where B says what is true of the graph as it began
abbrev pub PlanFaultHolds : PlanFault → ((Begun → Type 0) → Type 0) → (List BoxPicture → Type 0)
    → Type 0
PlanFaultHolds (end.Fault node f) B R = B (FailsWith R node f)
PlanFaultHolds (end.Stuck k) B R = B (StuckWith R k)
PlanFaultHolds (end.BadGrowth k) B R = B (FlawedWith R k)
PlanFaultHolds end.Memory B R = ⊤

-- what a run gave that came to the chunks of the last of the first nodes, or to a fault
pub record GivesPlan (B : (Begun → Type 0) → Type 0) (R : List BoxPicture → Type 0) (nodes : ℕ)
    (r : Result (Vec Table Global) PlanFault) : Type 0 where
  pub rows : IfOk r (λ chunks. B (GivesRows R nodes chunks.items))
  pub fault : IfErr r (λ f. PlanFaultHolds f B R)

-- ---- what a run of a plan gives, by the boxes of a rack before and after it

-- A plan was run, and gave rows, or a fault. Its boxes were given back, or none was touched.
pub record PlanEnds (p : PlanGraph) (r : Result (Vec Table Global) PlanFault)
    (before after : List BoxPicture) : Type 0 where
  pub rack : LeavesRack (kinds_taken p.specs.items p.kept) before after
  pub blank : All IsBlank after
  pub gives : GivesPlan (GraphBegins p.form (kinds_taken p.specs.items p.kept))
      (RunsPlan p.specs.items p.kept before after) (length p.specs.items) r
