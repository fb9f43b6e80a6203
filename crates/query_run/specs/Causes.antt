-- Why a run failed before its first byte was written, each cause once.
use Rattle.std.specs.Prelude.{◌≡◌, ◌⊎◌, ℕ, ◌+◌, ◌<◌, ◌≤◌, false, List, length, slice_get, take, Some, None}
use Rattle.std.specs.List.{Contains}
use Rattle.query_run.specs.Prelude.{BoxPicture, Checked, Command, CountIncreased, Declared, DraftNode, EndsBadly, Failure, FileRead, Files, GivesBack, GraphBegins, GrowthFlaw, HasGrownByAll, IsLongFile, IsStuck, Kind, ListFile, NoFile, WorkFault, PartFile, PartName, PartSpec, PartsFile, PlanFailure, Spec, StuckNode, TableDecl, UsedPart, bad_line_in, box_at, command_of, file_bytes, file_read, first_crowded, list_source, part_bad_place, raised, reserved_nodes, reserves_from, spec_at, taken_at, used_part, used_parts, used_tables}
use Rattle.proc_api.specs.declared.status.WorkFault.TheVariants as fault
use Rattle.query_run.specs.declared.ending.PlanFailure.TheVariants as plan
use Rattle.query_run.specs.declared.ending.Failure.TheVariants as failure
use Rattle.query_run.specs.Racks.{boxes_for, kinds_for, plan_kinds, specs_in, IsRunnable, IsShort, NamesFewPaths, OverFiles, RanPlan}
use Rattle.query_run.specs.Commands.{IsRefusedFor, OfCommand, OfQuery}
use Rattle.query_run.specs.Steps.{formed}

-- ---- what is left of the rack

-- the boxes of the query's plan were taken and given back
abbrev pub TakesBoxes : List (List ℕ) → (before after : List BoxPicture) → Type 0
TakesBoxes words before after = OfQuery words (λ c q. GivesBack (plan_kinds c q) before after)

-- ---- the part of a failure

-- the query uses this part over the files, and it has this name
pub record IsPartNamed (c : Command) (q : Checked) (files : Files) (name : PartName) (p : UsedPart)
    : Type 0 where
  pub used : Contains (used_parts files c.tables q) p
  pub table : TableDecl
  pub declared : slice_get c.tables p.table ≡ Some table
  pub named : name ≡ record { table = table.schema.name; part = p.part }

-- the query uses a table whose parts the list at the path names
pub record UsesList (c : Command) (q : Checked) (path : List ℕ) : Type 0 where
  pub place : ℕ
  pub used : Contains (used_tables q) (Declared place)
  pub table : TableDecl
  pub declared : slice_get c.tables place ≡ Some table
  pub names_list : table.parts ≡ ListFile path

-- so it is, and the name is that of part k of the table, where part 0 is the list
pub record IsListNamed (c : Command) (q : Checked) (name : PartName) (k : ℕ) (path : List ℕ)
    : Type 0 where
  pub list : UsesList c q path
  pub named : name ≡ record { table = list.table.schema.name; part = k }

-- the file of a part or of a list with this name
abbrev pub IsFileNamed : Command → Checked → Files → PartName → List ℕ → Type 0
IsFileNamed c q files name path = IsListNamed c q name 0 path
    ⊎ ((p : UsedPart) × IsPartNamed c q files name p × (p.path ≡ path))

abbrev pub IsReadNamed : Command → Checked → PartName → FileRead → Type 0
IsReadNamed c q name NoFile = ⊥
IsReadNamed c q name (PartFile part) =
    (files : Files) → IsPartNamed c q files name (used_part part)
IsReadNamed c q name (PartsFile list) = IsListNamed c q name 0 list.path

-- a node of this spec reads the part or the list with this name
abbrev pub ReadsNamed : Command → Checked → PartName → Spec → Type 0
ReadsNamed c q name s = IsReadNamed c q name (file_read (Some s))

-- behind so many nodes, node q is one of those that are kept for a list among these, which are
-- numbered from n on
pub record IsKeptFor (n behind : ℕ) (nodes : List DraftNode) (q : ℕ) : Type 0 where
  pub lister : ℕ
  pub in_range : lister < length nodes
  pub list : PartSpec
  pub reads : spec_at (specs_in nodes) lister ≡ list_source list
  pub place : ℕ
  pub place_in_range : place < 32
  pub is : q ≡ behind + reserved_nodes (reserves_from n (take lister nodes)) + place

-- the box of the node is one of those that are kept for a list: the Pth of them serves its part P
abbrev pub KeptNamed : Command → Checked → List DraftNode → ℕ → PartName → Type 0
KeptNamed c q nodes node name = (k : IsKeptFor 0 (length nodes) nodes node)
    × IsListNamed c q name (k.place + 1) k.list.path

-- the box of the node serves the part or the list with this name
abbrev pub ServesNamed : Command → Checked → List DraftNode → ℕ → PartName → Type 0
ServesNamed c q nodes node name =
    ReadsNamed c q name (spec_at (specs_in nodes) node) ⊎ KeptNamed c q nodes node name

-- What the part or list with this name failed by, or its device, by the one box that served it,
-- before and after. The place, the line and the length go by the files that lawful sources tell. No
-- part is named for want of memory.
abbrev pub PartFailsFor : WorkFault → Command → Checked → PartName → (before : List BoxPicture)
    → (taken given : BoxPicture) → Type 0
PartFailsFor (fault.Bad place) c q name before taken given = OverFiles before (λ files.
    (p : UsedPart) × IsPartNamed c q files name p
    × (part_bad_place c.header p.types files p.path ≡ Some place))
PartFailsFor (fault.BadList line) c q name before taken given = OverFiles before (λ files.
    (path : List ℕ) × IsListNamed c q name 0 path
    × (bad_line_in (file_bytes files path) ≡ Some line))
PartFailsFor fault.Read c q name before taken given = CountIncreased taken.faults given.faults
PartFailsFor fault.Stalled c q name before taken given =
    raised taken.pendings 1000000 ≤ given.pendings
PartFailsFor fault.TooLong c q name before taken given = OverFiles before (λ files.
    (path : List ℕ) × IsFileNamed c q files name path × IsLongFile files path)
PartFailsFor fault.Memory c q name before taken given = ⊥

-- ---- the run of a plan

-- the plan ran, and the part with this name failed, or the device that it was read from
pub record FailsAtPart (name : PartName) (f : WorkFault) (c : Command) (q : Checked)
    (before after : List BoxPicture) : Type 0 where
  pub runnable : IsRunnable c q before
  pub ran : RanPlan c q before after
  pub node : ℕ
  pub serves : ServesNamed c q ran.nodes node name
  pub fails : PartFailsFor f c q name before (taken_at (kinds_for ran.nodes) before node)
      (box_at ran.runs.back.given node)

-- the run was left stuck with this node, or ended by a growth of the node that has a flaw
abbrev pub IsStoppedBy : List DraftNode → (ended : List BoxPicture) → (node : ℕ) → Type 0
IsStoppedBy nodes ended node = GraphBegins (formed nodes) (kinds_for nodes) (λ b.
    ((report : List StuckNode) × HasGrownByAll b ended (λ wires. IsStuck wires ended report node))
    ⊎ ((f : GrowthFlaw) × EndsBadly b ended node f))

-- The plan ran, and was stopped by a node whose box is of the kind and isn't lawful.
pub record EndsUnlawful (k : Kind) (c : Command) (q : Checked) (before after : List BoxPicture)
    : Type 0
  where
    pub runnable : IsRunnable c q before
    pub ran : RanPlan c q before after
    pub node : ℕ
    pub in_range : node < length ran.ended
    pub stopped : IsStoppedBy ran.nodes ran.ended node
    pub of_kind : (box_at ran.ended node).kind ≡ k
    pub unlawful : (box_at ran.ended node).lawful ≡ false

-- the rack is as it was, or the boxes of the plan were taken and given back
abbrev pub LeavesPlan : Command → Checked → (before after : List BoxPicture) → Type 0
LeavesPlan c q before after = GivesBack (plan_kinds c q) before after ⊎ (after ≡ before)

-- Why the plan of a checked query gave no text, in the order of the checks. Want of memory is free.
abbrev pub PlanFailsFor : PlanFailure → Command → Checked → (before after : List BoxPicture)
    → Type 0
PlanFailsFor (plan.Paths name count) c q before after =
    (first_crowded c.tables (used_tables q) ≡ Some (record { name = name; count = count }))
    × (after ≡ before)
PlanFailsFor (plan.Stock s) c q before after =
    NamesFewPaths c q × IsShort (boxes_for c q) before s × (after ≡ before)
PlanFailsFor (plan.Part name f) c q before after = FailsAtPart name f c q before after
PlanFailsFor (plan.Unlawful k) c q before after = EndsUnlawful k c q before after
PlanFailsFor plan.Memory c q before after = LeavesPlan c q before after

-- ---- the run of words

-- Why a run failed, and how the rack was left.
abbrev pub FailsFor : Failure → List (List ℕ) → (before after : List BoxPicture) → Type 0
FailsFor failure.Usage words before after = (command_of words ≡ None) × (after ≡ before)
FailsFor (failure.Refused r) words before after =
    OfCommand words (IsRefusedFor r) × (after ≡ before)
FailsFor (failure.Plan f) words before after =
    OfQuery words (λ c q. PlanFailsFor f c q before after)
FailsFor failure.Memory words before after = after ≡ before
