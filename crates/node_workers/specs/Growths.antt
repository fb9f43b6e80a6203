-- The cell of a node that grows, from the time when its processor is asked until it is due again.
use Rattle.std.specs.Prelude.{List, None, Some, drop, false, length, true, ℕ, ◌++◌, ◌-◌, ◌≡◌}
use Rattle.exec_laws.specs.Growths.{new_wires, places_for}
use Rattle.exec_laws.specs.Names.{StaysBox}
use Rattle.exec_laws.specs.Prelude.{BoxPicture, Wire}
use Rattle.exec_laws.specs.declared.edges.DueCall.TheVariants as call
use Rattle.exec_table.specs.Seats.{Identity, IsSeatOf}
use Rattle.graph_checks.specs.Flaws.{grown_kinds}
use Rattle.growth_notes.specs.Notes.{noted}
use Rattle.growth_notes.specs.declared.notes.GrowthNote.{GrowthNote}
use Rattle.node_births.specs.Left.{reserve_form}
use Rattle.node_births.specs.OwnBirths.{IsBoxLeft, StandsAmong}
use Rattle.node_births.specs.Widened.{GetsPorts, IsGrowing}
use Rattle.node_births.specs.declared.noted_growth.NotedGrowth.{NotedGrowth}
use Rattle.node_cells.specs.Cells.{cell_ports}
use Rattle.node_cells.specs.Stops.{own_flaw, wires_known}
use Rattle.node_cells.specs.Turns.{IsAtWork}
use Rattle.node_cells.specs.declared.cell.NodeCell.{NodeCell}
use Rattle.node_cells.specs.declared.stop_cause.StopCause.TheVariants as cause
use Rattle.node_workers.specs.Named.{CellFits, IsNoteFor, births_in, first_edge_in}
use Rattle.node_workers.specs.Names.{Names}
use Rattle.node_workers.specs.NewNodes.{EndsNote, HasWires, NotedStep}
use Rattle.node_workers.specs.declared.growth.FlawlessGrowth.{FlawlessGrowth}
use Rattle.node_workers.specs.declared.named_cell.CellNote.{CellNote}
use Rattle.node_workers.specs.declared.named_cell.CellNote.TheVariants as note
use Rattle.proc_api.specs.Forms.{growth_form}

-- The node's box says that the graph grows by this, which has no flaw by what the node knows. Its
-- new nodes get the first blanks that are left.
pub record IsFlawless {P : Type 0} (seen : P → BoxPicture) (t : Identity) (old new : NodeCell P)
    (r : FlawlessGrowth) : Type 0 where
  pub growing : IsGrowing seen t (growth_form r.noted.growth) old new
  pub same : new ≡ record old { processor = new.processor }
  pub stays : StaysBox (seen old.processor) (seen new.processor)
  pub acted : (seen new.processor).notes.acted ≡ true
  pub none : own_flaw new (growth_form r.noted.growth) ≡ None
  pub places : r.noted.places.items ≡ places_for (grown_kinds r.noted.growth.nodes)
      new.reserve.blanks.items new.reserve.nodes
  pub wires : r.wires ≡ wires_known new
      ++ new_wires new.seat.node r.noted.places.items r.noted.growth.edges

-- the wires of the growth
abbrev pub own_wires_in : FlawlessGrowth → List Wire
own_wires_in r = drop (length r.wires - length r.noted.growth.edges) r.wires

-- this growth after all that the note has
abbrev pub step_after : GrowthNote NotedGrowth → NotedGrowth → NotedStep
step_after y r = record { reserve = y.reserve; earlier = noted y; noted = r }

module _ {P : Type 0} (x : Names) (seen : P → BoxPicture) (n : ℕ) where
  -- what the cell of the node tells of it, whether it lies on the shelf or is in a turn
  pub record CellKnows (c : NodeCell P) (own : CellNote) : Type 0 where
    pub seat : IsSeatOf x.identity c.seat
    pub number : c.seat.node ≡ n
    pub note : IsNoteFor x.notes x.identity.sizes.reserves n own
    pub stands : StandsAmong x.identity.sizes.wires (first_edge_in x.identity.sizes.reserves own)
        (births_in x.identity.sizes.reserves own) n (x.node n).reserve (cell_ports c)
        (reserve_form c.reserve) (seen c.processor)
    pub box : IsBoxLeft None (births_in x.identity.sizes.reserves own) n (x.node n).box
        (seen c.processor)

  -- the node's cell, with its note, after its processor was asked and gave this growth
  pub record IsAsked (r : FlawlessGrowth) (c : NodeCell P) (own : CellNote) : Type 0 where
    pub stored : NodeCell P
    pub fits : CellFits x seen n stored None own
    pub at_work : IsAtWork seen x.identity call.Expand stored
    pub flawless : IsFlawless seen x.identity stored c r

  -- It had this note when it was asked, and gave this growth. That is the last one of its note now,
  -- and it has its outputs of it, which are among these wires.
  pub record HasOwnOutputs (before : GrowthNote NotedGrowth) (r : FlawlessGrowth)
      (wires : List Wire) (first : ℕ) (c : NodeCell P) (y : GrowthNote NotedGrowth) : Type 0 where
    pub asked : NodeCell P
    pub is_asked : IsAsked r asked (note.Own before)
    pub note_of : y.seat.table_id ≡ x.notes
    pub ends : EndsNote (step_after before r.noted) y
    pub wired : HasWires x (step_after before r.noted) wires first
    pub got : GetsPorts seen x.identity false first wires asked c
    pub processor : c.processor ≡ asked.processor
    pub reserve : c.reserve ≡ asked.reserve

  -- so by some growth, whose new nodes get these places
  pub record MayEndGrowth (wires : List Wire) (first : ℕ) (places : List ℕ) (c : NodeCell P)
      (y : GrowthNote NotedGrowth) : Type 0 where
    pub before : GrowthNote NotedGrowth
    pub growth : FlawlessGrowth
    pub outputs : HasOwnOutputs before growth wires first c y
    pub places_are : places ≡ growth.noted.places.items

  -- memory was wanting for the growth
  abbrev pub IsLostGrower : NodeCell P → GrowthNote NotedGrowth → Type 0
  IsLostGrower c y = CellFits x seen n c (Some cause.Memory) (note.Own y)
