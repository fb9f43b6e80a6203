-- The new nodes of a growth, from the time when a worker has their cells until they are born.
use Rattle.std.specs.Prelude.{List, None, Some, [], false, length, slice_index_or, ℕ, ◌++◌, ◌<◌, ◌∷◌, ◌≡◌}
use Rattle.core_laws.specs.declared.types.Sizes.{Sizes}
use Rattle.exec_laws.specs.Births.{Birth, HasForm, born_wires, form_at}
use Rattle.exec_laws.specs.Prelude.{BoxPicture, Reserve, Wire}
use Rattle.exec_laws.specs.declared.edges.NodeStatus.TheVariants as node
use Rattle.growth_notes.specs.Notes.{noted}
use Rattle.growth_notes.specs.declared.notes.GrowthNote.{GrowthNote}
use Rattle.node_births.specs.NotedBirths.{birth_of, births_by}
use Rattle.node_births.specs.NextBirths.{IsNextBirth}
use Rattle.node_births.specs.OwnBirths.{reserve_after}
use Rattle.node_births.specs.Widened.{GetsPorts}
use Rattle.node_births.specs.declared.noted_growth.NotedGrowth.{NotedGrowth}
use Rattle.node_cells.specs.declared.cell.NodeCell.{NodeCell}
use Rattle.node_cells.specs.declared.stop_cause.StopCause.TheVariants as cause
use Rattle.node_workers.specs.Named.{CellFits, IsNoteFor, births_in, first_edge_in}
use Rattle.node_workers.specs.Names.{Names}
use Rattle.node_workers.specs.declared.named_cell.CellNote.{CellNote}
use Rattle.node_workers.specs.declared.named_cell.CellNote.TheVariants as note
use Rattle.node_workers.specs.declared.named_cell.NamedCell.{NamedCell}
use Rattle.proc_api.specs.Reserves.{reserve_at}
use Rattle.query_model.specs.declared.processor_spec.Spec.{Spec}

-- ---- the growth

-- a growth by the reserve with this number, after earlier ones, as they were noted
pub record NotedStep : Type 0 where
  pub reserve : ℕ
  pub earlier : List NotedGrowth
  pub noted : NotedGrowth

module _ (z : Sizes) (g : NotedStep) where
  abbrev pub reserve_in : Reserve
  reserve_in = reserve_at z.reserves g.reserve

  abbrev pub births_before : List Birth
  births_before = births_by reserve_in.node g.earlier

  abbrev pub birth_in : Birth
  birth_in = birth_of reserve_in.node g.noted

  abbrev pub births_now : List Birth
  births_now = births_before ++ birth_in ∷ []

-- by what is named of the reserve, it had no flaw, nor had those before it
abbrev pub IsNextStep : Names → NotedStep → Type 0
IsNextStep x g = let z = x.identity.sizes in let n = (reserve_in z g).node in
    IsNextBirth z g.reserve n (x.node n).reserve (births_before z g) (birth_in z g)

-- its wires have the edges of the table from this one on
abbrev pub new_edge : Names → NotedStep → ℕ
new_edge x g = let z = x.identity.sizes in
    (reserve_after (x.node (reserve_in z g).node).reserve (births_before z g)).next_edge

-- node m is its new node with this number
pub record IsNewNode (g : NotedStep) (number m : ℕ) : Type 0 where
  pub within : number < length g.noted.places.items
  pub is : slice_index_or g.noted.places.items number 0 ≡ m

-- its wires, and the first of their edges
pub record HasWires (x : Names) (g : NotedStep) (wires : List Wire) (first : ℕ) : Type 0 where
  pub next : IsNextStep x g
  pub wires_are : wires ≡ born_wires (birth_in x.identity.sizes g)
  pub first_is : first ≡ new_edge x g

-- the note ends with it
pub record EndsNote (g : NotedStep) (note : GrowthNote NotedGrowth) : Type 0 where
  pub reserve_is : note.reserve ≡ g.reserve
  pub noted_is : noted note ≡ g.earlier ++ g.noted ∷ []

-- node m knows of it, and of those before, by its note
pub record KnowsGrowth (x : Names) (g : NotedStep) (m : ℕ) (own : CellNote) : Type 0 where
  pub note_is : IsNoteFor x.notes x.identity.sizes.reserves m own
  pub births : births_in x.identity.sizes.reserves own ≡ births_now x.identity.sizes g
  pub first : first_edge_in x.identity.sizes.reserves own
      ≡ (reserve_in x.identity.sizes g).first_edge

-- ---- cells

module _ {P J : Type 0} (x : Names) (seen : P → BoxPicture) where
  -- the cell of a node that waits to be born, which knows of no growth
  pub record AwaitsGrowth (m : ℕ) (d : NamedCell P J) : Type 0 where
    pub fits : CellFits x seen m d.cell None note.Bare
    pub bare : d.note ≡ note.Bare
    pub going : d.stopped ≡ None
    pub unborn : d.cell.mark.state ≡ node.Unborn

  -- it knows of the growth and has its outputs
  pub record HasNewOutputs (g : NotedStep) (m : ℕ) (d : NamedCell P J) : Type 0 where
    pub taken : NodeCell P
    pub fits : CellFits x seen m taken None note.Bare
    pub unborn : taken.mark.state ≡ node.Unborn
    pub knows : KnowsGrowth x g m d.note
    pub got : GetsPorts seen x.identity false (new_edge x g)
        (born_wires (birth_in x.identity.sizes g)) taken d.cell
    pub processor : d.cell.processor ≡ taken.processor
    pub reserve : d.cell.reserve ≡ taken.reserve
    pub going : d.stopped ≡ None

  -- one for which memory was wanting
  abbrev pub IsLost : ℕ → NamedCell P J → Type 0
  IsLost m d = CellFits x seen m d.cell (Some cause.Memory) d.note

  -- the node may be born with this spec, once it has its inputs among these wires
  pub record MayBear (wires : List Wire) (first : ℕ) (s : Spec) (m : ℕ) (d : NamedCell P J)
      : Type 0 where
    pub step : NotedStep
    pub number : ℕ
    pub wired : HasWires x step wires first
    pub new : IsNewNode step number m
    pub outputs : HasNewOutputs step m d
    pub form : HasForm (Some s)
        (form_at (birth_in x.identity.sizes step).growth.specs number)
