-- The cells of all new nodes of a growth, as a worker has them in hand.
use Rattle.std.specs.Prelude.{List, map, slice_index_or, true, ℕ, ◌+◌, ◌≡◌}
use Rattle.exec_laws.specs.Prelude.{BoxPicture}
use Rattle.growth_notes.specs.declared.notes.GrowthNote.{GrowthNote}
use Rattle.node_cells.specs.Turns.{IsDue}
use Rattle.node_cells.specs.declared.cell.NodeCell.{NodeCell}
use Rattle.node_births.specs.declared.noted_growth.NotedGrowth.{NotedGrowth}
use Rattle.node_workers.specs.Growths.{CellKnows, HasOwnOutputs, own_wires_in, step_after}
use Rattle.node_workers.specs.Named.{CellFits}
use Rattle.node_workers.specs.Names.{Names}
use Rattle.node_workers.specs.NewNodes.{AwaitsGrowth, HasNewOutputs, HasWires, IsLost, NotedStep}
use Rattle.node_workers.specs.declared.growth.FlawlessGrowth.{FlawlessGrowth}
use Rattle.node_workers.specs.declared.named_cell.CellNote.{CellNote}
use Rattle.node_workers.specs.declared.named_cell.NamedCell.{NamedCell}
use Rattle.port_word.specs.declared.flags.Wire.{Wire}
use Rattle.proc_api.specs.declared.growth.GrowNode.{GrowNode}
use Rattle.task_queue.specs.Numbers.{times}
use Rattle.task_queue.specs.Shelves.{IsSameSeat, held}
use Rattle.task_queue.specs.Values.{AllFit}
use Rattle.task_queue.specs.declared.seat.ShelfSeat.{ShelfSeat}

abbrev pub place_at : List ℕ → ℕ → ℕ
place_at places k = slice_index_or places k 0

-- growth g has these wires and places, and ends the note
pub record IsGrowthOf (x : Names) (g : NotedStep) (wires : List Wire) (first : ℕ)
    (places : List ℕ) : Type 0 where
  pub wired : HasWires x g wires first
  pub places_are : places ≡ g.noted.places.items

module _ {P J : Type 0} where
  abbrev pub number_of : NamedCell P J → ℕ
  number_of d = d.cell.seat.node

  -- besides what it held, the seat holds the places of these cells
  abbrev pub HoldsMore : List (NamedCell P J) → (old new : ShelfSeat (NamedCell P J)) → Type 0
  HoldsMore cells old new =
      (q : ℕ) → times q (held new) ≡ times q (held old) + times q (map number_of cells)

  -- the seat holds the places that it held
  pub record KeepsPlaces (old new : ShelfSeat (NamedCell P J)) : Type 0 where
    pub same : IsSameSeat old new
    pub kept : (q : ℕ) → times q (held new) ≡ times q (held old)

  module _ (x : Names) (seen : P → BoxPicture) where
    -- the cell fits the place of its number
    abbrev pub FitsOwnPlace : NamedCell P J → Type 0
    FitsOwnPlace d = CellFits x seen (number_of d) d.cell d.stopped d.note

    -- so it does once it is noted that memory was wanting for it
    abbrev pub IsLostThere : NamedCell P J → Type 0
    IsLostThere d = IsLost x seen (number_of d) d

    -- the cells of the nodes at these places wait for the growth
    abbrev pub AwaitGrowth : (places : List ℕ) → List (NamedCell P J) → Type 0
    AwaitGrowth places cells = AllFit (λ d k. AwaitsGrowth x seen (place_at places k) d) cells

    -- all have their outputs of it
    abbrev pub HaveNewOutputs : NotedStep → (places : List ℕ) → List (NamedCell P J) → Type 0
    HaveNewOutputs g places cells =
        AllFit (λ d k. HasNewOutputs x seen g (place_at places k) d) cells

    -- memory was wanting for one of them
    abbrev pub AreLost : (places : List ℕ) → List (NamedCell P J) → Type 0
    AreLost places cells = AllFit (λ d k. IsLost x seen (place_at places k) d) cells

    -- so they may be born, of these nodes of a growth
    pub record MayBearAll (wires : List Wire) (first : ℕ) (nodes : List GrowNode)
        (places : List ℕ) (cells : List (NamedCell P J)) : Type 0 where
      pub step : NotedStep
      pub growth_of : IsGrowthOf x step wires first places
      pub nodes_are : nodes ≡ step.noted.growth.nodes
      pub outputs : HaveNewOutputs step places cells

    -- all nodes of the growth have their outputs, that which grows, n, and the new ones
    pub record MayEndBirths (n : ℕ) (r : FlawlessGrowth) (first : ℕ) (c : NodeCell P)
        (y : GrowthNote NotedGrowth) (cells : List (NamedCell P J)) : Type 0 where
      pub before : GrowthNote NotedGrowth
      pub outputs : HasOwnOutputs x seen n before r (own_wires_in r) first c y
      pub new_outputs : HaveNewOutputs (step_after before r.noted) r.noted.places.items cells

-- the node n, whose box acted, has grown, knows of the growth, and is due again
pub record HasGrown {P : Type 0} (x : Names) (seen : P → BoxPicture) (n : ℕ) (c : NodeCell P)
    (own : CellNote) : Type 0 where
  pub knows : CellKnows x seen n c own
  pub due : IsDue seen x.identity c
  pub acted : (seen c.processor).notes.acted ≡ true
