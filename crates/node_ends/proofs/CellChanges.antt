-- One cell is visited, and all cells after it.
use Rattle.node_ends.proofs.Imports.{AreCells, BoxPicture, BoxesStay, CellGraph, Identity, IsCellOf, IsUnborn, List, NodeCell, None, Option, ap, at_index, at_set, box_at, boxes_in, get_elem?, get_or, get_or-set_same, length, length-map, length-set, map, map-set, refl, set, some, subst, sym, ℕ, ⊎_elim, ◌<◌, ◌∙◌, ◌≡◌, ◌≢◌}
use Rattle.std.proofs.Common.{Err, IfErr, Ok, OnOk, Result, Some}
use Rattle.std.specs.Result.{result_err}
use Rattle.node_cells.proofs.StayLaws.{same-places}
use Rattle.node_cells.specs.Stops.{GrowthStays}
use Rattle.node_cells.specs.Stored.{IsStored}
use Rattle.node_cells.specs.Visits.{LeavesCell}
use Rattle.node_cells.specs.declared.stop_cause.StopCause.{StopCause}
use Rattle.node_ends.proofs.Boxes.{at-changed, growths-both, stayed-both, stayed-changed, stops-both}
use Rattle.node_ends.proofs.Visits.{blank-unborn, unborn-blank}
use Rattle.node_ends.specs.RunEnds.{AreStoppedAt, AreVisited, GrowthsStay, KeepsCause, stop_cause_of}
use Rattle.node_ends.specs.declared.node_ends.EndCause.{EndCause}
use Rattle.node_ends.specs.declared.node_ends.EndCause.TheVariants as cause
use Rattle.proc_api.specs.Names.{no_box}

module _ {P : Type 0} (seen : P → BoxPicture) (t : Identity) (cells : List (NodeCell P)) (n : ℕ)
    (x : NodeCell P) (lt : n < length cells) (read : x ≡ get_or cells n x) where
  -- it is the cell of its node
  pub own-cell : (g : CellGraph) → AreCells seen t g cells → IsCellOf seen t g n x
  own-cell g all = all.each n x (at_index cells n x lt read)

  module _ (o : Option StopCause) (y : NodeCell P) (leaves : LeavesCell seen t o x y) where
    -- the boxes stay
    boxes-back : BoxesStay (boxes_in seen cells) (boxes_in seen (set cells n y))
    boxes-back = stayed-changed seen cells n x y lt read record {
      born = λ _. leaves.stays.box;
      blank = λ none. ap (λ (c : NodeCell P). seen c.processor) (leaves.blank none);
    }

    module _ (g : CellGraph) (all : AreCells seen t g cells) (stored : IsStored seen t y) where
      own : IsCellOf seen t g n x
      own = own-cell g all

      unborn-before : IsUnborn y → IsUnborn x
      unborn-before u = blank-unborn seen t x own.stored
          (sym leaves.stays.box.same.spec ∙ unborn-blank seen t y stored u)

      changed : IsCellOf seen t g n y
      changed = record {
        stored = stored;
        number = leaves.stays.ports.number ∙ own.number;
        places = λ born. same-places g.wires g.table_edge n (g.inputs n)
            (g.outputs n) _ _ leaves.stays.ports
            (own.places (λ u. born (rw (leaves.blank (unborn-blank seen t x own.stored u)) u)));
      }

      -- the cells are still those of all nodes
      cells-changed : AreCells seen t g (set cells n y)
      cells-changed = record {
        count = length-set cells n y ∙ all.count;
        graph = rw length-set all.graph;
        each = λ k c e. ⊎_elim
            (λ (z : (k ≡ n) × (y ≡ c)). subst (λ (p : ℕ × NodeCell P). IsCellOf seen t g p.0 p.1)
            (λ j. (sym z.0 j, z.1 j)) changed)
            (λ (z : (k ≢ n) × (get_elem? cells k ≡ some c)). all.each k c z.1)
            (at_set cells n k y c e);
        joined = λ e k p c h at unborn. ⊎_elim
            (λ (z : (k ≡ n) × (y ≡ c)). all.joined e k p x h
            (rw z.0 (at_index cells n x lt read)) (unborn-before (rw z.1 unborn)))
            (λ (z : (k ≢ n) × (get_elem? cells k ≡ some c)). all.joined e k p c h z.1 unborn)
            (at_set cells n k y c at);
      }

  abbrev f : NodeCell P → BoxPicture
  f c = seen c.processor

  here : (y : NodeCell P) → box_at (boxes_in seen (set cells n y)) n ≡ seen y.processor
  unfolding box_at
  here y = rw map-set (get_or-set_same (map f cells) n (f y) no_box (rw length-map lt))

  -- the growths that all boxes keep stay
  growths-stay : (y : NodeCell P) → GrowthStays None (seen x.processor) (seen y.processor)
      → GrowthsStay (boxes_in seen cells) (boxes_in seen (set cells n y))
  growths-stay y growth k less =
      at-changed seen cells n x y lt read (GrowthStays None) (λ p lawful. refl) growth k

  -- where it ended nothing these are the cells of all nodes after it
  pub visited-at : {A : Type 0} (r : Result A EndCause) (y : NodeCell P)
      → LeavesCell seen t (stop_cause_of (result_err r)) x y
      → OnOk r (AreVisited seen t cells (set cells n y))
  visited-at (Ok v) y leaves = record {
    cells = λ g all. cells-changed _ y leaves g all leaves.lies;
    count = length-set cells n y;
    back = boxes-back _ y leaves;
    growth = growths-stay y leaves.stays.growth;
  }
  visited-at (Err s) y leaves = tt

  growth-stays : (s : EndCause) (p q : BoxPicture) → GrowthStays (stop_cause_of (Some s)) p q
      → GrowthStays None p q
  growth-stays (cause.Fault f) p q h = h
  growth-stays cause.Growth p q h = h

  -- what ends the run at its box ends it at its node
  pub stops-at : {A : Type 0} (r : Result A EndCause) (y : NodeCell P)
      → LeavesCell seen t (stop_cause_of (result_err r)) x y
      → IfErr r (λ s. KeepsCause s (seen y.processor))
      → IfErr r (λ s. AreStoppedAt seen n s cells (set cells n y))
  stops-at (Ok v) y leaves h = tt
  stops-at (Err s) y leaves h = record {
    count = length-set cells n y;
    back = boxes-back _ y leaves;
    stop = record {
      in_range = rw (length-map, length-set) lt;
      stop = rw (here y) h;
      growth = growths-stay y (growth-stays s _ _ leaves.stays.growth);
    };
  }

-- ---- visits after others

module _ {P : Type 0} (seen : P → BoxPicture) (t : Identity) (a b c : List (NodeCell P))
    (h : AreVisited seen t a b) where
  pub visited-both : AreVisited seen t b c → AreVisited seen t a c
  visited-both k = record {
    cells = λ g all. k.cells g (h.cells g all);
    count = k.count ∙ h.count;
    back = stayed-both _ _ _ h.back k.back;
    growth = growths-both _ _ _ h.back k.back h.growth k.growth;
  }

  pub stopped-both : (n : ℕ) (s : EndCause) → AreStoppedAt seen n s b c → AreStoppedAt seen n s a c
  stopped-both n s k = record {
    count = k.count ∙ h.count;
    back = stayed-both _ _ _ h.back k.back;
    stop = stops-both _ _ _ h.back k.back h.growth n s k.stop;
  }
