-- What a worker's visit leaves of a cell.
use Rattle.node_workers.proofs.Imports.{BoxPicture, CellFits, CellKnows, CellNote, Err, Identity, IfOk, IsBoxLeft, IsSeatOf, LeavesCell, LiesAs, Memory, Names, NodeCell, NodeStatus, None, Ok, Option, Rests, Result, RunEnd, StandsAmong, Stays, StopCause, TaskQueue, Visits, VisitsCell, WorkerTasks, ap, births_in, cell_ports, first_edge_in, left-both, lies-seat, none-some, refl, reserve_form, result_err, result_unwrap_or, run_end_of, stands-still, subst, sym, visit_end, ℕ, ◌∙◌, ◌≡◌}

module _ {P : Type 0} (seen : P → BoxPicture) (x : Names) where
  pub fits-knows : (n : ℕ) (c : NodeCell P) (own : CellNote) → CellFits x seen n c None own
      → CellKnows x seen n c own
  fits-knows n c own h = record {
    seat = h.seat;
    number = h.number;
    note = h.note;
    stands = h.stands (none-some Memory);
    box = h.box;
  }

  -- turns leave what a cell tells, whose box was born
  module _ (n : ℕ) (a b : NodeCell P) (o : Option StopCause) (own : CellNote)
      (h : CellKnows x seen n a own) (s : Stays seen o a b)
      (blank : (seen a.processor).spec ≡ None → seen b.processor ≡ seen a.processor) where
    still-box : IsBoxLeft o (births_in x.identity.sizes.reserves own) n (x.node n).box
        (seen b.processor)
    still-box = left-both o _ n (x.node n).box (seen a.processor) (seen b.processor) s.box
        s.growth blank h.box

    still-stands : StandsAmong x.identity.sizes.wires (first_edge_in x.identity.sizes.reserves own)
        (births_in x.identity.sizes.reserves own) n (x.node n).reserve (cell_ports b)
        (reserve_form b.reserve) (seen b.processor)
    still-stands = stands-still x.identity.sizes.wires _ _ n (x.node n).reserve _ _ _ _ _ _
        s.ports (ap reserve_form s.reserve) (λ born. rw s.box.same.spec at born) h.stands

    still-number : (seat : IsSeatOf x.identity b.seat) → b.seat.node ≡ n
    still-number seat = seat.number ∙ (s.ports.number ∙ (sym h.seat.number ∙ h.number))

    -- it fits its place as it lies then
    pub turns-fit : LiesAs seen x.identity o b → CellFits x seen n b o own
    turns-fit lies = let seat = lies-seat seen x.identity o b lies in record {
      seat = seat;
      number = still-number seat;
      note = h.note;
      stands = λ _. still-stands;
      box = still-box;
      lies = lies;
    }

  -- turns that don't stop the run leave what it tells
  pub turns-know : (n : ℕ) (a b : NodeCell P) (own : CellNote) → CellKnows x seen n a own
      → Stays seen None a b
      → ((seen a.processor).spec ≡ None → seen b.processor ≡ seen a.processor)
      → IsSeatOf x.identity b.seat → CellKnows x seen n b own
  turns-know n a b own h s blank seat = record {
    seat = seat;
    number = still-number n a b None own h s blank seat;
    note = h.note;
    stands = still-stands n a b None own h s blank;
    box = still-box n a b None own h s blank;
  }

  visit-fits : (n : ℕ) (a b : NodeCell P) (o : Option StopCause) (own : CellNote)
      → CellFits x seen n a None own → LeavesCell seen x.identity o a b → CellFits x seen n b o own
  visit-fits n a b o own h left = turns-fit n a b o own (fits-knows n a own h) left.stays
      (λ none. ap (λ c. seen c.processor) (left.blank none)) left.lies

  -- a cell that was visited fits where it fitted
  pub visited-fits : (u : Identity) (n : ℕ) (a b : NodeCell P) (was is o : Option StopCause)
      (own : CellNote) → u ≡ x.identity → was ≡ None → is ≡ o → CellFits x seen n a was own
      → LeavesCell seen u o a b → CellFits x seen n b is own
  visited-fits u n a b was is o own same none now h left = rw now (visit-fits n a b o own (subst (λ
      s. CellFits x seen n a s own) none h) (subst (λ z. LeavesCell seen z o a b) same left))

module _ {P : Type 0} (seen : P → BoxPicture) (t : Identity) (q : TaskQueue) (a b : NodeCell P)
    (before after : WorkerTasks) where
  -- a cell at which nobody had stopped the run was visited
  pub visits-cell : (was is o : Option StopCause) → was ≡ None → is ≡ o
      → Visits seen t q o a b before after
      → VisitsCell seen t q was is a b before after
  visits-cell was is o none now h = rw none (subst (λ x. Visits seen t q x a b before after) (sym
      now) h)

pub ends-visit : (r : Result RunEnd StopCause) (s : NodeStatus) → IfOk r (λ e. e ≡ run_end_of s)
    → result_unwrap_or r Rests ≡ visit_end (result_err r) s
ends-visit (Ok e) s h = h
ends-visit (Err c) s h = refl
