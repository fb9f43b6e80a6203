-- What a worker has of a queue.
use Rattle.std.specs.Prelude.{◌≡◌, ◌⊎◌, ◌==◌, ◌||◌, ◌&&◌, ◌++◌, ◌∷◌, [], ℕ, Bool, List, None, Option, Some, false, true, not, slice_index_or}
use Rattle.task_queue.specs.Queues.{WasAt, capacity_of, put_by, taken_through}
use Rattle.task_queue.specs.declared.queue.TaskQueue.{TaskQueue}
use Rattle.task_queue.specs.declared.tasks.WorkerTasks.{WorkerTasks}

-- whether the number stays with the worker
abbrev pub keeps : WorkerTasks → ℕ → Bool
keeps w n = slice_index_or w.kept n false

abbrev pub KeepsNone : WorkerTasks → Type 0
KeepsNone w = (n : ℕ) → keeps w n ≡ false

-- besides what it kept, the worker keeps n
abbrev pub KeepsNumber : ℕ → WorkerTasks → WorkerTasks → Type 0
KeepsNumber n old new = (m : ℕ) → keeps new m ≡ (n == m) || keeps old m

-- of what it kept, the worker keeps n no more
pub record LetsGo (n : ℕ) (old new : WorkerTasks) : Type 0 where
  pub kept : keeps old n ≡ true
  pub left : (m : ℕ) → keeps new m ≡ not (n == m) && keeps old m

abbrev pub KeepsSameNumbers : WorkerTasks → WorkerTasks → Type 0
KeepsSameNumbers old new = (m : ℕ) → keeps new m ≡ keeps old m

-- n was put into the queue
pub record IsPut (n : ℕ) (old new : WorkerTasks) : Type 0 where
  pub put : put_by new.pass ≡ put_by old.pass ++ n ∷ []
  pub kept : KeepsSameNumbers old new

-- the queue was full at a moment, and n stays with the worker
pub record IsGivenBack (q : TaskQueue) (n : ℕ) (old new : WorkerTasks) : Type 0 where
  pub put : put_by new.pass ≡ put_by old.pass
  pub kept : KeepsNumber n old new
  pub full : WasAt (capacity_of q) old.pass

-- n was put into the queue, or came back from a full one, and nothing that was kept is lost
pub record IsOffered (q : TaskQueue) (n : ℕ) (old new : WorkerTasks) : Type 0 where
  pub taken : taken_through new.pass ≡ taken_through old.pass
  pub went : IsPut n old new ⊎ IsGivenBack q n old new

-- nothing was kept, and n stays with the worker, which goes on with it
pub record IsGoingOn (n : ℕ) (old new : WorkerTasks) : Type 0 where
  pub bare : KeepsNone old
  pub taken : taken_through new.pass ≡ taken_through old.pass
  pub put : put_by new.pass ≡ put_by old.pass
  pub kept : KeepsNumber n old new

-- n was offered, or stays with a worker that kept none
abbrev pub IsOfferedNext : TaskQueue → ℕ → WorkerTasks → WorkerTasks → Type 0
IsOfferedNext q n old new = IsOffered q n old new ⊎ IsGoingOn n old new

-- n was kept, and is in the queue now
pub record IsShared (n : ℕ) (old new : WorkerTasks) : Type 0 where
  pub put : put_by new.pass ≡ put_by old.pass ++ n ∷ []
  pub kept : LetsGo n old new

-- nothing was put, and what is kept is the same
pub record StaysKept (old new : WorkerTasks) : Type 0 where
  pub put : put_by new.pass ≡ put_by old.pass
  pub kept : KeepsSameNumbers old new

-- a number that was kept was put into the queue, or none was
pub record SharesNumber (old new : WorkerTasks) : Type 0 where
  pub taken : taken_through new.pass ≡ taken_through old.pass
  pub went : StaysKept old new ⊎ ((n : ℕ) × IsShared n old new)

-- each of the numbers was put or is kept, in their order; of those that were kept some were put
pub data AreOffered (q : TaskQueue) (old : WorkerTasks) : List ℕ → WorkerTasks → Type 0 where
  offered_none : AreOffered q old [] old
  offered_more : {ns : List ℕ} {n : ℕ} {mid new : WorkerTasks} → AreOffered q old ns mid
      → IsOfferedNext q n mid new → AreOffered q old (ns ++ n ∷ []) new
  offered_shared : {ns : List ℕ} {mid new : WorkerTasks} → AreOffered q old ns mid
      → SharesNumber mid new → AreOffered q old ns new

-- numbers were offered, and that is all
abbrev pub OffersNumbers : TaskQueue → WorkerTasks → WorkerTasks → Type 0
OffersNumbers q old new = (ns : List ℕ) × AreOffered q old ns new

-- n was taken out of the queue, where nothing was kept
pub record IsTaken (n : ℕ) (old new : WorkerTasks) : Type 0 where
  pub bare : KeepsNone old
  pub taken : taken_through new.pass ≡ taken_through old.pass ++ n ∷ []
  pub kept : KeepsNone new

-- n was kept, and is no longer
pub record IsLeftover (n : ℕ) (old new : WorkerTasks) : Type 0 where
  pub taken : taken_through new.pass ≡ taken_through old.pass
  pub kept : LetsGo n old new

-- nothing was kept, and the queue was empty at a moment
pub record IsIdle (old new : WorkerTasks) : Type 0 where
  pub bare : KeepsNone old
  pub taken : taken_through new.pass ≡ taken_through old.pass
  pub kept : KeepsNone new
  pub empty : WasAt 0 old.pass

abbrev pub GivesTaskNumber : Option ℕ → WorkerTasks → WorkerTasks → Type 0
GivesTaskNumber None old new = IsIdle old new
GivesTaskNumber (Some n) old new = IsLeftover n old new ⊎ IsTaken n old new

-- what a worker gives next: a number that it kept, else one that it took
pub record GivesTask (r : Option ℕ) (old new : WorkerTasks) : Type 0 where
  pub put : put_by new.pass ≡ put_by old.pass
  pub number : GivesTaskNumber r old new
