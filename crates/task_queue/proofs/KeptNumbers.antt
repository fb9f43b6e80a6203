-- The numbers that a worker keeps.
use Rattle.std.proofs.Common.{arith, Bool, List, [], append-nil, append_assoc, false, refl, slice_index_or, slice_set, subst, suc, sym, zero, ℕ, ◌++◌, ◌==◌, ◌∷◌, ◌≡◌}
use Rattle.std.proofs.Math.ListN.{replicate}
use Rattle.task_queue.specs.Tasks.{AreOffered, OffersNumbers, offered_more, offered_none, offered_shared}
use Rattle.task_queue.specs.declared.queue.TaskQueue.{TaskQueue}
use Rattle.task_queue.specs.declared.tasks.WorkerTasks.{WorkerTasks}

-- of new places none is set
pub none-set : (k n : ℕ) → slice_index_or (replicate k false) n false ≡ false
none-set zero n = refl
none-set (suc k) zero = refl
none-set (suc k) (suc n) = none-set k n

-- where no place but one may be set, none is once that isn't
pub only-unset : (l : List Bool) (n : ℕ)
    → ((m : ℕ) → (n == m) ≡ false → slice_index_or l m false ≡ false)
    → (m : ℕ) → slice_index_or (slice_set l n false) m false ≡ false
only-unset [] n alone m = refl
only-unset (b ∷ l) zero alone zero = refl
only-unset (b ∷ l) zero alone (suc m) = alone (suc m) (grind (arith))
only-unset (b ∷ l) (suc n) alone zero = alone zero (grind (arith))
only-unset (b ∷ l) (suc n) alone (suc m) = only-unset l n
    (λ k e. alone (suc k) (grind (arith, e))) m

-- numbers that were offered after others
pub offered-after : {q : TaskQueue} {a b : WorkerTasks} {ns : List ℕ} → AreOffered q a ns b
    → {ms : List ℕ} {c : WorkerTasks} → AreOffered q b ms c → AreOffered q a (ns ++ ms) c
offered-after {q} {a} {b} {ns} h offered_none = subst (λ l. AreOffered q a l b)
    (sym (append-nil ns)) h
offered-after {q} {a} {b} {ns} h (offered_more {ns = ms} {n} {mid} {new} k o) =
    subst (λ l. AreOffered q a l new) (append_assoc ns ms (n ∷ []))
    (offered_more (offered-after h k) o)
offered-after h (offered_shared k o) = offered_shared (offered-after h k) o

pub offers-none : (q : TaskQueue) (a : WorkerTasks) → OffersNumbers q a a
offers-none q a = ([], offered_none)

pub offers-both : (q : TaskQueue) (a b c : WorkerTasks) → OffersNumbers q a b → OffersNumbers q b c
    → OffersNumbers q a c
offers-both q a b c h k = (h.0 ++ k.0, offered-after h.1 k.1)
