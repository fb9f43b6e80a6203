-- The rule of a queue of numbers.
use Rattle.std.specs.Prelude.{◌≡◌, ℕ, ◌+◌, List, [], ◌∷◌, ◌++◌}
use mathlib.Core.Option.{some}
use lib.ListN.{get_elem?}
use Rattle.task_queue.specs.declared.queue.Passage.{Passage}
use Rattle.task_queue.specs.Numbers.{times, total_over}

abbrev pub empty_passage : Passage
empty_passage = record { put = []; taken = [] }

abbrev pub with_put : ℕ → Passage → Passage
with_put n v = record { put = v.put ++ n ∷ []; taken = v.taken }

abbrev pub with_taken : ℕ → Passage → Passage
with_taken n v = record { put = v.put; taken = v.taken ++ n ∷ [] }

-- each number was put through all passes as often as it was taken through them or is left
abbrev pub IsBalanced : List ℕ → List Passage → Type 0
IsBalanced left views =
    (n : ℕ) → total_over (λ v. times n v.put) views
    ≡ total_over (λ v. times n v.taken) views + times n left

-- the queue held these numbers at a moment at which the balance held and a pass had seen v
abbrev pub IsMoment : Passage → List ℕ → Type 0
IsMoment v left =
    (views : List Passage) × (pass : ℕ) × (get_elem? views pass ≡ some v) × IsBalanced left views
