-- Each step of a queue of numbers keeps its rule.
use Rattle.task_queue.proofs.Imports.{Forks, IsBalanced, IsMoment, Learns, Passage, Pops, Pushes, [], arith, empty_passage, refl, set, times, with_put, with_taken, ℕ, ◌++◌, ◌∷◌, ◌≡◌}
use Rattle.task_queue.proofs.Counts.{times-append, total-set, total-push}

-- a number joins at the back
pub balanced-put : (room pass : ℕ) (v : Passage) (x : ℕ)
    → Pushes IsBalanced room pass v x (λ w. w ≡ with_put x v)
balanced-put room pass v x items views some_room kept at = (with_put x v, balanced, refl)
  where
    balanced : IsBalanced (items ++ x ∷ []) (set views pass (with_put x v))
    balanced n =
        let a = total-set (λ (u : Passage). times n u.put) views pass v (with_put x v) at in
        let b = total-set (λ (u : Passage). times n u.taken) views pass v (with_put x v) at in
        let k = kept n in let d = times-append n v.put (x ∷ []) in
        let e = times-append n items (x ∷ []) in
        omega arith

-- the number at the front leaves
pub balanced-take : (pass : ℕ) (v : Passage) → Pops IsBalanced pass v (λ x w. w ≡ with_taken x v)
balanced-take pass v x items views kept at = (with_taken x v, balanced, refl)
  where
    balanced : IsBalanced items (set views pass (with_taken x v))
    balanced n =
        let a = total-set (λ (u : Passage). times n u.put) views pass v (with_taken x v) at in
        let b = total-set (λ (u : Passage). times n u.taken) views pass v (with_taken x v) at in
        let k = kept n in let d = times-append n v.taken (x ∷ []) in omega arith

-- a new pass comes
pub balanced-pass : (pass : ℕ) (v : Passage) → Forks IsBalanced pass v v empty_passage
balanced-pass pass v items views kept at n =
    let a = total-set (λ (u : Passage). times n u.put) views pass v v at in
    let b = total-set (λ (u : Passage). times n u.taken) views pass v v at in
    let d = total-push (λ (u : Passage). times n u.put) (set views pass v) empty_passage in
    let e = total-push (λ (u : Passage). times n u.taken) (set views pass v) empty_passage in
    let k = kept n in omega arith

-- what a pass learns of a moment
pub moment : (pass : ℕ) (v : Passage) → Learns IsBalanced pass v (IsMoment v)
moment pass v items views kept at = (views, pass, at, kept)
