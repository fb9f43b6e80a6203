-- Runs of events.
use Rattle.exec_core.proofs.Imports.{CoreState, Event, List, Some, [], after, ap, arith, get_or, length, may, run, take, take_more, true, ℕ, ◌++◌, ◌+◌, ◌<◌, ◌∙◌, ◌∷◌, ◌≡◌}

run-last : (c : CoreState) (xs : List Event) (d : CoreState) (ev : Event) → run c xs ≡ Some d
    → may d ev.seat ev.step ≡ true → run c (xs ++ ev ∷ []) ≡ Some (after d ev.seat ev.step)
run-last c [] d ev h g = let e : c ≡ d = cc in grind (arith, e, g)
run-last c (x ∷ xs) d ev h g = let more = run-last (after c x.seat x.step) xs d ev in
    grind (arith, more, h, g)

-- one step more
pub run-more : (start : CoreState) (events : List Event) (k : ℕ) (c : CoreState) (d : Event)
    → k < length events → run start (take k events) ≡ Some c
    → may c (get_or events k d).seat (get_or events k d).step ≡ true → run start
    (take (k + 1) events) ≡ Some (after c (get_or events k d).seat (get_or events k d).step)
run-more start events k c d inside h g = ap (run start) (take_more events k d inside)
    ∙ run-last start (take k events) c (get_or events k d) h g
