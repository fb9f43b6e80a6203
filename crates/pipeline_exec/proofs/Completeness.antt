-- Lawful boxes that keep no fault end a run done, or out of memory.
use Rattle.pipeline_exec.proofs.Imports.{BoxPicture, GivenBack, GivesBox, List, arith, inl, inr, refl, subst, sym, ◌<◌, ◌∙◌, ◌≡◌}
use Rattle.pipeline_exec.specs.Ends.{Begun, IsDoneOrMemory, ExecEndHolds, RunsWell}
use Rattle.pipeline_exec.specs.declared.run.ExecEnd.{ExecEnd}
use Rattle.pipeline_exec.specs.declared.run.ExecEnd.TheVariants as end

-- a box is given back as lawful as it was
same-law : (p q : BoxPicture) → GivesBox p q → q.lawful ≡ p.lawful
same-law p q g = grind (arith, g.born, g.unborn)

pub lawful_ends_done : (e : ExecEnd) (b : Begun) (after : List BoxPicture) → GivenBack b.boxes after
    → ExecEndHolds e b after → RunsWell b after → IsDoneOrMemory e
lawful_ends_done end.Done b after back h w = inl refl
lawful_ends_done (end.Stuck report n) b after back h w = let s = h.grown.holds in
    let less = subst (λ k. n < k) back.count s.in_range in
    absurd (let l = sym s.unlawful ∙ (same-law _ _ (back.each n less) ∙ w.lawful n less) in cc)
lawful_ends_done (end.Fault n f) b after back h w = let s = h.holds in
    let less = subst (λ k. n < k) back.count s.in_range in
    absurd (let l = sym s.keeps.kept ∙ w.faultless n less in cc)
lawful_ends_done (end.BadGrowth n f) b after back h w = absurd (w.unflawed n f h)
lawful_ends_done end.Memory b after back h w = inr refl
