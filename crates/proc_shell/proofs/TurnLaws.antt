-- What each turn of a shell moves.
use Rattle.proc_shell.proofs.Imports.{cases_eq, AllOutputsFinished, AreCounts, AreOpen, Bool, Flags, IsWantedFull, IsWanting, KernelState, Leaves, MayMake, Moves, Nothing, OwnState, Picture, PullsOne, Some, Spec, Table, TurnsInput, Unworked, after_pull, ap, ap₂, arith, cases_lt, changed-by-both, changed-by-one, common_steps, emptied, get_or-eq_default, get_or_default, holds_data, in_count, input_at, is_ended, none-pulled, not-true, or_parts, out_count, output_at, all_port_flags, pull-turns, pull_call, refl, taken_out, true, ℕ, ◌<◌, ◌∙◌, ◌≡◌}
use Rattle.proc_api.specs.declared.status.Status.TheVariants as status
use Rattle.proc_shell.proofs.PortMoves.{kept-count, never-true}

pub holds-unended : (f : Flags) → holds_data f ≡ true → is_ended f ≡ true → ⊥
holds-unended f h e = grind (arith, common_steps, not-true)

-- a kernel that wasn't asked stays as it is
pub leaves-same : (s : Spec) (own : OwnState) → Leaves s own own
leaves-same s own = record { means = λ x worked outs wait h. h; stays_over = λ n y. (n, y) }

-- where there is no input, and one output, which has room, each port is open
pub open-ports : (v : Picture) → AreCounts (in_count v) (out_count v) 0 1 → MayMake v
    → AreOpen (all_port_flags v)
unfolding in_count out_count output_at
open-ports v n may =
    grind (arith, common_steps, get_or_default, get_or-eq_default, or_parts, kept-count, cases_lt)

-- what a view's calls change, one after another, and that its ports are open
pub ruleset two_steps = (changed-by-both, open-ports)

room-unfinished : (v : Picture) → MayMake v → 0 < out_count v → AllOutputsFinished v → ⊥
room-unfinished v may some all = grind (arith, common_steps, never-true)

-- a wanted input has data, and its chunk is pulled
pub moves-pull : (x : KernelState) (v w : Picture) (wants : ℕ → Bool) (i : ℕ) (c : Table)
    → IsWanting (Some x.spec) x.own.read → MayMake v → IsWantedFull wants v i
    → (input_at v i).chunk ≡ Some c → w ≡ after_pull v i
    → Moves x Nothing (Unworked i c) v w status.Ready
unfolding input_at output_at in_count out_count
moves-pull x v w wants i c wanting r full at e =
    let t : TurnsInput v i (emptied (input_at v i)) w =
    rw e (pull-turns v i full.in_range full.holds) in
    let changed = changed-by-one v w (pull_call i) e in
    let ended : (j : ℕ) → is_ended (input_at v j).flags ≡ true
    → is_ended (input_at w j).flags ≡ true = grind (arith, cases_eq, holds-unended) in
    let closed : (j : ℕ) → (input_at w j).flags.fin_in ≡ (input_at v j).flags.fin_in =
    grind (arith, cases_eq) in
    let pulls : PullsOne x Nothing (Unworked i c) v w = record {
      wanting = wanting;
      input = i;
      chunk = c;
      in_range = full.in_range;
      holds = full.holds;
      before = refl;
      after = refl;
      here = ap₂ taken_out at (ap (λ y. y.chunk) t.inputs.here);
      others = λ j ne. none-pulled v w j (ap (λ y. y.chunk) (t.inputs.others j ne));
      unfinished = room-unfinished v r;
    } in
    grind (arith, common_steps)
