-- Closing inputs and finishing outputs, one after another.
use Rattle.proc_api.proofs.Imports.{ClosesFront, FinishesFront, Flags, Picture, SameChunks, after_close, after_finish, append-nil, arith, cases_eq, changed-by-both, changed-by-one, close_call, finish_call, in_count, input_at, is_out_finished, out_count, output_at, true, ℕ, ◌+◌, ◌<◌, ◌∙◌, ◌≡◌, ◌≢◌}
use Rattle.proc_api.proofs.Turns.{close-turns, finish-turns, finishing, finishing-leaves}

-- what holds of every input, where it holds of the changed one and of the others
pub by-place : (P : ℕ → Type 0) (n i : ℕ) → P n → (i ≢ n → P i) → P i
by-place P n i here others = grind (arith, cases_eq)

pub both-same : (v w u : Picture) → SameChunks v w → SameChunks w u → SameChunks v u
both-same v w u a b = grind arith

pub closes-next : (n : ℕ) (v w u : Picture) → n < in_count v → u ≡ after_close w n
    → ClosesFront n v w → ClosesFront (n + 1) v u
unfolding input_at output_at in_count out_count
closes-next n v w u lt e c =
    grind (
      arith,
      close-turns w n (omega (arith, lt, c.ins)),
      changed-by-both,
      changed-by-one w u (close_call n),
      cases_eq,
    )

pub is-finished : (f : Flags) → is_out_finished (finishing f) ≡ true
is-finished f = grind arith

pub finishes-next : (n : ℕ) (v w u : Picture) → n < out_count v → u ≡ after_finish w n
    → FinishesFront n v w → FinishesFront (n + 1) v u
unfolding input_at output_at in_count out_count
finishes-next n v w u lt e c =
    grind (
      arith,
      finish-turns w n (omega (arith, lt, c.outs)),
      finishing-leaves,
      is-finished,
      append-nil,
      changed-by-both,
      changed-by-one w u (finish_call n),
      cases_eq,
    )
