-- What changing the first inputs of a view does, one after another.
use Rattle.proc_shell.proofs.Imports.{Bool, ChangesInput, ChangesInputs, InputPort, Picture, after_close, after_need, arith, changed-by-both, changed-by-none, changed-by-one, close-turns, close_call, false, in_count, input_at, is_in_finished, need-turns, need_call, needing, out_count, output_at, same-input, shut_open, sym, ℕ, ◌+◌, ◌<◌, ◌≡◌}

pub inputs-next : (f : ℕ → InputPort → InputPort) (n : ℕ) (v w u : Picture) → ChangesInput f n w u
    → ChangesInputs f n v w → ChangesInputs f (n + 1) v u
unfolding input_at output_at in_count out_count
inputs-next f n v w u s c = search (arith, changed-by-both)

-- an input that f leaves as it is, where nothing is called
pub step-none : (f : ℕ → InputPort → InputPort) (i : ℕ) (v : Picture)
    → f i (input_at v i) ≡ input_at v i → ChangesInput f i v v
step-none f i v e = record { changed = changed-by-none v; turns = same-input v i _ (sym e) }

pub step-needs : (f : ℕ → InputPort → InputPort) (b : Bool) (i : ℕ) (v w : Picture) → i < in_count v
    → w ≡ after_need v i b → f i (input_at v i) ≡ needing (input_at v i) b → ChangesInput f i v w
step-needs f b i v w lt e same =
    grind (arith, changed-by-one v w (need_call i b) e, need-turns v i b lt)

pub step-closes : (i : ℕ) (v w : Picture) → i < in_count v → w ≡ after_close v i
    → is_in_finished (input_at v i).flags ≡ false → ChangesInput shut_open i v w
step-closes i v w lt e unended =
    grind (arith, changed-by-one v w (close_call i) e, close-turns v i lt)
