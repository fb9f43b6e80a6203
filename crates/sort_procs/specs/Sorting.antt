-- The state of a sort.
use Rattle.proc_api.proofs.Orders.{ordered, rows-ordered}
use Rattle.proc_api.specs.Names.{AreSorted, OwnState, idle_own}
use Rattle.proc_api.specs.Prelude.{Row, SortKey, SortSpec, Table, is_lt, row_cmp}
use Rattle.proc_shell.proofs.Through.{shelled-of}
use Rattle.proc_shell.specs.Kernels.{IsShelled}
use Rattle.sort_procs.specs.Ranks.{rows_at}
use Rattle.sort_procs.specs.declared.ranks.Ranked.{Ranked}
use Rattle.std.specs.Prelude.{Bool, List, [], cond, drop, false, refl, take, true, ℕ, ◌++◌, ◌-◌, ◌∷◌, ◌≡◌}
use Rattle.query_model.specs.declared.processor_spec.Spec.TheVariants as spec

-- an order of the rows that the keys allow
abbrev pub any_order : List SortKey → List Row → List Row
any_order keys rows = ordered (λ (a b : Row). is_lt (row_cmp keys a b)) (rows-ordered keys) rows

-- The rows that are left: those at the places of the front that weren't reached, and then those at
-- the places behind the front, which aren't in order yet. Before there are places, all rows.
abbrev pub rows_left : List SortKey → Bool → List Ranked → (next front : ℕ) → List Row → List Row
rows_left keys true places next front rows =
    rows_at rows (take (front - next) (drop next places))
    ++ any_order keys (rows_at rows (drop front places))
rows_left keys false places next front rows = any_order keys rows

abbrev pub sorting_own : List SortKey → (ended ranked : Bool) → List Ranked → (next front : ℕ)
    → Table → OwnState
sorting_own keys ended ranked places next front rows = record idle_own {
  unmade = cond ended (rows_left keys ranked places next front rows.rows) [];
  gathered = cond ended [] (rows ∷ []);
  ended = ended;
}

-- the rows that are left were put in order, or were so already
pub record PutsInOrder (keys : List SortKey) (old new : OwnState) : Type 0 where
  pub means : (rows made : List Row) → AreSorted keys old rows made → AreSorted keys new rows made
  pub same : old.unmade ≡ [] → new ≡ old
  pub ended : new.ended ≡ old.ended

pub sort_shelled : (order : SortSpec) → IsShelled (spec.Sort order)
sort_shelled order =
    shelled-of (spec.Sort order) 1 refl (record { ports = λ growth m n h. h })
