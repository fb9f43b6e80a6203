-- The state of a merge, and what it makes of its heads.
use Rattle.chunk_data.specs.Names.{Row, Table}
use Rattle.proc_api.specs.Boxes.{OwnState, idle_own}
use Rattle.proc_api.specs.kinds.MergeSorted.{AreMerged, ready_rows}
use Rattle.proc_api.specs.Names.{Lists}
use Rattle.proc_api.specs.Prelude.{SortKey, SortSpec, list_all}
use Rattle.proc_shell.proofs.Through.{shelled-still}
use Rattle.proc_shell.specs.Kernels.{IsShelled}
use Rattle.sort_procs.specs.Heads.{at, heads_of, is_used}
use Rattle.sort_procs.specs.declared.heads.Head.{Head}
use Rattle.std.specs.Prelude.{Bool, List, length, max, refl, true, ℕ, ◌++◌, ◌<◌, ◌≡◌, ◌≤◌, ◌⊎◌}
use Rattle.query_model.specs.declared.processor_spec.Spec.TheVariants as spec

abbrev pub merging_own : List Head → OwnState
merging_own heads = record idle_own { unmade = ready_rows (heads_of heads); heads = heads_of heads }

-- an input of which no row is left
abbrev pub is_open_at : List Head → ℕ → Bool
is_open_at heads i = is_used (at heads i)

-- what was made as the old heads stood goes on with these rows, and the new ones stand behind them
pub record Merges (keys : List SortKey) (old new : List Head) (rows : List Row) : Type 0 where
  pub ends : (i : ℕ) → (at new i).ended ≡ (at old i).ended
  pub means : (worked : Lists) (made : List Row) → AreMerged keys (heads_of old) worked made
      → AreMerged keys (heads_of new) worked (made ++ rows)

-- a chunk of the first rows, which has some where there are
pub record MergesSome (order : SortSpec) (old new : List Head) (t : Table) : Type 0 where
  pub types : t.types ≡ order.types
  pub merges : Merges order.keys old new t.rows
  pub few : length t.rows ≤ max order.rows 1
  pub some : (0 < length t.rows) ⊎ (list_all is_used new ≡ true)

pub merge_shelled : (order : SortSpec) → IsShelled (spec.MergeSorted order)
merge_shelled order =
    shelled-still (spec.MergeSorted order) refl
    (record { position = λ kept m n h. h; one = λ growth m n h. h })
