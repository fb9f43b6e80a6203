-- The kinds in their order, and how many boxes of each a rack has.
use Rattle.query_run.proofs.Imports.{BoxPicture, Kind, List, count_by, is_of, kind_place, ℕ, ◌<◌, ◌≤◌}

-- of each kind before this place the rack has the boxes that are needed
pub record HasBefore (place : ℕ) (needed : Kind → ℕ) (boxes : List BoxPicture) : Type 0 where
  pub each : (k : Kind) → kind_place k < place → needed k ≤ count_by (is_of k) boxes
