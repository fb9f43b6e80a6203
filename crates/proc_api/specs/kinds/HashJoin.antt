-- A join gives the pairs of rows that agree: those of input 0, the FROM table's, with those of
-- input 1, which it reads to its end first.
use Rattle.std.specs.Prelude.{◌++◌, ◌<◌, ◌≡◌}
use Rattle.chunk_data.specs.Values.{plain_type, type_at}
use Rattle.proc_api.specs.KindContract.{All, ColumnType, IsGatheringWork, IsPermutation, JoinSpec, KeyPair, KindContract, List, OwnState, Row, Some, WorkState, [], chunk_rows, false, fixed_ports, joined_rows, length, reads_all_first, suc, true, unworked_at, zero, ℕ}

-- the types of the rows of a join's input: the FROM table's at 0, the JOIN table's at 1
abbrev pub side_types : JoinSpec → ℕ → List ColumnType
side_types join zero = join.left
side_types join (suc i) = join.right

-- the pair has a column of either side, both of one type apart from Nullable
abbrev pub IsKeyPair : (left right : List ColumnType) → KeyPair → Type 0
IsKeyPair left right pair = (pair.left < length left) × (pair.right < length right)
    × (plain_type (type_at left pair.left) ≡ plain_type (type_at right pair.right))

abbrev pub AreKeyPairs : JoinSpec → Type 0
AreKeyPairs join = All (IsKeyPair join.left join.right) join.pairs

-- the types are those of the join's input, and its pairs have columns
pub record FitsJoin (join : JoinSpec) (i : ℕ) (types : List ColumnType) : Type 0 where
  pub types_are : types ≡ side_types join i
  pub pairs_within : AreKeyPairs join

-- a join pulls nothing of input 0 before it has noted the end of input 1
pub record IsJoinWork (w : WorkState) : Type 0 where
  pub idle : IsGatheringWork w
  pub right_first : w.ended ≡ false → unworked_at w 0 ≡ []

-- The rows of input 1 are gathered until its end is noted, and until then none of input 0 is
-- worked. From then on the rows that are made, and those that can be made, are the pairs that
-- agree, each as often.
pub record AreJoined (pairs : List KeyPair) (own : OwnState) (left right made : List Row)
    : Type 0 where
  pub gathered_are : chunk_rows own.gathered ≡ right
  pub none_left : own.ended ≡ false → left ≡ []
  pub none_made : own.ended ≡ false → made ++ own.unmade ≡ []
  pub joined : own.ended ≡ true → IsPermutation (joined_rows pairs left right) (made ++ own.unmade)

abbrev pub join_contract : JoinSpec → KindContract
join_contract join = record {
  ports = fixed_ports 2 1;
  fits = FitsJoin join;
  types = λ ins types. types ≡ join.left ++ join.right;
  most_rows = Some join.rows;
  idle = IsJoinWork;
  made = λ x own worked outs wait. AreJoined join.pairs own (chunk_rows (worked 0))
      (chunk_rows (worked 1)) (chunk_rows (outs 0) ++ wait);
  traits = record reads_all_first { notes = λ own i. (i ≡ 1) × (own.ended ≡ true) };
}
