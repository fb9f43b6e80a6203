-- What each kind has given at any moment of a run.
use Rattle.std.specs.Prelude.{Bool, IsPermutation, IsSorted, List, Some, [], false, length, true, ◌++◌, ◌<◌, ◌≡◌, ◌≤◌, ◌⊎◌}
use Rattle.plan_laws.specs.Prelude.{AllByRecursion, Contains, KeyPair, Row, SortKey, Span, enough, is_lt, joined_rows, limited, row_cmp}
use Rattle.plan_laws.specs.Streams.{SourceRows, Stream, all_done, any_done, rows_together, stream_rows}

-- lists in order, merged
pub record IsMergeOf (keys : List SortKey) (lists : List (List Row)) (out : List Row) : Type 0 where
  pub same : IsPermutation (rows_together lists) out
  pub in_order : AllByRecursion (λ rows. IsSorted (row_cmp keys) rows) lists
      → IsSorted (row_cmp keys) out

-- ---- what each kind has given at any moment of a run

-- The first of these rows; all of them where the port was finished.
pub record GivesFront (rows : List Row) (o : Stream) : Type 0 where
  pub rest : List Row
  pub is : o.rows ++ rest ≡ rows
  pub all : o.done ≡ true → o.rows ≡ rows

pub record GivesSource (part : SourceRows) (o : Stream) : Type 0 where
  pub front : GivesFront part.rows o
  pub valid : o.done ≡ true → part.valid ≡ true

-- the rows of a list's parts come in any order
pub record GivesListed (list : SourceRows) (o : Stream) : Type 0 where
  pub order : List Row
  pub same : IsPermutation list.rows order
  pub gives : GivesSource (record { rows = order; valid = list.valid }) o

-- it finishes its output only where its input is done
pub record GivesThrough (make : List Row → List Row) (i o : Stream) : Type 0 where
  pub front : GivesFront (make i.rows) o
  pub input_done : o.done ≡ true → i.done ≡ true

-- a limit may also finish its output where it has read enough
pub record GivesLimited (span : Span) (i o : Stream) : Type 0 where
  pub front : GivesFront (limited (Some span) i.rows) o
  pub input_done : o.done ≡ true → (i.done ≡ true) ⊎ (enough span ≤ length i.rows)

-- The rows of the inputs are those of the outputs and those that wait. Once an output is finished,
-- nothing waits, and each input is done.
pub record GivesResized (ins outs : List Stream) : Type 0 where
  pub some : 0 < length outs
  pub waits : List Row
  pub rows : IsPermutation (rows_together (stream_rows ins))
      (rows_together (stream_rows outs) ++ waits)
  pub nothing_waits : any_done outs ≡ true → waits ≡ []
  pub inputs_done : any_done outs ≡ true → all_done ins ≡ true

-- rows of which these are the first, where M says which rows there may be
pub record FrontOf (M : List Row → Type 0) (o : Stream) : Type 0 where
  pub rows : List Row
  pub makes : M rows
  pub front : GivesFront rows o

-- nothing passes before all inputs are done
pub record GivesHeld (M : List Row → Type 0) (inputs_done : Bool) (o : Stream) : Type 0 where
  pub held : 0 < length o.rows → inputs_done ≡ true
  pub done_held : o.done ≡ true → inputs_done ≡ true
  pub whole : inputs_done ≡ true → FrontOf M o

-- Nothing is pulled from the first input before the second is done. The rows that passed are among
-- the pairs that agree, none more often.
pub record GivesJoined (pairs : List KeyPair) (l r o : Stream) : Type 0 where
  pub held : 0 < length l.rows → r.done ≡ true
  pub rest : List Row
  pub rows : IsPermutation (joined_rows pairs l.rows r.rows) (o.rows ++ rest)
  pub nothing_left : o.done ≡ true → rest ≡ []
  pub left_done : o.done ≡ true → l.done ≡ true
  pub right_done : o.done ≡ true → r.done ≡ true

-- an input that gave the last row that isn't before any of these, or is done
abbrev pub HoldsBack : List SortKey → List Row → Stream → Type 0
HoldsBack keys out i = (i.done ≡ true)
    ⊎ ((last : Row) × Contains i.rows last
    × AllByRecursion (λ x. is_lt (row_cmp keys last x) ≡ false) out)

pub record GivesMerged (keys : List SortKey) (ins : List Stream) (o : Stream) : Type 0 where
  pub waits : List Row
  pub rows : IsPermutation (rows_together (stream_rows ins)) (o.rows ++ waits)
  pub in_order : AllByRecursion (λ rows. IsSorted (row_cmp keys) rows) (stream_rows ins)
      → IsSorted (row_cmp keys) o.rows
  pub before_waits : AllByRecursion (λ rows. IsSorted (row_cmp keys) rows) (stream_rows ins)
      → AllByRecursion (λ y. AllByRecursion (λ x. is_lt (row_cmp keys y x) ≡ false) o.rows) waits
  pub held : 0 < length o.rows → AllByRecursion (HoldsBack keys o.rows) ins
  pub nothing_waits : o.done ≡ true → waits ≡ []
  pub inputs_done : o.done ≡ true → all_done ins ≡ true
