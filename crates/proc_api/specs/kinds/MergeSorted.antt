-- A merge of sorted inputs gives the rows of all in order.
use Rattle.std.specs.Prelude.{◌++◌, ◌<◌, ◌||◌, ◌≡◌, ◌⊎◌}
use Rattle.proc_api.specs.KindContract.{AllByRecursion, AreAsKept, Bool, Contains, InputHead, IsPermutation, IsSorted, KindContract, List, Lists, Row, Some, SortKey, SortSpec, [], all_rows, chunk_by_chunk, chunk_rows, cond, false, flat_map, is_lt, length, list_all, moved_work, nat_lt, row_cmp, slice_index_or, true, ℕ}
use Rattle.proc_api.specs.kinds.Sort.{FitsOrder}

abbrev pub no_input_head : InputHead
no_input_head = record { rows = []; ended = false }

-- what is held of input i
abbrev pub head_at : List InputHead → ℕ → InputHead
head_at heads i = slice_index_or heads i no_input_head

-- the rows that are held of all inputs
abbrev pub head_rows : List InputHead → List Row
head_rows heads = flat_map (λ (h : InputHead). h.rows) heads

abbrev pub is_ready_head : InputHead → Bool
is_ready_head h = h.ended || nat_lt 0 (length h.rows)

-- the rows that are held, where each input has ended or has one; else none can be made
abbrev pub ready_rows : List InputHead → List Row
ready_rows heads = cond (list_all is_ready_head heads) (head_rows heads) []

-- y comes before none of the rows
abbrev pub IsBeforeNone : List SortKey → Row → List Row → Type 0
IsBeforeNone keys y rows = AllByRecursion (λ x. is_lt (row_cmp keys y x) ≡ false) rows

-- an input that has ended, or gave a row that comes before none of those that are made
abbrev pub HeldBack : List SortKey → InputHead → (rows made : List Row) → Type 0
HeldBack keys head rows made =
    (head.ended ≡ true) ⊎ ((last : Row) × Contains rows last × IsBeforeNone keys last made)

-- these are the last of the rows
pub record AreLast (last rows : List Row) : Type 0 where
  pub front : List Row
  pub is : rows ≡ front ++ last

abbrev pub AreInputsSorted : List SortKey → Lists → Type 0
AreInputsSorted keys lists = (i : ℕ) → IsSorted (row_cmp keys) (chunk_rows (lists i))

-- The rows that are made and those that are held are those of all inputs, each as often. Where each
-- input's rows are in order, so are those that are made, and none that is held comes before one of
-- them. Where a row is made, each input has ended or gave a row that comes before none of them.
pub record AreMerged (keys : List SortKey) (heads : List InputHead) (worked : Lists)
    (made : List Row) : Type 0 where
  pub same_rows : IsPermutation (all_rows 32 worked) (made ++ head_rows heads)
  pub heads_are : (i : ℕ) → i < 32 → AreLast (head_at heads i).rows (chunk_rows (worked i))
  pub in_order : AreInputsSorted keys worked → IsSorted (row_cmp keys) made
  pub before_held : AreInputsSorted keys worked
      → AllByRecursion (λ y. IsBeforeNone keys y made) (head_rows heads)
  pub held_back : 0 < length made → (i : ℕ) → i < 32
      → HeldBack keys (head_at heads i) (chunk_rows (worked i)) made

abbrev pub merged_contract : SortSpec → KindContract
merged_contract order = record {
  ports = λ growth i o. o ≡ 1;
  fits = λ i. FitsOrder order;
  types = λ ins types. types ≡ order.types;
  most_rows = Some order.rows;
  idle = λ w. w ≡ record (moved_work w) { unmade = w.unmade; heads = w.heads };
  made = λ x own worked outs wait. (own.unmade ≡ ready_rows own.heads)
      × AreMerged order.keys own.heads worked (chunk_rows (outs 0) ++ wait);
  traits = record chunk_by_chunk {
    still = AreAsKept;
    notes = λ own i. (head_at own.heads i).ended ≡ true;
    noted = λ own. head_rows own.heads ≡ [];
  };
}
