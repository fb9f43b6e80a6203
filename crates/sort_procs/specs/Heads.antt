-- What a merge holds of its inputs.
use Rattle.chunk_data.specs.Names.{IsTable, Row, row_at, row_cmp}
use Rattle.proc_api.specs.Boxes.{InputHead}
use Rattle.proc_api.specs.kinds.MergeSorted.{IsBeforeNone}
use Rattle.proc_api.specs.Names.{FitsOrder}
use Rattle.proc_api.specs.Prelude.{Picture, SortKey, SortSpec, in_count, input_at, is_in_finished}
use Rattle.query_model.specs.Sources.{count_up}
use Rattle.sort_procs.specs.Ranks.{HasRanks, ranked_place}
use Rattle.sort_procs.specs.declared.heads.Head.{Head}
use Rattle.std.specs.Ordering.{is_lt}
use Rattle.std.specs.List.{All}
use Rattle.std.specs.Prelude.{Bool, List, None, Option, Some, [], drop, false, leb, length, map, not, slice_index_or, take, true, ℕ, ⊤, ◌&&◌, ◌+◌, ◌<◌, ◌^◌, ◌||◌, ◌≡◌, ◌≢◌, ◌≤◌}
use Rattle.std.specs.declared.cmp.Ordering.{Ordering}
use Rattle.std.specs.declared.cmp.Ordering.TheVariants.{Equal, Greater, Less}

abbrev pub head_of : Head → InputHead
head_of h = record { rows = drop h.place h.chunk.rows; ended = h.ended }

abbrev pub heads_of : List Head → List InputHead
heads_of heads = map head_of heads

-- each row of the chunk was made
abbrev pub is_used : Head → Bool
is_used h = leb (length h.chunk.rows) h.place

abbrev pub is_ready : Head → Bool
is_ready h = h.ended || not (is_used h)

-- the head of an input, or of one that isn't there
abbrev pub no_head : Head
no_head =
    record { chunk = record { types = []; rows = [] }; ranks = []; place = 0; ended = false }

abbrev pub at : List Head → ℕ → Head
at heads i = slice_index_or heads i no_head

abbrev pub first_row : Head → Row
first_row h = row_at h.chunk.rows h.place

-- a head's rows fit the order, and have their ranks
pub record IsRanked (order : SortSpec) (h : Head) : Type 0 where
  pub fits : FitsOrder order h.chunk.types
  pub table : IsTable h.chunk
  pub places : map ranked_place h.ranks ≡ count_up (length h.chunk.rows)
  pub ranks : All (HasRanks h.chunk order.keys) h.ranks

-- the heads of as many inputs as a node may have, with ranks where rows are left
pub record AreRanked (order : SortSpec) (heads : List Head) : Type 0 where
  pub count : length heads ≡ 32
  pub ranked : (i : ℕ) → is_used (at heads i) ≡ false → IsRanked order (at heads i)

-- n heads without rows, whose ends weren't noted
pub record AreBlank (n : ℕ) (heads : List Head) : Type 0 where
  pub count : length heads ≡ n
  pub each : (i : ℕ) → head_of (at heads i) ≡ head_of no_head

-- an input that isn't there, or is finished
abbrev pub is_over_at : Picture → ℕ → Bool
is_over_at v i = leb (in_count v) i || is_in_finished (input_at v i).flags

-- the end is noted, where each row was made and the input is over
abbrev pub with_end_noted : Bool → Head → Head
with_end_noted over h = record h { ended = h.ended || (is_used h && over) }

-- the ends of the first n inputs are noted
pub record NotesEnds (v : Picture) (n : ℕ) (old new : List Head) : Type 0 where
  pub count : length new ≡ length old
  pub below : (i : ℕ) → i < n → at new i ≡ with_end_noted (is_over_at v i) (at old i)
  pub above : (i : ℕ) → n ≤ i → at new i ≡ at old i

-- no head from the n-th on has rows
abbrev pub AreUsedFrom : List Head → ℕ → Type 0
AreUsedFrom heads n = (j : ℕ) → n ≤ j → is_used (at heads j) ≡ true

-- a head, if there is one, has rows
abbrev pub HasRows : List Head → Option ℕ → Type 0
HasRows heads None = ⊤
HasRows heads (Some k) = (k < length heads) × (is_used (at heads k) ≡ false)

-- whether the first row of head i comes before that of another, if there is another
abbrev pub comes_before : List SortKey → List Head → ℕ → Option ℕ → Bool
comes_before keys heads i None = true
comes_before keys heads i (Some k) =
    is_lt (row_cmp keys (first_row (at heads i)) (first_row (at heads k)))

-- of the first n heads but one, head i has a row, and none has one that comes before its first
pub record IsFirstHead (keys : List SortKey) (heads : List Head) (but n i : ℕ) : Type 0 where
  pub below : i < n
  pub other : i ≢ but
  pub unused : is_used (at heads i) ≡ false
  pub least : (j : ℕ) → j < n → j ≢ but → is_used (at heads j) ≡ false
      → comes_before keys heads j (Some i) ≡ false

-- the first of the first n heads but one, or none where none of them has rows
abbrev pub IsFirstBut : List SortKey → List Head → (but n : ℕ) → Option ℕ → Type 0
IsFirstBut keys heads but n None = (j : ℕ) → j < n → j ≢ but → is_used (at heads j) ≡ true
IsFirstBut keys heads but n (Some i) = IsFirstHead keys heads but n i

-- head i has rows, and the other, if there is one, has rows and none that comes before its first
pub record GoesFirst (keys : List SortKey) (heads : List Head) (i : ℕ) (other : Option ℕ)
    : Type 0 where
  pub in_range : i < length heads
  pub unused : is_used (at heads i) ≡ false
  pub rows : HasRows heads other
  pub behind : (k : ℕ) → other ≡ Some k → comes_before keys heads k (Some i) ≡ false

-- the n rows that are next
abbrev pub next_rows : Head → ℕ → List Row
next_rows h n = take n (drop h.place h.chunk.rows)

-- whether a row goes before another with which it compares so; the other may go first at a tie
abbrev pub goes_by : (other_first : Bool) → Ordering → Bool
goes_by f Less = true
goes_by f Equal = not f
goes_by f Greater = false

-- of at most so many rows of head h those before the one that doesn't go before the other's first
pub record IsRunBefore (keys : List SortKey) (h other : Head) (most n : ℕ) : Type 0 where
  pub some : 0 < n
  pub few : n ≤ most
  pub before : IsBeforeNone keys (first_row other) (next_rows h n)
  pub ends : n < most
      → is_lt (row_cmp keys (row_at h.chunk.rows (h.place + n)) (first_row other)) ≡ false

-- the run of the rows of head h that go before another's, if there is another, and fit the room
pub record IsRowRun (keys : List SortKey) (heads : List Head) (h : Head) (other : Option ℕ)
    (room n : ℕ) : Type 0 where
  pub some : 0 < n
  pub few : n ≤ room
  pub within : h.place + n ≤ length h.chunk.rows
  pub fits : h.place + n < 2 ^ 64
  pub before : (k : ℕ) → other ≡ Some k → IsBeforeNone keys (first_row (at heads k)) (next_rows h n)
  pub ends : n < room → h.place + n < length h.chunk.rows
      → (k : ℕ) × (other ≡ Some k)
      × (is_lt (row_cmp keys (row_at h.chunk.rows (h.place + n)) (first_row (at heads k))) ≡ false)

-- so many more rows of the head are made
pub record IsMoved (n : ℕ) (old new : Head) : Type 0 where
  pub chunk : new.chunk ≡ old.chunk
  pub ranks : new.ranks ≡ old.ranks
  pub place : new.place ≡ old.place + n
  pub ended : new.ended ≡ old.ended
