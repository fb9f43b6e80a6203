-- What is said of a kind of processors, in one record: that of each kind stands in the file of its
-- name in `kinds/`, with the words of its own. Here is what several kinds share.
use Rattle.std.specs.Prelude.{◌++◌, ◌<◌, ◌≡◌, ◌⊎◌}
pub use Rattle.proc_api.specs.Prelude.{All, AllByRecursion, Bool, ColumnType, Cond, Contains, Edge, Expr, Files, GroupSpec, IfSome, IsItem, IsPermutation, IsSorted, IsTypedCond, JoinSpec, KeyPair, List, Me, New, None, Option, PartSpec, Row, Some, SortKey, SortSpec, Span, Table, Who, [], bad_line_in, bad_place, cond, count_by, drop, enough, false, file_bytes, filter, flat_map, good_rows, holds, is_lt, item_row, joined_rows, length, limited, list_all, map, min, nat_lt, no_flags, numbers, part_records, paths_in, row_cmp, slice_index_or, suc, true, type_of, zero, ℕ, ⊤}
pub use Rattle.proc_api.specs.Boxes.{FileSeen, InputHead, OwnState, PortFlags, Reading, WorkState, idle_work, kept_ports, unworked_at}
pub use Rattle.proc_api.specs.Forms.{GrowthForm, unboxed}
pub use Rattle.proc_api.specs.Histories.{Lists, all_rows, chunk_rows}

abbrev pub is_me : Who → Bool
is_me Me = true
is_me (New n) = false

-- the inputs that a growth adds to the processor that grows
abbrev pub grown_inputs : Option GrowthForm → ℕ
grown_inputs None = 0
grown_inputs (Some g) = count_by (λ (e : Edge). is_me e.to.who) g.edges

abbrev pub AreCounts : (inputs outputs m n : ℕ) → Type 0
AreCounts inputs outputs m n = (inputs ≡ m) × (outputs ≡ n)

-- the processor has finished no output by itself, and closed no input
pub record AreOpen (ports : PortFlags) : Type 0 where
  pub outputs : (o : ℕ) → (slice_index_or ports.outputs o no_flags).fin_out ≡ false
  pub inputs : (i : ℕ) → (slice_index_or ports.inputs i no_flags).fin_in ≡ false

-- as many ports as the last view had
abbrev pub AreAsKept : Option PortFlags → (inputs outputs : ℕ) → Type 0
AreAsKept None inputs outputs = ⊤
AreAsKept (Some ports) inputs outputs =
    AreCounts inputs outputs (length ports.inputs) (length ports.outputs)

-- as many, or any number as long as each port of the last view is open
abbrev pub MayGrowOpen : Option PortFlags → (inputs outputs : ℕ) → Type 0
MayGrowOpen kept inputs outputs = AreAsKept kept inputs outputs ⊎ AreOpen (kept_ports kept)

-- the bytes of a part or list: those of its file, where files are told, and else any
abbrev pub ArePartBytes : Option Files → List ℕ → List ℕ → Type 0
ArePartBytes None path bytes = ⊤
ArePartBytes (Some files) path bytes = file_bytes files path ≡ Some bytes

-- nothing is in any list but the first
abbrev pub IsFirstAlone : Lists → Type 0
IsFirstAlone lists = (i : ℕ) → 0 < i → lists i ≡ []

-- Rows are passed on as they are, each as often. Where one input gives all and one output takes
-- all, in order.
pub record AreResized (worked outs : Lists) (wait : List Row) : Type 0 where
  pub same_rows : IsPermutation (all_rows 32 worked) (all_rows 16 outs ++ wait)
  pub in_order : IsFirstAlone worked → IsFirstAlone outs
      → chunk_rows (outs 0) ++ wait ≡ chunk_rows (worked 0)

-- what a kind reads of files: nothing, the rows of a part, or the list of a table's parts
pub data FileRead : Type 0 where
  NoFile : FileRead
  PartFile : PartSpec → FileRead
  PartsFile : PartSpec → FileRead

-- ---- the record

-- what is true of most kinds, and of few not
pub record KindTraits : Type 1 where
  -- Where the spec fixes no number of ports, it is that of the last view. A kind that notes no end
  -- of an input may get more as long as each port is open.
  pub still : Option PortFlags → (inputs outputs : ℕ) → Type 0
  -- it has noted the end of input i, before which it makes no rows, or pulls none of another
  pub notes : OwnState → ℕ → Type 0
  -- it has noted that end, where it reads an input to its end first, and a merge holds nothing
  pub noted : OwnState → Type 0
  -- it has read enough of what was pulled, and ends before its inputs do
  pub enough : (ins : Lists) → Type 0
  -- it asks for data only as long as it hasn't read enough
  pub wanting : (read : ℕ) → Type 0
  -- it closes no input before that is done
  pub reads_whole : Type 0
  -- its node has in every run the ports that the plan gives it
  pub ungrown : Type 0
  -- the file that it reads, and by what it may let its graph grow, over the files that its reader
  -- tells
  pub reads : FileRead
  pub grows : Option Files → GrowthForm → Type 0
  -- by what it lets its graph grow, where its list names these paths
  pub growth : List (List ℕ) → Option GrowthForm
  -- what is known of its file once it has itself finished an output
  pub read_out : FileSeen → Type 0
  -- what it has made is said of the rows of output 0 and those that wait, in order
  pub in_order : Bool

pub record KindContract : Type 1 where
  -- so many inputs and outputs are the ports of the spec and the growth
  pub ports : Option GrowthForm → (inputs outputs : ℕ) → Type 0
  -- Chunks of these types fit an input: they are the types that the spec gives, or type its
  -- condition, expressions and columns.
  pub fits : ℕ → List ColumnType → Type 0
  -- Chunks of these types may be pushed: they are the types of the rows that the spec makes, or of
  -- a chunk that was pulled and fits, where rows are passed on as they are.
  pub types : (ins : Lists) → List ColumnType → Type 0
  -- the most rows of a chunk, where the spec states a number
  pub most_rows : Option ℕ
  -- what it doesn't use of the state is idle
  pub idle : WorkState → Type 0
  -- What it has made of what it was given to read: its own state, the chunks of each input that it
  -- worked, those that left by each output, and the rows that wait.
  pub made : Reading → OwnState → (worked outs : Lists) → (wait : List Row) → Type 0
  pub traits : KindTraits

-- ---- what several kinds share

abbrev pub fixed_ports : (m n : ℕ) → Option GrowthForm → (inputs outputs : ℕ) → Type 0
fixed_ports m n growth inputs outputs = AreCounts inputs outputs m n

-- it goes on chunk by chunk to the ends of its inputs
abbrev pub chunk_by_chunk : KindTraits
chunk_by_chunk = record {
  still = λ kept inputs outputs. ⊤;
  notes = λ own i. ⊥;
  noted = λ own. ⊤;
  enough = λ ins. ⊥;
  wanting = λ read. ⊤;
  reads_whole = ⊤;
  ungrown = ⊤;
  reads = NoFile;
  grows = λ files g. ⊥;
  growth = λ paths. None;
  read_out = λ f. ⊤;
  in_order = true;
}

-- it reads all inputs to their ends before it makes a row
abbrev pub reads_all_first : KindTraits
reads_all_first =
    record chunk_by_chunk { notes = λ own i. own.ended ≡ true; noted = λ own. own.ended ≡ true }

abbrev pub no_table : Table
no_table = record { types = []; rows = [] }

-- a chunk that was pulled
pub record IsPulled (ins : Lists) (types : List ColumnType) : Type 0 where
  pub input : ℕ
  pub place : ℕ
  pub in_range : place < length (ins input)
  pub is : (slice_index_or (ins input) place no_table).types ≡ types

-- the chunks that are pulled and made, and all else idle
abbrev pub moved_work : WorkState → WorkState
moved_work w = record idle_work { unworked = w.unworked; source = w.source; made = w.made }

-- beside those, the rows that can be made, what is gathered, and whether the end is noted
abbrev pub IsGatheringWork : WorkState → Type 0
IsGatheringWork w =
    w ≡ record (moved_work w) { unmade = w.unmade; gathered = w.gathered; ended = w.ended }
