-- What contracts see of a boxed processor, as plain data.
use Rattle.std.specs.Prelude.{◌==◌}
use Rattle.proc_api.specs.Prelude.{Answer, BadPlace, Bool, Files, Flags, Kind, List, None, Option, Row, Some, Spec, Table, WorkFault, [], cond, false, length, no_flags, slice_index_or, true, ℕ}
pub use Rattle.proc_api.specs.Forms.{GrowthForm}

-- the flags of each port of a view
pub record PortFlags : Type 0 where
  pub inputs : List Flags
  pub outputs : List Flags

-- What a merge holds of an input: the rows that it took and hasn't made, and whether it noted the
-- end.
pub record InputHead : Type 0 where
  pub rows : List Row
  pub ended : Bool

-- The state of a processor. A later kind may add a field, which is as `idle_work` has it in every
-- other kind.
pub record WorkState : Type 0 where
  -- the chunks that were pulled and are not worked yet, in order, and the input from which they
  -- were pulled
  pub unworked : List Table
  pub source : ℕ
  -- the chunks that are made and not pushed yet, in order
  pub made : List Table
  -- the rows that can be pushed once they are made, in order
  pub unmade : List Row
  -- the chunks that it has gathered, in order, and whether they were handed out
  pub gathered : List Table
  pub handed_out : Bool
  -- how many rows it has read, and whether it has noted the end of its inputs
  pub read : ℕ
  pub ended : Bool
  -- what a merge holds of each input
  pub heads : List InputHead
  -- whether a source has opened its file, and whether it has fetched it whole
  pub opened : Bool
  pub fetched : Bool
  -- the bad place of the part that it has fetched
  pub bad : Option BadPlace
  -- the paths of the list that it has fetched, and its bad line; one with a bad line names no path
  pub paths : List (List ℕ)
  pub bad_line : Option ℕ

-- What a kind keeps for itself beside chunks that are pulled and made: the rows that it can make,
-- the chunks that it has gathered, how many rows it has read, whether it has noted the end of its
-- inputs, and what it holds of each.
pub record OwnState : Type 0 where
  pub unmade : List Row
  pub gathered : List Table
  pub read : ℕ
  pub ended : Bool
  pub heads : List InputHead

abbrev pub own_of : WorkState → OwnState
own_of w = record {
  unmade = w.unmade;
  gathered = w.gathered;
  read = w.read;
  ended = w.ended;
  heads = w.heads;
}

abbrev pub idle_own : OwnState
idle_own = record { unmade = []; gathered = []; read = 0; ended = false; heads = [] }

-- the chunks of an input that are not worked yet
abbrev pub unworked_at : WorkState → ℕ → List Table
unworked_at w i = cond (i == w.source) w.unworked []

-- a count of pulled rows, and by how much it rose since `load`
pub record RowCount : Type 0 where
  pub total : ℕ
  pub since : ℕ

-- What a processor keeps besides from `load` on: how many bytes its reader gave, by how much its
-- counts rose, its last answer, whether `work` or `expand` was called on it, the fault that it
-- answered, the flags of the view that its last `prepare` left, and whether each view had the ports
-- of its spec and growth.
pub record Notes : Type 0 where
  pub given : ℕ
  pub faults : ℕ
  pub pendings : ℕ
  pub pulled : ℕ
  pub answer : Option Answer
  pub acted : Bool
  pub fault : Option WorkFault
  pub view : Option PortFlags
  pub fits : Bool

-- A boxed processor. A blank one has no spec. `faults` and `pendings` are its reader's, and
-- `pulled` counts the rows that it pulled; none of the three ever falls. `files` are those that its
-- reader tells, and `growth` is the last that it answered since `load`.
pub record BoxPicture : Type 0 where
  pub kind : Kind
  pub lawful : Bool
  pub files : Option Files
  pub spec : Option Spec
  pub faults : ℕ
  pub pendings : ℕ
  pub pulled : ℕ
  pub work : WorkState
  pub notes : Notes
  pub growth : Option GrowthForm

-- What is known of the file that a box reads, none of it before the file is fetched whole: the bad
-- place of a part, the paths and the bad line of a list, and by what these let the graph grow.
pub record FileSeen : Type 0 where
  pub fetched : Bool
  pub bad : Option BadPlace
  pub paths : List (List ℕ)
  pub bad_line : Option ℕ
  pub growth : Option GrowthForm

abbrev pub file_of : BoxPicture → FileSeen
file_of p = record {
  fetched = p.work.fetched;
  bad = p.work.bad;
  paths = p.work.paths;
  bad_line = p.work.bad_line;
  growth = p.growth;
}

-- What a processor was given to read: the files that its reader tells, what is known of the one
-- that it reads, and the chunks that it pulled and hasn't worked yet.
pub record Reading : Type 0 where
  pub files : Option Files
  pub file : FileSeen
  pub unworked : List Table

abbrev pub reading_of : BoxPicture → Reading
reading_of p = record { files = p.files; file = file_of p; unworked = p.work.unworked }

abbrev pub idle_work : WorkState
idle_work = record {
  unworked = [];
  source = 0;
  made = [];
  unmade = [];
  gathered = [];
  handed_out = false;
  read = 0;
  ended = false;
  heads = [];
  opened = false;
  fetched = false;
  bad = None;
  paths = [];
  bad_line = None;
}

-- what a processor keeps as `load` leaves it
abbrev pub no_notes : Notes
no_notes = record {
  given = 0;
  faults = 0;
  pendings = 0;
  pulled = 0;
  answer = None;
  acted = false;
  fault = None;
  view = None;
  fits = true;
}

-- as a spec past the last one of a list is read
abbrev pub no_spec : Spec
no_spec = Spec.Collect

-- a blank box that keeps no contract, as a box past the last one of a list is read
abbrev pub no_box : BoxPicture
no_box = record {
  kind = Kind.Collect;
  lawful = false;
  files = None;
  spec = None;
  faults = 0;
  pendings = 0;
  pulled = 0;
  work = idle_work;
  notes = no_notes;
  growth = None;
}

abbrev pub no_ports : PortFlags
no_ports = record { inputs = []; outputs = [] }

abbrev pub kept_ports : Option PortFlags → PortFlags
kept_ports None = no_ports
kept_ports (Some ports) = ports

-- the flags that the processor keeps of an input and of an output; none is set where it keeps none
unfoldable pub kept_input : BoxPicture → ℕ → Flags
kept_input p i = slice_index_or (kept_ports p.notes.view).inputs i no_flags

unfoldable pub kept_output : BoxPicture → ℕ → Flags
kept_output p o = slice_index_or (kept_ports p.notes.view).outputs o no_flags

unfoldable pub kept_inputs : BoxPicture → ℕ
kept_inputs p = length (kept_ports p.notes.view).inputs

unfoldable pub kept_outputs : BoxPicture → ℕ
kept_outputs p = length (kept_ports p.notes.view).outputs
