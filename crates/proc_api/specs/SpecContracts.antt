-- The contract of the kind of each spec, and what of it clauses cite.
use Rattle.proc_api.specs.Prelude.{ColumnType, Files, List, None, Option, PartSpec, Row, Some, Spec, ℕ, ⊤}
use Rattle.proc_api.specs.Boxes.{FileSeen, OwnState, PortFlags, Reading, WorkState}
use Rattle.query_model.specs.declared.processor_spec.Spec.TheVariants as spec
use Rattle.proc_api.specs.Forms.{GrowthForm}
use Rattle.proc_api.specs.Histories.{Lists}
use Rattle.proc_api.specs.KindContract.{FileRead, KindContract, NoFile, PartFile, PartsFile, chunk_by_chunk}
use Rattle.proc_api.specs.kinds.Collect.{collect_contract}
use Rattle.proc_api.specs.kinds.Csv.{part_contract}
use Rattle.proc_api.specs.kinds.Expression.{expression_contract}
use Rattle.proc_api.specs.kinds.Filter.{filter_contract}
use Rattle.proc_api.specs.kinds.HashJoin.{join_contract}
use Rattle.proc_api.specs.kinds.Limit.{limit_contract}
use Rattle.proc_api.specs.kinds.List.{list_contract}
use Rattle.proc_api.specs.kinds.MergeAggregate.{merge_contract}
use Rattle.proc_api.specs.kinds.MergeSorted.{merged_contract}
use Rattle.proc_api.specs.kinds.Numbers.{numbers_contract}
use Rattle.proc_api.specs.kinds.PartialAggregate.{partial_contract}
use Rattle.proc_api.specs.kinds.Resize.{resize_contract}
use Rattle.proc_api.specs.kinds.Sort.{sort_contract}

-- of a box without a spec no more is said than that it has no ports
abbrev pub no_contract : KindContract
no_contract = record {
  ports = λ growth i o. ⊥;
  fits = λ i types. ⊤;
  types = λ ins types. ⊤;
  most_rows = None;
  idle = λ w. ⊤;
  made = λ x own worked outs wait. ⊤;
  traits = chunk_by_chunk;
}

abbrev pub contract_of : Option Spec → KindContract
contract_of None = no_contract
contract_of (Some (spec.Csv part)) = part_contract part
contract_of (Some (spec.List list)) = list_contract list
contract_of (Some (spec.Numbers n rows)) = numbers_contract n rows
contract_of (Some (spec.Filter c)) = filter_contract c
contract_of (Some (spec.Expression items)) = expression_contract items
contract_of (Some spec.Resize) = resize_contract
contract_of (Some (spec.PartialAggregate groups)) = partial_contract groups
contract_of (Some (spec.MergeAggregate groups)) = merge_contract groups
contract_of (Some (spec.HashJoin join)) = join_contract join
contract_of (Some (spec.Sort order)) = sort_contract order
contract_of (Some (spec.MergeSorted order)) = merged_contract order
contract_of (Some (spec.Limit span)) = limit_contract span
contract_of (Some spec.Collect) = collect_contract

-- so many inputs and outputs are the ports of the spec and the growth
abbrev pub ArePortsOf : Option Spec → Option GrowthForm → (inputs outputs : ℕ) → Type 0
ArePortsOf s growth inputs outputs = (contract_of s).ports growth inputs outputs

-- where the spec fixes no number of ports, it is that of the last view, or may grow from that
abbrev pub StandStill : Option Spec → Option PortFlags → (inputs outputs : ℕ) → Type 0
StandStill s kept inputs outputs = (contract_of s).traits.still kept inputs outputs

-- chunks of these types fit input i
abbrev pub FitsInput : Option Spec → ℕ → List ColumnType → Type 0
FitsInput s i types = (contract_of s).fits i types

-- chunks of these types may be pushed
abbrev pub MakesTypes : Option Spec → Lists → List ColumnType → Type 0
MakesTypes s ins types = (contract_of s).types ins types

-- the most rows of a chunk, where the spec states a number
abbrev pub most_rows : Option Spec → Option ℕ
most_rows s = (contract_of s).most_rows

-- what a kind doesn't use of the state is idle
abbrev pub IsWorkOf : Option Spec → WorkState → Type 0
IsWorkOf s w = (contract_of s).idle w

-- What a kind has made of what it was given to read: its own state, the chunks of each input that
-- it worked, those that left by each output, and the rows that wait.
abbrev pub HasMade : Reading → Spec → OwnState → (worked outs : Lists) → (wait : List Row) → Type 0
HasMade x s own worked outs wait = (contract_of (Some s)).made x own worked outs wait

-- what is known of a kind's file once it has itself finished an output
abbrev pub IsReadOut : Spec → FileSeen → Type 0
IsReadOut s f = (contract_of (Some s)).traits.read_out f

-- by what a kind lets its graph grow, where its list names these paths
abbrev pub spec_growth : Spec → List (List ℕ) → Option GrowthForm
spec_growth s paths = (contract_of (Some s)).traits.growth paths

-- it has noted the end of input i, before which it makes no rows, or pulls none of another
abbrev pub NotesEnd : Option Spec → OwnState → ℕ → Type 0
NotesEnd s own i = (contract_of s).traits.notes own i

-- a kind that reads an input to its end first has noted that end, and a merge holds nothing
abbrev pub HasNotedEnd : Spec → OwnState → Type 0
HasNotedEnd s own = (contract_of (Some s)).traits.noted own

-- a limit that has read enough; no other kind ends before its inputs do
abbrev pub HasReadEnough : Option Spec → Lists → Type 0
HasReadEnough s ins = (contract_of s).traits.enough ins

-- a limit asks for data only as long as it hasn't read enough
abbrev pub IsWanting : Option Spec → (read : ℕ) → Type 0
IsWanting s read = (contract_of s).traits.wanting read

-- a limit may close its input before it is done, and no other kind does
abbrev pub IsNoLimit : Spec → Type 0
IsNoLimit s = (contract_of (Some s)).traits.reads_whole

-- the kinds whose nodes have in every run the ports that the plan gives them
abbrev pub IsUngrown : Spec → Type 0
IsUngrown s = (contract_of (Some s)).traits.ungrown

-- the file that a kind reads
abbrev pub file_read : Option Spec → FileRead
file_read s = (contract_of s).traits.reads

abbrev pub OfFile : FileRead → (PartSpec → Type 0) → Type 0
OfFile NoFile P = ⊥
OfFile (PartFile part) P = P part
OfFile (PartsFile list) P = P list

-- the part or list file of a spec
abbrev pub OfPart : Option Spec → (PartSpec → Type 0) → Type 0
OfPart s P = OfFile (file_read s) P

-- What a lawful box of the spec, whose reader tells these files, may let its graph grow by. It is
-- said of a box that faults later too.
abbrev pub MayGrow : Option Spec → Option Files → Option GrowthForm → Type 0
MayGrow s files None = ⊤
MayGrow s files (Some g) = (contract_of s).traits.grows files g
