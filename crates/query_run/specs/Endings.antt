-- How a run ends: its status, and the line that tells of it.
use Rattle.std.specs.Prelude.{◌⊎◌, ℕ, zero, suc, List, [], ◌∷◌, ◌++◌, codes, decimal, Option, Result, OnOk, OnErr}
use Rattle.query_run.specs.Prelude.{Answered, BadField, Ending, Failed, Failure, GrewBy, GrewByPrefix, LinePiece, PartName, PlanFailure, Refusal, Refused, WriteFailed, kind_name}
use Rattle.query_model.specs.declared.places.BadField.TheVariants as field
use Rattle.query_model.specs.declared.query.Refusal.TheVariants as refuse
use Rattle.sql_text.specs.declared.limits.ParseRefusal.TheVariants as parse
use Rattle.query_run.specs.declared.ending.Refused.TheVariants as refused
use Rattle.proc_api.specs.declared.status.WorkFault.TheVariants as fault
use Rattle.query_run.specs.declared.ending.PlanFailure.TheVariants as plan
use Rattle.query_run.specs.declared.ending.Failure.TheVariants as failure
use Rattle.query_run.specs.declared.telling.LinePiece.TheVariants as piece

-- ---- statuses

-- the status of what is refused, and of that for which memory ran out
abbrev pub refused_status : Refused → ℕ
refused_status (refused.Text parse.Memory) = 7
refused_status (refused.Text _) = 2
refused_status (refused.Query refuse.Memory) = 7
refused_status (refused.Query _) = 2

abbrev pub plan_status : PlanFailure → ℕ
plan_status (plan.Paths name count) = 6
plan_status (plan.Stock s) = 6
plan_status (plan.Part name (fault.Bad place)) = 3
plan_status (plan.Part name (fault.BadList line)) = 3
plan_status (plan.Part name fault.Read) = 4
plan_status (plan.Part name fault.Stalled) = 4
plan_status (plan.Part name fault.TooLong) = 6
plan_status (plan.Part name fault.Memory) = 7
plan_status (plan.Unlawful k) = 6
plan_status plan.Memory = 7

abbrev pub status_of : Ending → ℕ
status_of Answered = 0
status_of (Failed failure.Usage) = 1
status_of (Failed (failure.Refused r)) = refused_status r
status_of (Failed (failure.Plan f)) = plan_status f
status_of (Failed failure.Memory) = 7
status_of WriteFailed = 5

-- ---- lines

-- the refusal's name, and the name that it carries
abbrev pub query_line : Refusal → List ℕ
query_line (refuse.UnknownTable name) = codes "qrun: refused: UnknownTable " ++ name
query_line (refuse.UnknownColumn name) = codes "qrun: refused: UnknownColumn " ++ name
query_line (refuse.AmbiguousColumn name) = codes "qrun: refused: AmbiguousColumn " ++ name
query_line refuse.BadJoinKey = codes "qrun: refused: BadJoinKey"
query_line refuse.TypeMismatch = codes "qrun: refused: TypeMismatch"
query_line (refuse.NotGrouped name) = codes "qrun: refused: NotGrouped " ++ name
query_line (refuse.BadOrderKey name) = codes "qrun: refused: BadOrderKey " ++ name
query_line refuse.TooWide = codes "qrun: refused: TooWide"
query_line refuse.Memory = codes "qrun: out of memory"

-- a part of a table, or its list
abbrev pub place_words : ℕ → List ℕ
place_words zero = codes " list"
place_words (suc k) = codes " part " ++ decimal (suc k)

-- a table's part, as lines name it
abbrev pub part_words : PartName → List ℕ
part_words name = codes "table " ++ name.table ++ place_words name.part

-- what is wrong with a record, as lines say it
abbrev pub field_words : BadField → List ℕ
field_words (field.Column c) = codes " column " ++ decimal c
field_words (field.Fields n) = codes " fields " ++ decimal n

abbrev pub refused_line : Refused → List ℕ
refused_line (refused.Text parse.TooLong) = codes "qrun: refused: TooLong"
refused_line (refused.Text parse.Syntax) = codes "qrun: refused: Syntax"
refused_line (refused.Text parse.NumberTooLarge) = codes "qrun: refused: NumberTooLarge"
refused_line (refused.Text parse.TooComplex) = codes "qrun: refused: TooComplex"
refused_line (refused.Text parse.Memory) = codes "qrun: out of memory"
refused_line (refused.Query refusal) = query_line refusal

abbrev pub plan_line : PlanFailure → List ℕ
plan_line (plan.Paths name count) =
    codes "qrun: limit: paths of " ++ name ++ codes " are " ++ decimal count
    ++ codes ", at most 32"
plan_line (plan.Stock s) =
    codes "qrun: limit: boxes of kind " ++ kind_name s.kind ++ codes " needed " ++ decimal s.needed
    ++ codes ", rack has " ++ decimal s.there
plan_line (plan.Part name (fault.Bad place)) =
    codes "qrun: bad data: " ++ part_words name ++ codes " row " ++ decimal place.row
    ++ field_words place.field
plan_line (plan.Part name (fault.BadList line)) =
    codes "qrun: bad list: table " ++ name.table ++ codes " line " ++ decimal line
plan_line (plan.Part name fault.Read) = codes "qrun: read fault: " ++ part_words name
plan_line (plan.Part name fault.Stalled) = codes "qrun: stalled: " ++ part_words name
plan_line (plan.Part name fault.TooLong) =
    codes "qrun: limit: bytes of " ++ part_words name ++ codes ", at most 1073741824"
plan_line (plan.Part name fault.Memory) = codes "qrun: out of memory"
plan_line (plan.Unlawful k) = codes "qrun: limit: unlawful box of kind " ++ kind_name k
plan_line plan.Memory = codes "qrun: out of memory"

abbrev pub failure_line : Failure → List ℕ
failure_line failure.Usage =
    codes "qrun: usage: qrun --query QUERY [--tables TABLES] [--threads N] [--chunk N] [--header]"
failure_line (failure.Refused r) = refused_line r
failure_line (failure.Plan f) = plan_line f
failure_line failure.Memory = codes "qrun: out of memory"

-- the line with LF behind it; none for an answer
abbrev pub line_of : Ending → List ℕ
line_of Answered = []
line_of (Failed f) = failure_line f ++ 10 ∷ []
line_of WriteFailed = codes "qrun: write fault" ++ 10 ∷ []

-- the bytes of a piece of a line
abbrev pub piece_bytes : LinePiece → List ℕ
piece_bytes (piece.Text text) = text.now
piece_bytes (piece.Number n) = decimal n

-- exactly the line was written, or a prefix of it where the sink failed
abbrev pub TellsLine : List ℕ → (before after : Option (List ℕ)) → (failed : Type 0) → Type 0
TellsLine line before after failed =
    GrewBy before after line ⊎ (failed × GrewByPrefix before after line)

-- bytes were written whole, or a front of them where the sink failed
pub record Writes {A E : Type 0} (bytes : List ℕ) (before after : Option (List ℕ)) (failed : Type 0)
    (r : Result A E) : Type 0 where
  pub grew : OnOk r (GrewBy before after bytes)
  pub grew_by_prefix : OnErr r (GrewByPrefix before after bytes)
  pub fault : OnErr r failed
