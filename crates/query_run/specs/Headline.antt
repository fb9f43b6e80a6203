-- What a run means: the text that an answer of its query has over the files' rows, and every other
-- end.
use Rattle.std.specs.Prelude.{◌<◌, ◌≡◌, ◌≢◌, ◌⊎◌, ℕ, Bool, IfErr, IfOk, List, Result, Vec, [], flat_map, length, Option, Some, None, ⊤}
use Rattle.std.specs.List.{All}
use Rattle.std.specs.declared.alloc.Global.{Global}
use Rattle.query_run.specs.Prelude.{AllListsValid, AllPartsValid, Answered, BoxPicture, Checked, Command, Ending, Failed, Files, GrewBy, GrewByPrefix, Grouped, HasEnoughRows, IsAnswer, IsBlank, IsLongFile, IsValidUsed, Kind, PartName, Plain, Row, Shape, TableDecl, Untouched, UsedPart, WriteFailed, answer_text, command_of, database, flow, join_use, output_rows, parts_used, used_parts}
use Rattle.query_model.specs.declared.processor_spec.Kind.TheVariants as kind
use Rattle.proc_api.specs.declared.status.WorkFault.TheVariants as fault
use Rattle.query_run.specs.Endings.{status_of, line_of, TellsLine}
use Rattle.query_run.specs.Racks.{boxes_for, IsHonest, IsRunnable, LacksBoxes, NamesFewPaths, OverFiles, PulledMore, RanPlan}
use Rattle.query_run.specs.Commands.{IsAccepted, IsCheckedCommand, OfCommand, OfQuery}
use Rattle.query_run.specs.Causes.{FailsAtPart, FailsFor, TakesBoxes, UsesList}

-- ---- answers

-- the query has no groups
abbrev pub IsPlain : Shape → Type 0
IsPlain (Plain items) = ⊤
IsPlain (Grouped g) = ⊥

-- The query has LIMIT, no grouping and no order, each part of its other tables is valid, and the
-- rows before the first bad record of each part are enough for the limit.
pub record IsCutShort (header : Bool) (files : Files) (tables : List TableDecl)
    (q : Checked) : Type 0
  where
    pub enough_rows : HasEnoughRows q.limit (output_rows q (database header files tables))
    pub ungrouped : IsPlain q.shape
    pub unordered : q.order ≡ []
    pub joined :
        All (IsValidUsed header files) (flat_map (parts_used files tables) (join_use q.join))

-- Each part that the query uses is there and valid, or a limit cut the query short. Then its answer
-- is over the rows before the first bad record of each part, of which a missing part has none.
abbrev pub IsCertain : Bool → Files → List TableDecl → Checked → Type 0
IsCertain header files tables q =
    AllPartsValid header files tables q ⊎ IsCutShort header files tables q

-- The text is that of an answer: a query is read from the command's text, not refused and checked
-- so, its answer is certain, each list that it uses is valid, and the rows are one answer of it
-- over the files.
pub record IsTextOfAnswer (command : Command) (files : Files) (text : List ℕ) : Type 0 where
  pub checked : Checked
  pub is_checked : IsCheckedCommand command checked
  pub certain : IsCertain command.header files command.tables checked
  pub lists : AllListsValid files command.tables checked
  pub rows : List Row
  pub is_answer : IsAnswer checked (database command.header files command.tables) rows
  pub is : text ≡ answer_text command.header checked.names rows

-- Without LIMIT the boxes of each kind that was taken pulled as many rows as the kind's flow says
-- of the answer. The collector always pulled the answer's rows.
pub record PullsItsFlow (command : Command) (files : Files) (text : List ℕ)
    (before after : List BoxPicture) : Type 0 where
  pub answer : IsTextOfAnswer command files text
  pub pulled : answer.checked.limit ≡ None → (k : Kind) → 0 < boxes_for command answer.checked k
      → PulledMore k before after
      (flow k answer.checked (database command.header files command.tables) answer.rows)
  pub collected : PulledMore kind.Collect before after (Some (length answer.rows))

-- The plan of a command's checked query ran, and made a text.
pub record MakesText (command : Command) (q : Checked) (text : List ℕ)
    (before after : List BoxPicture) : Type 0 where
  pub runnable : IsRunnable command q before
  pub ran : RanPlan command q before after
  pub answers : OverFiles before (λ files. PullsItsFlow command files text before after)

-- What is made of a rack's boxes comes to a text, or fails for its cause, and leaves the boxes
-- blank.
pub record MakesOrFails {E : Type 0} (Makes : List ℕ → (before after : List BoxPicture) → Type 0)
    (Fails : E → (before after : List BoxPicture) → Type 0) (r : Result (Vec ℕ Global) E)
    (before after : List BoxPicture) : Type 0 where
  pub blank : All IsBlank after
  pub text : IfOk r (λ text. Makes text.items before after)
  pub cause : IfErr r (λ f. Fails f before after)

-- ---- the theorem

-- What an end says of the output and of the rack, and why it came.
abbrev pub EndsFor : Ending → List (List ℕ) → (before after : List BoxPicture)
    → (out₀ out : Option (List ℕ)) → (write : Type 0) → Type 0
EndsFor Answered words before after out₀ out write =
    (text : List ℕ) × OfQuery words (λ c q. MakesText c q text before after) × GrewBy out₀ out text
EndsFor (Failed f) words before after out₀ out write =
    FailsFor f words before after × Untouched out₀ out
EndsFor WriteFailed words before after out₀ out write =
    (text : List ℕ) × OfQuery words (λ c q. MakesText c q text before after)
    × GrewByPrefix out₀ out text × write

-- How a run ended: its status and its line are those of one end, which came for its cause.
pub record Ends (words : List (List ℕ)) (before after : List BoxPicture) (status : ℕ)
    (out₀ out : Option (List ℕ)) (write : Type 0) (err₀ err : Option (List ℕ))
    (tell : Type 0) : Type 0 where
  pub ending : Ending
  pub status_is : status ≡ status_of ending
  pub why : EndsFor ending words before after out₀ out write
  pub line : TellsLine (line_of ending) err₀ err tell

-- ---- its corollaries

-- a run over lawful boxes wrote exactly the text of one answer over the files that they tell
abbrev pub WritesAnswer : List (List ℕ) → (before : List BoxPicture) → (out₀ out : Option (List ℕ))
    → Type 0
WritesAnswer words before out₀ out = OverFiles before (λ files.
    (text : List ℕ) × OfCommand words (λ c. IsTextOfAnswer c files text) × GrewBy out₀ out text)

-- and the boxes pulled as many rows as the kinds' flow says of that answer
abbrev pub PulledRows : List (List ℕ) → (before after : List BoxPicture)
    → (out₀ out : Option (List ℕ)) → Type 0
PulledRows words before after out₀ out = OverFiles before (λ files.
    (text : List ℕ) × OfCommand words (λ c. PullsItsFlow c files text before after)
    × GrewBy out₀ out text)

-- the status is one of these
abbrev pub IsEither : (m n status : ℕ) → Type 0
IsEither m n status = (status ≡ m) ⊎ (status ≡ n)

-- words that mean no command
abbrev pub MeanNothing : List (List ℕ) → Type 0
MeanNothing words = command_of words ≡ None

-- words that mean a command whose text isn't accepted
abbrev pub AreRefused : List (List ℕ) → Type 0
AreRefused words = OfCommand words (λ c. IsAccepted c → ⊥)

-- words for whose query the rack has too few boxes
abbrev pub LackBoxes : List (List ℕ) → List BoxPicture → Type 0
LackBoxes words before = OfQuery words (λ c q. LacksBoxes (boxes_for c q) before)

-- words whose query uses a table that names more than 32 paths
abbrev pub NameManyPaths : List (List ℕ) → Type 0
NameManyPaths words = OfQuery words (λ c q. NamesFewPaths c q → ⊥)

-- A run that ended before it took a box: by usage, a refusal, too many paths, too few boxes or want
-- of memory.
abbrev pub EndsEarly : List (List ℕ) → List BoxPicture → (status : ℕ) → Type 0
EndsEarly words before status =
    IsEither 1 2 status ⊎ ((status ≡ 7) ⊎ (NameManyPaths words ⊎ LackBoxes words before))

-- the boxes of the plan were taken and given back, or the run ended early and left the rack as it
-- was
abbrev pub LeavesBoxes : List (List ℕ) → (before after : List BoxPicture) → (status : ℕ) → Type 0
LeavesBoxes words before after status =
    TakesBoxes words before after ⊎ ((after ≡ before) × EndsEarly words before status)

-- What a command needs to be answered: its text is accepted, no table of its query names too many
-- paths, and each part and list that it uses is there, valid and no longer than a part may be.
pub record IsAnswerable (files : Files) (c : Command) : Type 0 where
  pub accepted : IsAccepted c
  pub paths : (q : Checked) → IsCheckedCommand c q → NamesFewPaths c q
  pub valid : (q : Checked) → IsCheckedCommand c q → AllPartsValid c.header files c.tables q
  pub lists : (q : Checked) → IsCheckedCommand c q → AllListsValid files c.tables q
  pub within : (q : Checked) → IsCheckedCommand c q
      → All (λ (p : UsedPart). IsLongFile files p.path → ⊥) (used_parts files c.tables q)
  pub lists_within : (q : Checked) → IsCheckedCommand c q → (path : List ℕ) → UsesList c q path
      → IsLongFile files path → ⊥

-- the reader of a box that served a part failed, or stalled
abbrev pub ReaderFails : List (List ℕ) → (before after : List BoxPicture) → Type 0
ReaderFails words before after = OfQuery words (λ c q. (name : PartName)
    × (FailsAtPart name fault.Read c q before after
    ⊎ FailsAtPart name fault.Stalled c q before after))

-- over an honest rack such a command is answered, or memory ran out, unless a device failed
abbrev pub SucceedsUnless : List (List ℕ) → (before : List BoxPicture) → (failed : Type 0)
    → (status : ℕ) → Type 0
SucceedsUnless words before failed status = (files : Files) → IsHonest files before
    → OfCommand words (IsAnswerable files) → (failed → ⊥) → IsEither 0 7 status

-- ---- all that is proved of a run

-- `ends` is the theorem, and the others follow from it. An answered run over lawful boxes wrote
-- exactly
-- the text of an answer; any other end but a write fault wrote nothing.
pub record IsRun (words : List (List ℕ)) (before after : List BoxPicture) (status : ℕ)
    (out₀ out : Option (List ℕ)) (write : Type 0) (err₀ err : Option (List ℕ))
    (tell : Type 0) : Type 0 where
  pub ends : Ends words before after status out₀ out write err₀ err tell
  pub blank : All IsBlank after
  pub answered : status ≡ 0 → WritesAnswer words before out₀ out
  pub pulled : status ≡ 0 → PulledRows words before after out₀ out
  pub untouched : status ≢ 0 → status ≢ 5 → Untouched out₀ out
  pub usage : MeanNothing words → IsEither 1 7 status
  pub refused : AreRefused words → IsEither 2 7 status
  pub paths : NameManyPaths words → IsEither 6 7 status
  pub stock : LackBoxes words before → IsEither 6 7 status
  pub rack : LeavesBoxes words before after status
  pub succeeds : SucceedsUnless words before (ReaderFails words before after ⊎ write) status
