-- Racks of boxes, as a run finds them and as it leaves them.
use Rattle.std.specs.Prelude.{◌≡◌, ◌⊎◌, ℕ, ◌+◌, ◌<◌, ◌≤◌, cond, true, List, [], ◌∷◌, flat_map, map, count_by, Option, Some, None, IfSome}
use Rattle.std.specs.List.{All}
use Rattle.query_run.specs.Prelude.{BoxPicture, Checked, Command, DraftNode, Files, HasFullCount, IsSourceKind, Kind, PlanReserve, RunsPlan, SelectPlan, Shortage, Spec, first_crowded, forms, is_of, kind_place, kinds_taken, plan_nodes, query_boxes, reserves_from, select_plan, stock_of, used_tables}

-- ---- honest racks

abbrev pub HasStandardStock : List BoxPicture → Type 0
HasStandardStock boxes = (k : Kind) → stock_of k ≤ count_by (is_of k) boxes

-- each box is lawful, and every source tells these files
pub record AreLawfulOver (files : Files) (boxes : List BoxPicture) : Type 0 where
  pub lawful : All (λ (p : BoxPicture). p.lawful ≡ true) boxes
  pub told : All (λ (p : BoxPicture). IsSourceKind p.kind → p.files ≡ Some files) boxes

-- an honest rack has such boxes, and the standard stock
pub record IsHonest (files : Files) (boxes : List BoxPicture) : Type 0 where
  pub boxes_are : AreLawfulOver files boxes
  pub stock : HasStandardStock boxes

-- this is true of the files that the sources tell, where all boxes are lawful
abbrev pub OverFiles : List BoxPicture → (Files → Type 0) → Type 0
OverFiles boxes P = (files : Files) → AreLawfulOver files boxes → P files

-- ---- the boxes of a plan

-- the plan of a command's query, with as many lanes as threads
abbrev pub plan_of : Command → Checked → SelectPlan
plan_of c q = select_plan q c.tables c.threads c.chunk_rows c.header

-- what a list of nodes is loaded with, in order
abbrev pub specs_in : List DraftNode → List Spec
specs_in nodes = map (λ (n : DraftNode). n.spec) nodes

-- the kinds that are kept, in the order of the reserves
abbrev pub kinds_reserved : List PlanReserve → List Kind
kinds_reserved reserves = flat_map (λ (r : PlanReserve). r.kinds) reserves

-- the kinds of the boxes that nodes take, in order, and then of those that are kept for them
abbrev pub kinds_for : List DraftNode → List Kind
kinds_for nodes = kinds_taken (specs_in nodes) (kinds_reserved (reserves_from 0 nodes))

abbrev pub plan_kinds : Command → Checked → List Kind
plan_kinds c q = kinds_for (plan_nodes (plan_of c q))

-- how many boxes of a kind the plan needs
abbrev pub boxes_for : Command → Checked → Kind → ℕ
boxes_for c q k = query_boxes q c.tables c.threads k

-- of each kind the rack has as many boxes as are needed
abbrev pub HasBoxes : (needed : Kind → ℕ) → List BoxPicture → Type 0
HasBoxes needed boxes = (k : Kind) → needed k ≤ count_by (is_of k) boxes

-- of some kind it has fewer
pub record LacksBoxes (needed : Kind → ℕ) (boxes : List BoxPicture) : Type 0 where
  pub kind : Kind
  pub fewer : count_by (is_of kind) boxes < needed kind

-- of this kind it has fewer, and of no earlier kind
pub record IsShort (needed : Kind → ℕ) (boxes : List BoxPicture) (s : Shortage) : Type 0 where
  pub needed_is : s.needed ≡ needed s.kind
  pub there : s.there ≡ count_by (is_of s.kind) boxes
  pub fewer : s.there < s.needed
  pub first : (k : Kind) → kind_place k < kind_place s.kind → needed k ≤ count_by (is_of k) boxes

-- no table that the query uses names more than 32 paths
abbrev pub NamesFewPaths : Command → Checked → Type 0
NamesFewPaths c q = first_crowded c.tables (used_tables q) ≡ None

-- the plan of the query is within the limits of paths and of the rack's boxes
pub record IsRunnable (c : Command) (q : Checked) (before : List BoxPicture) : Type 0 where
  pub paths : NamesFewPaths c q
  pub boxes : HasBoxes (boxes_for c q) before

-- A run of copies of the nodes of a query's plan, with what is kept for them. It says which box of
-- the rack was taken for each node, how the run left that box, and how it was given back.
pub record RanPlan (c : Command) (q : Checked) (before after : List BoxPicture) : Type 0 where
  pub nodes : List DraftNode
  pub same : forms nodes ≡ forms (plan_nodes (plan_of c q))
  pub ended : List BoxPicture
  pub runs : RunsPlan (specs_in nodes) (kinds_reserved (reserves_from 0 nodes)) before after ended

-- ---- pulled rows

-- the rows that the boxes of a kind have pulled together
abbrev pub pulled_by_boxes : Kind → List BoxPicture → ℕ
pulled_by_boxes k [] = 0
pulled_by_boxes k (p ∷ boxes) = cond (is_of k p) p.pulled 0 + pulled_by_boxes k boxes

-- The boxes of a kind pulled so many rows more, where a number is said, unless one has a full
-- count.
abbrev pub PulledMore : Kind → (before after : List BoxPicture) → Option ℕ → Type 0
PulledMore k before after rows =
    IfSome rows (λ n. (pulled_by_boxes k after ≡ pulled_by_boxes k before + n)
    ⊎ HasFullCount k after)
