-- How a graph has grown: new nodes took unborn ones of a reserve, and new wires follow the graph's.
use Rattle.chunk_data.specs.Places.{AreOnce}
use Rattle.exec_laws.specs.Prelude.{Blank, BoxPicture, GrowthFlaw, GrowthForm, IsBlank, MayGrow, Reserve, Spec, SpecForm, Wire, expression, holds_node, no_reserve, spec_form}
use Rattle.exec_laws.specs.Growths.{Left, form_kind, growth_flaw, has_wrong_end, new_wires, places_for}
use Rattle.exec_laws.specs.Runs.{IsBorn, box_at}
use Rattle.std.specs.List.{AllByRecursion, list_any}
use Rattle.std.specs.Prelude.{Bool, IsTrue, List, None, Option, Some, [], cond, false, filter, flat_map, is_some, length, map, slice_index_or, slice_set, suc, sum_by, true, zero, ℕ, ⊤, ◌++◌, ◌+◌, ◌-◌, ◌<◌, ◌==◌, ◌||◌, ◌∷◌, ◌≡◌, ◌≢◌}

-- a growth of a node, and the nodes that its new nodes became, in order
pub record Birth : Type 0 where
  pub expander : ℕ
  pub growth : GrowthForm
  pub places : List ℕ

-- a wire for each edge, in order
abbrev pub born_wires : Birth → List Wire
born_wires b = new_wires b.expander b.places b.growth.edges

abbrev pub grown_wires : List Wire → List Birth → List Wire
grown_wires wires births = wires ++ flat_map born_wires births

-- the ranks, with those of the new nodes at their places
abbrev pub set_ranks : List ℕ → (places new : List ℕ) → List ℕ
set_ranks ranks [] new = ranks
set_ranks ranks (p ∷ places) [] = ranks
set_ranks ranks (p ∷ places) (r ∷ new) = set_ranks (slice_set ranks p r) places new

abbrev pub grown_ranks : List ℕ → List Birth → List ℕ
grown_ranks ranks [] = ranks
grown_ranks ranks (b ∷ births) = grown_ranks (set_ranks ranks b.places b.growth.ranks) births

-- ---- the nodes that new nodes became

abbrev pub all_places : List Birth → List ℕ
all_places births = flat_map (λ (b : Birth). b.places) births

-- whether a new node became this one
abbrev pub is_place : List Birth → ℕ → Bool
is_place births n = list_any (λ (k : ℕ). k == n) (all_places births)

-- ---- what is left of a node's reserve

-- the reserve of a node, without nodes and edges where it has none
abbrev pub reserve_of : List Reserve → ℕ → Reserve
reserve_of [] n = no_reserve
reserve_of (r ∷ rs) n = cond (r.node == n) r (reserve_of rs n)

-- the unborn ones of so many nodes that the births didn't take, in order
abbrev pub blanks_of : List BoxPicture → List Birth → (first count : ℕ) → List Blank
blanks_of boxes births first zero = []
blanks_of boxes births first (suc k) =
    let b : BoxPicture = box_at boxes (first + k) in
    blanks_of boxes births first k
    ++ cond (is_place births (first + k) || is_some b.spec) []
    (record { node = first + k; kind = b.kind } ∷ [])

abbrev pub births_of : ℕ → List Birth → List Birth
births_of n births = filter (λ (b : Birth). b.expander == n) births

-- how many edges the growths of the node have
abbrev pub wired_by : ℕ → List Birth → ℕ
wired_by n births = sum_by (λ (b : Birth). length b.growth.edges) (births_of n births)

abbrev pub left_of : List Reserve → List BoxPicture → List Birth → ℕ → Left
left_of reserves boxes births n =
    let r : Reserve = reserve_of reserves n in
    record {
      blanks = blanks_of boxes [] r.first_node r.nodes;
      edges = r.edges - wired_by n births;
    }

-- ---- from the boxes before to those after

abbrev pub form_at : List SpecForm → ℕ → SpecForm
form_at forms k = slice_index_or forms k (expression [])

abbrev pub HasForm : Option Spec → SpecForm → Type 0
HasForm None f = ⊥
HasForm (Some s) f = spec_form s ≡ f

-- A growth, whose edges join new nodes and its own, took so many unborn nodes of its node's
-- reserve, and each is loaded with what it names. A lawful box grows as its spec and its files let
-- it.
pub record IsBirth (reserves : List Reserve) (before after : List BoxPicture)
    (b : Birth) : Type 0 where
  pub as_many : length b.places ≡ length b.growth.specs
  pub ends : list_any (has_wrong_end (length b.growth.specs)) b.growth.edges ≡ false
  pub reserved : (k : ℕ) → k < length b.places
      → holds_node (slice_index_or b.places k 0) (reserve_of reserves b.expander) ≡ true
  pub unborn : (k : ℕ) → k < length b.places → IsBlank (box_at before (slice_index_or b.places k 0))
  pub born : (k : ℕ) → k < length b.places
      → HasForm (box_at after (slice_index_or b.places k 0)).spec (form_at b.growth.specs k)
  pub grown : IsBorn (box_at after b.expander)
  pub may_grow : let p : BoxPicture = box_at after b.expander in
      IsTrue p.lawful → MayGrow p.spec p.files (Some b.growth)

-- each new node took the first blank of its kind that was left, in order of the births after these
abbrev pub TakeBlanks : List Reserve → List BoxPicture → (earlier births : List Birth) → Type 0
TakeBlanks reserves before earlier [] = ⊤
TakeBlanks reserves before earlier (b ∷ births) =
    let r : Reserve = reserve_of reserves b.expander in
    ((past : ℕ) × (b.places ≡ places_for (map form_kind b.growth.specs)
    (blanks_of before earlier r.first_node r.nodes) past))
    × TakeBlanks reserves before (earlier ++ b ∷ []) births

abbrev pub growth_list : Option GrowthForm → List GrowthForm
growth_list None = []
growth_list (Some g) = g ∷ []

-- the growths that a loaded box keeps: the last one, if any
abbrev pub kept_growths : BoxPicture → List GrowthForm
kept_growths p = cond (is_some p.spec) (growth_list p.growth) []

abbrev pub growths_of : ℕ → List Birth → List GrowthForm
growths_of n births = map (λ (b : Birth). b.growth) (births_of n births)

-- Growths in order, each of a node with a reserve. A lawful box of which a growth is among them
-- keeps no other: it grows once.
pub record AreBirths (reserves : List Reserve) (before after : List BoxPicture)
    (births : List Birth) : Type 0 where
  pub each : AllByRecursion (IsBirth reserves before after) births
  pub take : TakeBlanks reserves before [] births
  pub once : AreOnce (all_places births)
  pub stay_blank : (n : ℕ) → IsBlank (box_at before n) → is_place births n ≡ false
      → IsBlank (box_at after n)
  pub grew : (n : ℕ) → IsTrue (box_at after n).lawful → growths_of n births ≢ []
      → kept_growths (box_at after n) ≡ kept_growths (box_at before n) ++ growths_of n births

-- Each growth that a lawful box keeps is among the births. Where a run was stopped, a lawful box
-- may have let the graph grow by what hadn't been born yet.
abbrev pub AreAllBorn : (before after : List BoxPicture) → List Birth → Type 0
AreAllBorn before after births = (n : ℕ) → IsTrue (box_at after n).lawful
    → kept_growths (box_at after n) ≡ kept_growths (box_at before n) ++ growths_of n births

-- ---- a growth that ends the run

-- The last growth that the node's box keeps has that flaw over the graph before it: the one that
-- the births made of the wires and ranks at the start. A lawful box may give it.
pub record IsBadGrowth (ranks : List ℕ) (wires : List Wire) (reserves : List Reserve)
    (births : List Birth) (boxes : List BoxPicture) (node : ℕ) (f : GrowthFlaw) : Type 0 where
  pub in_range : node < length boxes
  pub growth : GrowthForm
  pub kept : (box_at boxes node).growth ≡ Some growth
  pub may_grow : let p : BoxPicture = box_at boxes node in
      IsTrue p.lawful → MayGrow p.spec p.files (Some growth)
  pub flawed : growth_flaw (grown_ranks ranks births) (grown_wires wires births)
      (left_of reserves boxes births node) node growth ≡ Some f
