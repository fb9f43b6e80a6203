-- What calls make of a box, and of a list of boxes in order, over their pictures before and after.
use Rattle.std.specs.Prelude.{◌≡◌, ◌⊎◌, ℕ, ◌+◌, ◌<◌, ◌≤◌, ◌++◌, List, length, slice_index_or, Some}
use Rattle.proc_api.specs.Prelude.{Spec, kind_of}
use Rattle.proc_api.specs.Names.{BoxPicture, IsBlank, Loads, SameCounts, no_spec, raised}
use Rattle.exec_laws.specs.Names.{box_at}

unfoldable pub spec_at : List Spec → ℕ → Spec
spec_at specs n = slice_index_or specs n no_spec

-- ---- a box

-- the same box, with the same counts
pub record IsStill (p q : BoxPicture) : Type 0 where
  pub kind : q.kind ≡ p.kind
  pub lawful : q.lawful ≡ p.lawful
  pub files : q.files ≡ p.files
  pub counts : SameCounts p q

-- the same box, none of whose counts has fallen
pub record IsLater (p q : BoxPicture) : Type 0 where
  pub kind : q.kind ≡ p.kind
  pub lawful : q.lawful ≡ p.lawful
  pub files : q.files ≡ p.files
  pub faults : p.faults ≤ q.faults
  pub pendings : p.pendings ≤ q.pendings
  pub pulled : p.pulled ≤ q.pulled

-- the same box, later, and blank
pub record IsBlankAgain (p q : BoxPicture) : Type 0 where
  pub later : IsLater p q
  pub blank : IsBlank q

-- A blank box that was loaded with the spec and run, as the run left it: the same box, whose counts
-- since then are what they rose.
pub record RanWith (s : Spec) (p q : BoxPicture) : Type 0 where
  pub later : IsLater p q
  pub of_kind : kind_of s ≡ p.kind
  pub spec : q.spec ≡ Some s
  pub faults_since : raised p.faults q.notes.faults ≤ q.faults
  pub pendings_since : raised p.pendings q.notes.pendings ≤ q.pendings
  pub pulled : q.pulled ≡ p.pulled + q.notes.pulled

-- a blank box that was kept, as the run left it: as it was, or loaded when its node was born, and
-- run
abbrev pub RanKept : (p q : BoxPicture) → Type 0
RanKept p q = ((q ≡ p) × IsBlank q) ⊎ ((s : Spec) × RanWith s p q)

-- ---- boxes in order, where R says what was made of one

pub record EachBox (R : BoxPicture → BoxPicture → Type 0) (before after : List BoxPicture) : Type 0
  where
    pub count : length after ≡ length before
    pub each : (n : ℕ) → n < length before → R (box_at before n) (box_at after n)

-- the first k alone, each by its place
pub record FirstBoxes (k : ℕ) (R : ℕ → BoxPicture → BoxPicture → Type 0)
    (before after : List BoxPicture) : Type 0 where
  pub count : length after ≡ length before
  pub first : (n : ℕ) → n < k → R n (box_at before n) (box_at after n)
  pub others : (n : ℕ) → k ≤ n → box_at after n ≡ box_at before n

-- the first k boxes were loaded, each with its spec
abbrev pub LoadsFirst : ℕ → List Spec → (before after : List BoxPicture) → Type 0
LoadsFirst k specs before after = FirstBoxes k (λ n p q. Loads p (spec_at specs n) q) before after

-- they were put behind those that were there
pub record PutsBehind (R : BoxPicture → BoxPicture → Type 0) (taken before after : List BoxPicture)
    : Type 0 where
  pub given : List BoxPicture
  pub rack : after ≡ before ++ given
  pub boxes : EachBox R taken given

-- the first of these blank boxes were loaded with the specs, and all were run
pub record AreRun (specs : List Spec) (taken ended : List BoxPicture) : Type 0 where
  pub count : length ended ≡ length taken
  pub ran : (n : ℕ) → n < length specs → RanWith (spec_at specs n) (box_at taken n) (box_at ended n)
  pub ran_kept : (n : ℕ) → length specs ≤ n → n < length taken
      → RanKept (box_at taken n) (box_at ended n)

-- a run left boxes as R says, and then they kept what they are and their counts
pub record LeavesStill (R : List BoxPicture → Type 0) (after ended : List BoxPicture) : Type 0 where
  pub left : R ended
  pub still : EachBox IsStill ended after
