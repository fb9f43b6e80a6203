-- Scripts of fakes: which calls of a reader fail or find nothing yet.
use Rattle.std.specs.Prelude.{ℕ, ◌+◌, ◌-◌, ◌^◌, ◌<◌, ◌≤◌, ◌==◌, nat_lt, if◌then◌else◌, List, [], ◌∷◌, length, take, drop, Option, Some, None, ⊤}
use Rattle.outside_io.specs.declared.entries.Fake.{Fake}
use Rattle.outside_io.specs.declared.entries.FakeKind.{FakeKind}

-- what the script says of a call
unfoldable pub fake_at : List Fake → ℕ → Option FakeKind
fake_at [] call = None
fake_at (f ∷ fs) call = if f.call == call then Some f.kind else fake_at fs call

-- what the script says of the call after so many calls; their count stands at its last value, and
-- no call is a fake from there on
abbrev pub next_fake : List Fake → ℕ → Option FakeKind
next_fake script calls = if nat_lt calls (2 ^ 64 - 1) then fake_at script (calls + 1) else None

-- the calls' numbers rise, from above n
abbrev pub RisesFrom : ℕ → List Fake → Type 0
RisesFrom n [] = ⊤
RisesFrom n (f ∷ fs) = (n < f.call) × RisesFrom f.call fs

-- the calls' numbers rise
abbrev pub IsRising : List Fake → Type 0
IsRising [] = ⊤
IsRising (f ∷ fs) = RisesFrom f.call fs

-- no call's number is above n
abbrev pub IsPassed : ℕ → List Fake → Type 0
IsPassed n [] = ⊤
IsPassed n (f ∷ fs) = (f.call ≤ n) × IsPassed n fs

-- so many calls were made, and the first `next` fakes are those that they have passed
pub record IsPlacedAt (fakes : List Fake) (next calls : ℕ) : Type 0 where
  pub within : next ≤ length fakes
  pub passed : IsPassed calls (take next fakes)
  pub coming : RisesFrom calls (drop next fakes)
