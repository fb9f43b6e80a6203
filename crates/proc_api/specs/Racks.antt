-- Racks of blank boxes, in order.
use Rattle.std.specs.Prelude.{◌++◌, ◌<◌, ◌∷◌, ◌≡◌}
use Rattle.proc_api.specs.Prelude.{Bool, Kind, List, None, Option, Some, count_by, length, nat_eq, slice_index_or, take, true, ℕ}
use Rattle.proc_api.specs.Boxes.{BoxPicture, no_box}
use Rattle.proc_api.specs.KindRows.{kind_place}

abbrev pub same_kind : Kind → Kind → Bool
same_kind a b = nat_eq (kind_place a) (kind_place b)

abbrev pub is_of : Kind → BoxPicture → Bool
is_of k p = same_kind p.kind k

-- the first box of the kind is taken out; none is exactly where there is none
pub record TakesOut (k : Kind) (before after : List BoxPicture) (taken : BoxPicture) : Type 0 where
  pub front : List BoxPicture
  pub back : List BoxPicture
  pub before_is : before ≡ front ++ taken ∷ back
  pub after_is : after ≡ front ++ back
  pub of_kind : is_of k taken ≡ true
  pub first : count_by (is_of k) front ≡ 0

pub record TakesNothing (k : Kind) (before after : List BoxPicture) : Type 0 where
  pub same : after ≡ before
  pub none_there : count_by (is_of k) before ≡ 0

abbrev pub TakesFirst : Kind → List BoxPicture → List BoxPicture → Option BoxPicture → Type 0
TakesFirst k before after None = TakesNothing k before after
TakesFirst k before after (Some b) = TakesOut k before after b

-- the place of the first box of the kind
pub record IsPlaceOf (k : Kind) (boxes : List BoxPicture) (i : ℕ) : Type 0 where
  pub in_range : i < length boxes
  pub of_kind : is_of k (slice_index_or boxes i no_box) ≡ true
  pub first : count_by (is_of k) (take i boxes) ≡ 0

abbrev pub IsFirstPlace : Kind → List BoxPicture → Option ℕ → Type 0
IsFirstPlace k boxes None = count_by (is_of k) boxes ≡ 0
IsFirstPlace k boxes (Some i) = IsPlaceOf k boxes i
