-- What is taken from a rack for a list of kinds, and what is left.
use Rattle.std.specs.Prelude.{◌≤◌, cond, List, [], ◌∷◌, count_by}
use Rattle.proc_api.specs.Prelude.{Kind}
use Rattle.proc_api.specs.Names.{BoxPicture, no_box, is_of, same_kind}

-- the first box of the kind
abbrev pub first_box_of : Kind → List BoxPicture → BoxPicture
first_box_of k [] = no_box
first_box_of k (p ∷ boxes) = cond (is_of k p) p (first_box_of k boxes)

-- the others, in order
abbrev pub without_first_box : Kind → List BoxPicture → List BoxPicture
without_first_box k [] = []
without_first_box k (p ∷ boxes) = cond (is_of k p) boxes (p ∷ without_first_box k boxes)

-- the boxes that are taken, the first of each kind in turn
abbrev pub taken_for : List Kind → List BoxPicture → List BoxPicture
taken_for [] boxes = []
taken_for (k ∷ kinds) boxes = first_box_of k boxes ∷ taken_for kinds (without_first_box k boxes)

-- the boxes that are left, in order
abbrev pub left_after : List Kind → List BoxPicture → List BoxPicture
left_after [] boxes = boxes
left_after (k ∷ kinds) boxes = left_after kinds (without_first_box k boxes)

-- of each kind there are as many boxes as are asked for
abbrev pub HasStock : List Kind → List BoxPicture → Type 0
HasStock kinds boxes = (k : Kind) → count_by (λ j. same_kind j k) kinds ≤ count_by (is_of k) boxes
