-- What a processor pulled and pushed: the list of chunks of each port, and what one call adds to
-- it.
use Rattle.std.specs.Prelude.{◌++◌, ◌+◌, ◌-◌, ◌==◌, ◌^◌, ◌∷◌}
use Rattle.proc_api.specs.Prelude.{Action, Close, Finish, List, None, Option, Picture, Pull, Push, Row, Some, Table, Unwant, Want, [], cond, flat_map, input_at, length, min, output_at, suc, zero, ℕ}

-- the chunks of each port, in order
abbrev pub Lists : Type 0
Lists = ℕ → List Table

abbrev pub no_lists : Lists
no_lists i = []

-- the rows of chunks, in order
abbrev pub chunk_rows : List Table → List Row
chunk_rows chunks = flat_map (λ (t : Table). t.rows) chunks

-- the chunk that lay there before and doesn't lie there any more
abbrev pub taken_out : Option Table → Option Table → List Table
taken_out None after = []
taken_out (Some c) None = c ∷ []
taken_out (Some c) (Some d) = []

-- what was pulled from an input between two pictures of a view
abbrev pub pulled_at : Picture → Picture → ℕ → List Table
pulled_at before after i = taken_out (input_at before i).chunk (input_at after i).chunk

-- the chunks that a list of actions pushes to an output
unfoldable pub pushes_to : ℕ → List Action → List Table
pushes_to o [] = []
pushes_to o (Push j chunk ∷ actions) =
    cond (o == j) (chunk ∷ pushes_to o actions) (pushes_to o actions)
pushes_to o (Want j ∷ actions) = pushes_to o actions
pushes_to o (Unwant j ∷ actions) = pushes_to o actions
pushes_to o (Pull j ∷ actions) = pushes_to o actions
pushes_to o (Close j ∷ actions) = pushes_to o actions
pushes_to o (Finish j ∷ actions) = pushes_to o actions

-- What was pushed to an output between two pictures of a view. A push that is among the actions of
-- the first shows as data there.
abbrev pub pushed_at : Picture → Picture → ℕ → List Table
pushed_at before after o = cond (output_at before o).has_data [] (pushes_to o after.actions)

-- the lists with what was pulled, and with what was pushed, between two pictures of a view
abbrev pub with_pulled : Picture → Picture → Lists → Lists
with_pulled before after ins i = ins i ++ pulled_at before after i

abbrev pub with_pushed : Picture → Picture → Lists → Lists
with_pushed before after outs o = outs o ++ pushed_at before after o

-- the number of rows of the first n lists
unfoldable pub total_rows : ℕ → Lists → ℕ
total_rows zero lists = 0
total_rows (suc n) lists = total_rows n lists + length (chunk_rows (lists n))

-- the number of rows that were pulled between two pictures of a view
abbrev pub rows_pulled : Picture → Picture → ℕ
rows_pulled before after = total_rows 32 (pulled_at before after)

-- the last value of a count
abbrev pub last_count : ℕ
last_count = 2 ^ 64 - 1

-- a count after it rose by n; it stands still at its last value
abbrev pub raised : ℕ → ℕ → ℕ
raised count n = min (count + n) last_count

-- the rows of the first n lists, one list after another
unfoldable pub all_rows : ℕ → Lists → List Row
all_rows zero lists = []
all_rows (suc n) lists = all_rows n lists ++ chunk_rows (lists n)
