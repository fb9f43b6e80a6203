-- What a view says of a node at rest.
use Rattle.exec_laws.specs.Prelude.{Flags, Picture, input_at, is_in_finished, is_out_finished, out_count, output_at}
use Rattle.std.specs.Prelude.{Bool, false, not, ℕ, ◌&&◌, ◌<◌, ◌≡◌}

-- whether the input is needed, empty and not finished
abbrev pub is_wanting : Picture → ℕ → Bool
is_wanting v i =
    ((input_at v i).flags.needed && not (input_at v i).flags.has_data)
    && not (is_in_finished (input_at v i).flags)

-- whether the output is unfinished, needed and empty
abbrev pub has_room : Flags → Bool
has_room f = (not (is_out_finished f) && f.needed) && not f.has_data

pub record HasOpenOutput (v : Picture) : Type 0 where
  pub output : ℕ
  pub in_range : output < out_count v
  pub unfinished : is_out_finished (output_at v output) ≡ false

abbrev pub HasNoOpenOutput : Picture → Type 0
HasNoOpenOutput v = (o : ℕ) → o < out_count v → has_room (output_at v o) ≡ false
