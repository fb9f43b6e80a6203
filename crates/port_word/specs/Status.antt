-- What a processor's answer says of its ports, by their flags.
use Rattle.std.specs.Prelude.{◌<◌, ◌≡◌}
use Rattle.port_word.specs.Prelude.{false, true, ℕ}
use Rattle.port_word.specs.Pictures.{Picture, input_at, output_at, in_count, out_count, is_in_finished, is_out_finished}

-- some input is needed, empty and not finished
pub record WaitsForData (p : Picture) : Type 0 where
  pub input : ℕ
  pub in_range : input < in_count p
  pub needed : (input_at p input).flags.needed ≡ true
  pub empty : (input_at p input).flags.has_data ≡ false
  pub unfinished : is_in_finished (input_at p input).flags ≡ false

-- some output isn't finished, and no unfinished output is needed and empty
pub record WaitsForRoom (p : Picture) : Type 0 where
  pub output : ℕ
  pub in_range : output < out_count p
  pub unfinished : is_out_finished (output_at p output) ≡ false
  pub full : (o : ℕ) → o < out_count p → is_out_finished (output_at p o) ≡ false
      → (output_at p o).needed ≡ true → (output_at p o).has_data ≡ true

-- each input is finished or closed, and each output is finished
pub record IsAllFinished (p : Picture) : Type 0 where
  pub inputs : (i : ℕ) → i < in_count p → is_in_finished (input_at p i).flags ≡ true
  pub outputs : (o : ℕ) → o < out_count p → is_out_finished (output_at p o) ≡ true
