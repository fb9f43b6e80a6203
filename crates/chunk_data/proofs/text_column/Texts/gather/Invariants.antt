use Rattle.chunk_data.proofs.Imports.{[], map, slice_index_or, take, ◌≡◌}
use Rattle.chunk_data.proofs.text_column.Texts.gather.Given as goal

abbrev pub invariant-loop-place : goal.invariant-loop-place
invariant-loop-place l =
    l.texts ≡ map (λ p. slice_index_or l.self p []) (take l.place-index l.places)
