-- Cells at home where nothing is pending: the run is done, or it is stuck at an unlawful box.
use Rattle.node_cells.proofs.Imports.{Board, CellPicture, EdgeState, List, Running, Wire, [], ap, arith, is_waiting, length, length-map, subst, sym, ℕ, ◌∙◌, ◌≡◌}
use Rattle.node_cells.proofs.SettledLaws.{settled-law}
use Rattle.node_cells.specs.Ends.{AreSettled, EndLaw, EndsWell, WholeCell, edge_of_board, no_whole, picture_of, pictures, whole_at}
use Rattle.exec_laws.specs.Names.{IsNothingDue, cell_at}
use Rattle.exec_laws.proofs.Ends.{run-done, run-stuck}
use Rattle.std.proofs.Math.ListN.{get_or-map as map-at}

module _ (wires : List Wire) (table_edge : ℕ → ℕ) (b : Board) (cells : List WholeCell)
    (s : AreSettled (length cells) wires table_edge b (whole_at cells)) where
  abbrev edges : ℕ → EdgeState
  edges e = edge_of_board wires table_edge b (whole_at cells) e

  picture-at : (n : ℕ) → picture_of (whole_at cells n) ≡ cell_at (pictures cells) n
  picture-at n = sym (map-at picture_of cells n no_whole)

  count : length (pictures cells) ≡ length cells
  count = length-map cells picture_of

  pub running : Running (length (pictures cells)) wires (cell_at (pictures cells))
      edges
  running = subst (λ (z : ℕ × (ℕ → CellPicture)). Running z.0 wires z.1 edges)
      (λ j. (sym count j, (λ n. picture-at n j)))
      (settled-law (length cells) wires table_edge b (whole_at cells) s).running

  pub quiet : (m : ℕ) → (cell_at (pictures cells) m).view.actions ≡ []
  quiet m = ap (λ (c : CellPicture). c.view.actions) (sym (picture-at m)) ∙ s.still m

  pub due : IsNothingDue (pictures cells)
  due n lt = ap (λ (c : CellPicture). is_waiting c.mark.state) (sym (picture-at n))
      ∙ (settled-law (length cells) wires table_edge b (whole_at cells) s).due n
      (omega (arith, lt, count))

  pub ends-well : EndsWell wires cells
  ends-well = search (arith, run-done, running, quiet, due, run-stuck)

pub end-law : EndLaw
end-law wires table_edge b cells s = ends-well wires table_edge b cells s
