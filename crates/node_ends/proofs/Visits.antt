-- What the cell of a node says between two visits.
use Rattle.node_ends.proofs.Imports.{AtHome, BoxPicture, Identity, IsBorn, IsUnborn, NodeCell, NodeStatus, None, StoredAs, false, is_waiting, refl, true, ◌≡◌, ◌≢◌, subst}
use Rattle.exec_laws.specs.declared.edges.DueCall.TheVariants as call
use Rattle.exec_laws.specs.declared.edges.NodeStatus.TheVariants as node
use Rattle.exec_laws.proofs.Nodes.{not-blank}
use Rattle.node_cells.specs.Cells.{CellHolds}
use Rattle.node_cells.specs.Stored.{AwaitsBirth, IsStored}

module _ {P : Type 0} (seen : P → BoxPicture) (t : Identity) (c : NodeCell P) where
  -- where nothing more is due of a born node, the cell is at home
  pub at-rest-home : IsStored seen t c → (IsUnborn c → ⊥) → is_waiting c.mark.state ≡ false
      → AtHome seen t c
  at-rest-home h born rest = by c.mark.state h born rest
    where
      by : (s : NodeStatus) → StoredAs seen t s c → s ≢ node.Unborn → is_waiting s ≡ false
          → AtHome seen t c
      by node.Resting h born rest = h
      by node.Over h born rest = h
      by node.Due h born rest = absurd (let z : true ≡ false = rest in cc)
      by (node.AtWork k) h born rest = absurd (let z : true ≡ false = rest in cc)
      by node.Unborn h born rest = absurd (born refl)

  -- between two visits the law of a born node's cell holds
  pub stored-cell : IsStored seen t c → (IsUnborn c → ⊥) → CellHolds seen t c
  stored-cell h born = by c.mark.state born h
    where
      by : (k : NodeStatus) → k ≢ node.Unborn → StoredAs seen t k c → CellHolds seen t c
      by node.Unborn born h = absurd (born refl)
      by node.Due born h = h.cell
      by node.Resting born h = h.cell
      by (node.AtWork call.Work) born h = absurd h
      by (node.AtWork call.Schedule) born h = h.0.cell
      by (node.AtWork call.Expand) born h = h.0.cell
      by node.Over born h = h.cell

  -- a node is unborn exactly where its box is blank
  pub is-loaded : IsStored seen t c → (IsUnborn c → ⊥) → IsBorn (seen c.processor)
  is-loaded h born = (stored-cell h born).node.box.running.loaded

  pub blank-unborn : IsStored seen t c → (seen c.processor).spec ≡ None → IsUnborn c
  blank-unborn h none = by c.mark.state refl
    where
      loaded : (IsUnborn c → ⊥) → IsUnborn c
      loaded born = absurd (not-blank (seen c.processor).spec (is-loaded h born) none)

      by : (k : NodeStatus) → c.mark.state ≡ k → IsUnborn c
      by node.Unborn e = e
      by node.Due e = loaded (λ u. let z : node.Due ≡ node.Unborn = rw e at u in cc)
      by node.Resting e = loaded (λ u. let z : node.Resting ≡ node.Unborn = rw e at u in cc)
      by (node.AtWork k) e = loaded (λ u. let z : node.AtWork k ≡ node.Unborn = rw e at u in cc)
      by node.Over e = loaded (λ u. let z : node.Over ≡ node.Unborn = rw e at u in cc)

  pub unborn-blank : IsStored seen t c → IsUnborn c → (seen c.processor).spec ≡ None
  unborn-blank h unborn =
      let kept : AwaitsBirth seen t c = subst (λ z. StoredAs seen t z c) unborn h in kept.blank

-- nothing more is due of the node
abbrev pub RestsOn : {P : Type 0} → NodeCell P → Type 0
RestsOn c = is_waiting c.mark.state ≡ false
