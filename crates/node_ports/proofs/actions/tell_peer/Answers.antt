use Rattle.node_ports.proofs.Imports.{ap, inl, inr, price, ◌≡◌, ◌⊎◌}
use Rattle.exec_table.specs.Seats.{marked_of}
use Rattle.exec_table.specs.declared.types.Marked.{Marked}
use Rattle.exec_table.specs.declared.types.Marked.TheVariants.{AlreadyDue, Over}
use Rattle.node_ports.proofs.TellLaws.{told-charged, told-free}
use Rattle.node_ports.proofs.actions.tell_peer.Goals as goal

pub returns-in-Charged : goal.returns-in-Charged
returns-in-Charged c = told-charged c.requires c.token_in.ensures (marked_of c.mark.result)
    c.mark.ensures (ap (λ w. price (marked_of w)) c.in-Charged.is)

free : (w : Marked) → (w ≡ AlreadyDue) ⊎ (w ≡ Over) → price (marked_of w) ≡ 0
free w h = elim h [
  | inl e ↦ ap (λ w. price (marked_of w)) e
  | inr e ↦ ap (λ w. price (marked_of w)) e
]

pub returns-in-AlreadyDue : goal.returns-in-AlreadyDue
returns-in-AlreadyDue c = told-free c.requires c.token_in.ensures (marked_of c.mark.result)
    c.mark.ensures (free c.mark.result c.in-AlreadyDue.is) c.token_out.ensures
