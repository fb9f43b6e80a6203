use Rattle.exec_table.proofs.Imports.{NodeState, PortState, [], ap, flags_word, map, refl, wire_word, ◌++◌, ◌∙◌, ◌∷◌}
use Rattle.exec_table.proofs.Starting.{words-made}
use Rattle.exec_table.proofs.make.words.Goals as goal

pub returns : goal.returns
returns c = words-made c.args.core.now _ c.args.core.now.pending c.in_ok-nodes.nodes.items
    c.in_ok-wires.wires.items c.in_ok-flags.flags.items c.requires
    (c.in_ok-extend_from_slice-3.ensures.items ∙ (λ i. c.in_ok-extend_from_slice-2.ensures.items i
    ++ c.as_slice-6.ensures.value i) ∙ (λ i. (c.in_ok-extend_from_slice.ensures.items i
    ++ c.as_slice-5.ensures.value i) ++ c.in_ok-flags.flags.items)
    ∙ (λ i. (((c.in_ok-push.ensures.items
    ∙ ap (λ l. l ++ c.args.core.now.pending ∷ []) c.new-words.ensures.items) i ++
    c.as_slice-4.ensures.value i) ++ c.in_ok-wires.wires.items) ++ c.in_ok-flags.flags.items)) refl
    (c.in_ok-nodes.ensures ∙ ap (map (λ (nd : NodeState). nd.word)) c.as_slice.ensures)
    (c.in_ok-wires.ensures ∙ ap (map (λ (p : PortState). wire_word p.wire)) c.as_slice-2.ensures)
    (c.in_ok-flags.ensures ∙ ap (map (λ (p : PortState). flags_word p.flags)) c.as_slice-3.ensures)
