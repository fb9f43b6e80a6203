-- A node that has seen its ports is prepared.
use Rattle.exec_laws.proofs.Imports.{arith, FollowsKept, BoxHolds, BoxPicture, CellPicture, EdgeState, Flags, HasFinished, HasPort, PictureHolds, Input, IsTrue, Lists, MarkHolds, Picture, Port, Some, NodeTurns, ViewHolds, [], all_port_flags, ap, as-kept-noted, changed-by-both, difference-calls, follows-noted, get_or-eq_default, in_count, inl, input_after, input_at, kept_flags, kept_input-of, kept_inputs-of, kept_output-of, kept_outputs-of, out_count, output_at, port_flags, position-still, pushed_at, pushes_to, refl, rules, state_after, sym, with_pulled, with_pushed, ℕ, ◌∙◌, ◌≡◌, ◌≤◌}
use Rattle.exec_laws.proofs.Ports.{Lies, changed-inputs, changed-outputs, full-unpushed, lies-after, past-unpushed}
use Rattle.exec_laws.proofs.Sides.{QuietEnd}
use Rattle.proc_api.specs.declared.status.Status.TheVariants as status

-- ---- what the answer says of the node

kept-noted : (q : BoxPicture) (w : Picture) → q.notes.view ≡ Some (all_port_flags w) → (p : Port)
    → HasPort w p → kept_flags q p ≡ port_flags w p
kept-noted q w e p lt = grind (arith, kept_input-of, kept_output-of)

past : (v w : Picture) (ins : Lists) (i : ℕ) → in_count v ≤ i → ins i ≡ []
    → with_pulled v w ins i ≡ []
unfolding in_count input_at
past v w ins i h1 h2 = search (rules, get_or-eq_default)

-- ---- the node

-- a node with m inputs and k outputs
module _ (m k : ℕ) (c d : CellPicture) (t : NodeTurns c d) (quiet : c.view.actions ≡ [])
    (pulled pushed : Lists) (was : BoxHolds m k c.box pulled pushed)
    (seen : ViewHolds m k c.view) where
  abbrev ins : Lists
  ins = with_pulled c.view t.left pulled

  abbrev outs : Lists
  outs = with_pushed c.view t.left pushed

  pub explained : PictureHolds (λ i. (input_at c.view i).flags) (λ i. (input_at c.view i).chunk)
      (λ o. output_at c.view o) d.view
  explained = difference-calls c.view d.view seen.sound quiet
      (changed-by-both c.view t.left d.view t.prepares.changed t.leaves.changed)

  ins-left : in_count t.left ≡ m
  ins-left = changed-inputs c.view t.left t.prepares.changed ∙ seen.ins

  outs-left : out_count t.left ≡ k
  outs-left = changed-outputs c.view t.left t.prepares.changed ∙ seen.outs

  lies : (i : ℕ) (e : EdgeState) → (input_at c.view i).flags ≡ e.flags → QuietEnd (Input i) c e
      → Lies (input_at c.view i).chunk e.chunk (input_after i d.view.actions e.flags)
      (input_at d.view i).chunk
  lies i e knows end =
      rw (explained.explains.input_chunks i, ← knows)
      (lies-after (input_at c.view i).chunk e.chunk i d.view.actions _ _
      (explained.explains.inputs_allow i) record {
        there = ap (λ (f : Flags). f.has_data) knows ∙ end.data_there;
        one = end.one_chunk;
        held = seen.sound.held i;
        left = inl refl;
      })

  -- what it pushed is what its actions push
  pub pushed-by-actions : (o : ℕ) → pushed_at c.view t.left o ≡ pushes_to o d.view.actions
  pushed-by-actions o = search (rules, full-unpushed, explained)

  was-lawful : IsTrue d.box.lawful → IsTrue c.box.lawful
  was-lawful l = sym t.prepares.stays.same.lawful ∙ l

  pub turned-view : ViewHolds m k d.view
  turned-view = search (rules, explained, changed-inputs, ins-left, changed-outputs, outs-left)

  ruleset box_laws = (as-kept-noted, ins-left, outs-left, was-lawful, position-still)

  ruleset chunk_laws = (past, pushed-by-actions, past-unpushed, turned-view, explained)

  pub turned-box : BoxHolds m k d.box ins outs
  turned-box = search (rules, box_laws, chunk_laws)

  -- what the box left, the executor leaves as it is, unless an unlawful box has finished
  left-so : (t.answer ≡ status.Finished → IsTrue d.box.lawful) → d.view ≡ t.left
  left-so so = t.leaves.same (λ e. rw e at (t.prepares.lawful (was-lawful (so e))).law)

  has-finished : IsTrue d.box.lawful → t.answer ≡ status.Finished
      → HasFinished m k d.box
  has-finished l e =
      let all = rw e at (t.prepares.lawful (was-lawful l)).law in
      let view = t.prepares.notes.view in
      let ins = kept_inputs-of d.box t.left view in
      let outs = kept_outputs-of d.box t.left view in
      record {
        ins = ins ∙ ins-left;
        outs = outs ∙ outs-left;
        inputs_finished = λ i lt. let l = rw ins at lt in
            rw (kept_input-of d.box t.left view i l) (all.inputs i l);
        outputs_finished = λ o lt. let l = rw outs at lt in
            rw (kept_output-of d.box t.left view o l) (all.outputs o l);
      }

  -- what it left is what its box keeps
  pub turned-kept : (t.answer ≡ status.Finished → IsTrue d.box.lawful) → FollowsKept d.box d.view
  turned-kept so = rw (left-so so) (follows-noted d.box t.left t.prepares.notes.view)

  pub turned-mark : MarkHolds (state_after t.answer) (Some t.answer) m k d.box d.view
  turned-mark = grind (arith, left-so, was-lawful, has-finished, kept-noted)
