-- A node with a token begins: where its word was 0 the token is spent.
use Rattle.node_cells.proofs.Imports.{Identity, is_over_stage, is_unborn_stage, stage_at, StepAnswer, Bool, BoxPicture, IsSeatOf, MakesStep, MakesUpdated, NodeCell, CellNodeHolds, NodeMark, NodePorts, NodeSeat, NodeView, None, SeatState, ap, arith, cases_Bool, cases_lt, cond, eq-eqb, eqb-true, false, inl, inr, is_set, ne_eqb, node_at, nothing, ports_picture, refl, spent, state-made, state_taken, subst, sym, true, updated, view, ℕ, ◌-◌, ◌/◌, ◌%◌, ◌^◌, ◌∙◌, ◌≡◌, ◌≢◌, ◌≤◌, end_of_view}
use Rattle.exec_table.proofs.Ends.{number-made, stage-made}
use Rattle.node_cells.proofs.RestLaws.{due-node, quiet-node, taken-node}
use Rattle.node_cells.proofs.UpdatedLaws.{high-bits, low-bits}
use Rattle.node_ports.specs.Ports.{IsMerged}
use Rattle.node_cells.specs.Turns.{AtHome, IsDue, MayBegin, TakesBack, is_named_by}
use Rattle.exec_table.specs.Seats.{updated_of}
use Rattle.exec_table.specs.declared.types.Updated.{Updated}
use Rattle.exec_table.specs.declared.types.Stage.{Stage}
use Rattle.exec_table.specs.declared.types.Stage.TheVariants.{Begun}
use Rattle.core_laws.specs.Laws.{is_node_bit}
use Rattle.core_laws.specs.declared.types.Step.TheVariants as step
use Rattle.exec_laws.specs.declared.edges.NodeStatus.TheVariants as node
use Rattle.std.specs.Int.{bit_at}
use Rattle.std.proofs.lemmas.Nat.Bits.{bit_at-lt, bit_at-zero, same_from_bits}
use Rattle.node_cells.proofs.StayLaws.{wires-still}

-- ---- a word without bits

named-high : (i : ℕ) → 48 ≤ i → is_node_bit i ≡ true → i ≢ 60 → i ≢ 61 → i ≢ 62 → i ≢ 63 → ⊥
named-high i le n a b c d = grind (arith, ne_eqb)

unset : (w i : ℕ) → is_set w i ≡ false → bit_at w i ≡ 0
unset w i h = grind (arith, bit_at-lt, eq-eqb)

pub zero-word : (w : ℕ) → w % 2 ^ 32 ≡ 0 → w / 2 ^ 32 % 2 ^ 16 ≡ 0 → is_set w 60 ≡ false
    → is_set w 61 ≡ false → is_set w 62 ≡ false → is_set w 63 ≡ false
    → ((k : ℕ) → is_set w k ≡ true → is_node_bit k ≡ true) → w ≡ 0
zero-word w low high first unborn held over named = same_from_bits w 0 (λ i. bit i ∙ sym
    (bit_at-zero i))
  where
    at : (i k : ℕ) → is_set w k ≡ false → i ≡ k → bit_at w i ≡ 0
    at i k h e = unset w i (ap (is_set w) e ∙ h)

    far : (i : ℕ) → 48 ≤ i → is_set w i ≡ true → ⊥
    far i le s = grind (arith, named-high, named)

    bit : (i : ℕ) → bit_at w i ≡ 0
    bit i = elim (cases_lt i 32) [
      | inl lt ↦ sym (low-bits 32 w i lt) ∙ (ap (λ v. bit_at v i) low ∙ bit_at-zero i)
      | inr le ↦ elim (cases_lt i 48) [
        | inl lt ↦ ap (bit_at w) (omega (arith, le)) ∙ (sym (high-bits w (i - 32) (omega (
          arith,
          le,
          lt,
        ))) ∙ (ap (λ v. bit_at v (i - 32)) high ∙ bit_at-zero (i - 32)))
        | inr past ↦ elim (cases_Bool (is_set w i)) [
          | inl s ↦ absurd (far i past s)
          | inr u ↦ unset w i u
        ]
      ]
    ]

-- ---- begin

abbrev answer-word : StepAnswer → ℕ
answer-word (updated w) = w
answer-word a = 0

pub record IsFreeNode (s : NodeSeat) : Type 0 where
  pub free : (view s).state.held ≡ false
  pub born : is_unborn_stage (view s).stage ≡ false
  pub going : is_over_stage (view s).stage ≡ false

module _ {t : Identity} {old new : NodeSeat} (o : IsSeatOf t old) (f : IsFreeNode old) (u : Updated)
    (m : MakesUpdated t old new step.Begin u) where
  abbrev n : ℕ
  n = (view old).number

  abbrev w : ℕ
  w = (node_at m.makes.before.core n).word

  word-is : w ≡ m.word
  word-is = ap answer-word m.makes.says

  stage-is : (g : Stage → Bool) → g (stage_at m.makes.before n) ≡ g (view old).stage
  stage-is g = ap (λ (v : NodeView). g v.stage) m.makes.was

  -- where no port is named the word was 0
  unnamed : is_named_by u ≡ false → w ≡ 0
  unnamed h = let h2 = sym (ap is_named_by (m.ports ∙ ap updated_of (sym word-is))) ∙ h in
      let p = unnamed-parts (updated_of w) h2 in
      let law = m.makes.holds.laws.nodes.each n in let g = m.makes.holds.stages n in
      zero-word w p.0 p.1 p.2 (g.unborn ∙ (stage-is is_unborn_stage ∙ f.born))
      (law.word.held ∙ (ap (λ (v : NodeView). v.state.held) m.makes.was ∙ f.free))
      (g.over ∙ (stage-is is_over_stage ∙ f.going)) law.word.bits
    where
      unnamed-parts : (u : Updated) → is_named_by u ≡ false
          → (u.inputs ≡ 0) × (u.outputs ≡ 0) × (u.first ≡ false)
      unnamed-parts u h = grind (arith, eqb-true)

  named : is_named_by u ≡ true → w ≢ 0
  named h e = grind (arith, word-is)

  state-begun : (view new).state ≡ state_taken (view old) m.word (spent m.word)
  state-begun = state-made o m.makes

  pub tokens-begun : (view old).state.tokens ≡ 1
      → (view new).state.tokens ≡ cond (is_named_by u) 1 0
  tokens-begun one = grind (arith, state-begun, word-is, cases_Bool, ne_eqb, named, unnamed)

  pub begin-stage : (view new).stage ≡ Begun
  begin-stage = stage-made o m.makes

-- the token is spent, or was taken back
record IsBack (old new : NodeSeat) : Type 0 where
  state : (view new).state ≡ record (view old).state { tokens = 0 }
  stage : (view new).stage ≡ (view old).stage
  number : (view new).number ≡ (view old).number
  wires : (e : ℕ) → (end_of_view (view new) e).wire ≡ (end_of_view (view old) e).wire

module _ {t : Identity} {old new : NodeSeat} (due : Bool) (o : IsSeatOf t old)
    (w : TakesBack t due old new) (one : (view old).state.tokens ≡ cond due 1 0) where
  back : IsBack old new
  back = grind (arith, cases_Bool, state-made, stage-made, number-made, wires-still)

  back-node : (b : BoxPicture) (m : NodeMark) (p : NodePorts)
      → CellNodeHolds b m (ports_picture p old) → CellNodeHolds b m (ports_picture p new)
  back-node b m p h = elim (cases_Bool due) [
    | inl q ↦ quiet-node b m p h o (w.took q) refl (λ _. refl) refl
    | inr q ↦ subst (λ s. CellNodeHolds b m (ports_picture p s)) (sym (w.left q)) h
  ]

module _ {P : Type 0} (seen : P → BoxPicture) (t : Identity) (old : NodeCell P)
    (h : MayBegin seen t old) (a b : NodeSeat)
    (i : MakesStep t old.seat a step.TokenIn None nothing)
    (u : Updated) (m : MakesUpdated t a b step.Begin u) where
  free : IsFreeNode a
  free = record {
    free = ap (λ (z : SeatState). z.held) (state-made h.cell.seat i) ∙ h.free;
    born = ap is_unborn_stage (stage-made h.cell.seat i) ∙ h.born;
    going = ap is_over_stage (stage-made h.cell.seat i) ∙ h.going;
  }

  tokens-in : (view a).state.tokens ≡ 1
  tokens-in = grind (arith, state-made h.cell.seat i)

  tokens-out : (view b).state.tokens ≡ cond (is_named_by u) 1 0
  tokens-out = tokens-begun i.seat free u m tokens-in

  pub begun-tokens : is_named_by u ≡ true → (view b).state.tokens ≡ 1
  begun-tokens q = tokens-out ∙ ap (λ b. cond b 1 0) q

  module _ (c : NodeSeat) (w : TakesBack t (is_named_by u) b c) where
    backed : IsBack b c
    backed = back (is_named_by u) m.makes.seat w tokens-out

    pub begun-number : (view c).number ≡ (view old.seat).number
    begun-number = backed.number ∙ (number-made i.seat m.makes ∙ number-made h.cell.seat i)

    pub begun-wires : (e : ℕ) → (end_of_view (view c) e).wire ≡ (end_of_view (view old.seat) e).wire
    begun-wires e = backed.wires e ∙ (wires-still i.seat m.makes (λ _. refl) e
        ∙ wires-still h.cell.seat i (λ _. refl) e)

    begun-node : (v : Updated) → IsMerged old.ports.updated u v → CellNodeHolds (seen old.processor)
        old.mark (ports_picture (record old.ports { updated = v }) c)
    begun-node v merged = let p = seen old.processor in
        back-node (is_named_by u) m.makes.seat w tokens-out p old.mark
        (record old.ports { updated = v })
        (taken-node p old.mark old.ports
        (quiet-node p old.mark old.ports h.cell.node h.cell.seat i refl (λ _. refl) refl)
        i.seat m refl (λ _. refl) refl v merged)

    pub begun-due : (v : Updated) → IsMerged old.ports.updated u v → (k : NodeMark)
        → k.state ≡ node.Due
        → IsDue seen t (record old { seat = c; mark = k; ports = record old.ports { updated = v } })
    begun-due v merged k due = record {
      holds = record {
        cell = record {
          seat = w.seat;
          node = due-node (seen old.processor) old.mark k
              (ports_picture (record old.ports { updated = v }) c) (begun-node v merged) h.mark due;
        };
        turn = record {
          held = ap (λ (z : SeatState). z.held) backed.state
              ∙ ap (λ (z : SeatState). z.held) (state-made i.seat m.makes);
          owes = ap (λ (z : SeatState). z.owes) backed.state
              ∙ (ap (λ (z : SeatState). z.owes) (state-made i.seat m.makes)
              ∙ (ap (λ (z : SeatState). z.owes) (state-made h.cell.seat i) ∙ h.owes));
          tokens = ap (λ (z : SeatState). z.tokens) backed.state;
        };
        stage = backed.stage ∙ begin-stage i.seat free u m;
      };
      quiet = h.quiet;
      due = due;
    }

-- a node at rest may begin
pub home-begins : {P : Type 0} (seen : P → BoxPicture) (t : Identity) (c : NodeCell P)
    → AtHome seen t c → c.mark.state ≡ node.Resting → MayBegin seen t c
home-begins seen t c h rests = grind (arith, free)
