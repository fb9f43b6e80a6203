-- What a join is loaded with and keeps.
use Rattle.join_proc.specs.Joins.{AreFit, IsIndexOf, rows_to_join}
use Rattle.join_proc.specs.declared.join_index.JoinIndex.{JoinIndex}
use Rattle.join_proc.specs.declared.joining.JoinPhase.{JoinPhase}
use Rattle.join_proc.specs.declared.left_rows.LeftRows.{LeftRows}
use Rattle.proc_api.specs.Names.{IsWorkOf, OwnState, idle_own}
use Rattle.proc_api.specs.Prelude.{JoinSpec, Row, Table}
use Rattle.proc_shell.proofs.Through.{shelled-of}
use Rattle.proc_shell.specs.Kernels.{IsShelled, KernelState, kernel_of, work_of}
use Rattle.proc_shell.specs.declared.kernel.Offer.{Offer}
use Rattle.std.proofs.Common.{ap, cond, eqb-true, inl, inr, refl, sym, ◌∙◌, ◌⊎◌}
use Rattle.std.specs.Prelude.{Bool, List, Some, [], false, length, true, ℕ, ◌<◌, ◌==◌, ◌∷◌, ◌≡◌}
use Rattle.query_model.specs.declared.processor_spec.Kind.TheVariants as kind
use Rattle.query_model.specs.declared.processor_spec.Spec.TheVariants as spec
use Rattle.proc_shell.specs.declared.kernel.Offer.TheVariants as offer
use Rattle.join_proc.specs.declared.joining.JoinPhase.TheVariants as phase

-- ---- the state

-- the rows that it can make, the right side, and whether its end was noted
pub record JoiningView : Type 0 where
  pub join : JoinSpec
  pub unmade : List Row
  pub gathered : List Table
  pub ended : Bool

abbrev pub join_own : JoiningView → OwnState
join_own k = record idle_own { unmade = k.unmade; gathered = k.gathered; ended = k.ended }

abbrev pub join_unmade : JoinSpec → JoinPhase → List Row
join_unmade join (phase.Joining x l) = rows_to_join join.pairs x.rows.rows l
join_unmade join p = []

abbrev pub gathered_in : JoinPhase → List Table
gathered_in (phase.Gathering t) = t ∷ []
gathered_in (phase.Ended t) = t ∷ []
gathered_in (phase.Joining x l) = x.rows ∷ []
gathered_in phase.Failed = []

abbrev pub ended_in : JoinPhase → Bool
ended_in (phase.Gathering t) = false
ended_in p = true

abbrev pub view_of : JoinSpec → JoinPhase → JoiningView
view_of join p = record {
  join = join;
  unmade = join_unmade join p;
  gathered = gathered_in p;
  ended = ended_in p;
}

-- the right side with its index, and a left chunk
pub record IsJoining (join : JoinSpec) (x : JoinIndex) (l : LeftRows) : Type 0 where
  pub right_types : x.rows.types ≡ join.right
  pub left_types : l.chunk.types ≡ join.left
  pub index : IsIndexOf join.pairs x
  pub fit : AreFit join.pairs x.rows.rows l

abbrev pub IsJoinPhase : JoinSpec → JoinPhase → Type 0
IsJoinPhase join (phase.Gathering t) = t.types ≡ join.right
IsJoinPhase join (phase.Ended t) = t.types ≡ join.right
IsJoinPhase join (phase.Joining x l) = IsJoining join x l
IsJoinPhase join phase.Failed = Unit {0}

-- the right side has ended, and nothing is made yet
abbrev pub gathered_right : Table → OwnState
gathered_right t = record idle_own { gathered = t ∷ []; ended = true }

abbrev pub joining_own : JoinSpec → JoinIndex → LeftRows → OwnState
joining_own join x l = join_own (view_of join (phase.Joining x l))

-- The right side comes first; then each side is open, while no rows are left to be made.
abbrev pub is_open : JoiningView → ℕ → Bool
is_open k i = cond k.ended (length k.unmade == 0) (i == 1)

-- the end of the right side is noted
abbrev pub with_end : JoiningView → JoiningView
with_end k = record k { ended = true }

-- what is offered by what can be made
abbrev pub IsNextOfJoin : JoiningView → Offer → Type 0
IsNextOfJoin k offer.Rows = 0 < length k.unmade
IsNextOfJoin k offer.Wants = k.unmade ≡ []
IsNextOfJoin k _ = ⊥

pub join_shelled : (join : JoinSpec) → IsShelled (spec.HashJoin join)
join_shelled join =
    shelled-of (spec.HashJoin join) 2 refl (record { ports = λ growth m n h. h })

abbrev pub join_state : JoiningView → KernelState
join_state k = kernel_of kind.HashJoin (spec.HashJoin k.join) (join_own k)

pub join_uses : (k : JoiningView) (i : ℕ) (unworked made : List Table)
    → ((i ≡ 0) × (unworked ≡ [])) ⊎ (is_open k i ≡ true)
    → IsWorkOf (Some (spec.HashJoin k.join)) (work_of (join_state k) i unworked made)
join_uses k i unworked made comes = record { idle = refl; right_first = λ f. go f comes }
  where
    none : (b : Bool) → unworked ≡ [] → cond b unworked [] ≡ []
    none true e = e
    none false e = refl

    go : k.ended ≡ false → ((i ≡ 0) × (unworked ≡ [])) ⊎ (is_open k i ≡ true)
        → cond (0 == i) unworked [] ≡ []
    go f (inl e) = none (0 == i) e.1
    go f (inr e) = ap (λ n. cond (0 == n) unworked []) (eqb-true i 1
        (sym (ap (λ b. cond b (length k.unmade == 0) (i == 1)) f) ∙ e))
