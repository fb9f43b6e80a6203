-- The types of the chunks that pass: what a kind keeps holds as long as each chunk that it pulled
-- fits.
use Rattle.std.specs.Prelude.{List, Some, [], flat_map, map, replicate, suc, ℕ, ⊤, ◌∷◌, ◌≡◌}
use Rattle.plan_laws.specs.Prelude.{AllByRecursion, FitsInput, Spec}
use Rattle.plan_laws.specs.declared.nodes.DraftNode.{DraftNode}
use Rattle.plan_laws.specs.declared.nodes.NodePort.{NodePort}
use Rattle.plan_laws.specs.Drafts.{given_by, ports_of, taken_by}
use Rattle.plan_laws.specs.Streams.{RowsOfSources, Stream}
use Rattle.plan_laws.specs.Roles.{Gives, IsAmong, MakesType, Types}

-- the chunks that pass have these types
abbrev pub HasTypes : Stream → Types → Type 0
HasTypes s types = AllByRecursion (λ t. t ≡ types) s.types

-- each chunk that was pulled fits, the first input being input i
abbrev pub FitFrom : Spec → ℕ → List Stream → Type 0
FitFrom s i [] = ⊤
FitFrom s i (x ∷ ins) = AllByRecursion (FitsInput (Some s) i) x.types × FitFrom s (suc i) ins

-- these types fit the inputs
abbrev pub TypesFit : Spec → ℕ → List Types → Type 0
TypesFit s i [] = ⊤
TypesFit s i (t ∷ types) = FitsInput (Some s) i t × TypesFit s (suc i) types

-- the types of the chunks that were pulled
abbrev pub pulled_types : List Stream → List Types
pulled_types ins = flat_map (λ (s : Stream). s.types) ins

-- a kind's promises, which hold as long as each chunk that it pulled fits
pub record GivesIf (parts : RowsOfSources) (s : Spec) (ins outs : List Stream) : Type 0 where
  pub gives : FitFrom s 0 ins → Gives parts s ins outs
  pub typed : FitFrom s 0 ins
      → AllByRecursion (λ (o : Stream). AllByRecursion (MakesType s (pulled_types ins)) o.types)
      outs

-- each node keeps its kind's promises; the first node is node n
abbrev pub EachGivesIf : RowsOfSources → ℕ → List DraftNode → (pulled pushed : NodePort → Stream)
    → Type 0
EachGivesIf parts n [] pulled pushed = ⊤
EachGivesIf parts n (node ∷ nodes) pulled pushed =
    GivesIf parts node.spec (map pulled (ports_of n 0 node.takes))
    (map pushed (ports_of n 0 node.gives))
    × EachGivesIf parts (suc n) nodes pulled pushed

-- The types that stand at the open ends fit the node, and each of its outputs has the types that it
-- makes of them.
pub record TypesNode (node : DraftNode) (before : List Types) : Type 0 where
  pub fit : TypesFit node.spec 0 (taken_by node before)
  pub made : Types
  pub makes : (t : Types) (ins : List Types) → AllByRecursion (IsAmong (taken_by node before)) ins
      → MakesType node.spec ins t → t ≡ made

-- the types fit each node in turn, and leave those
abbrev pub TypesTo : List DraftNode → List Types → List Types → Type 0
TypesTo [] before after = after ≡ before
TypesTo (node ∷ nodes) before after = (t : TypesNode node before)
    × TypesTo nodes (given_by node (replicate node.gives t.made) before) after
