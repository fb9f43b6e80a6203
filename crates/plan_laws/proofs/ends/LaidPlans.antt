-- Lists of nodes that are laid down over open ends: they fit, are typed, are of known kinds, and
-- make a block. One behind another, behind other ends, and with higher ranks they are laid down
-- too.
use Rattle.plan_laws.proofs.Imports.{AllByRecursion, DraftNode, Flow, IsPlan, IsSmall, JoinsSources, List, RowsOfSources, SelectPlan, Shape, Types, [], and_parts, append-nil, arith, body_nodes, every-append, join_valid, joined_from, length, map, moved_nodes, nodes_raised, refl, select_steps, subst, sym, true, valid_from, ℕ, ◌++◌, ◌+◌, ◌<◌, ◌∷◌, ◌≡◌, IsKnown, shape_types, ⊤}
use Rattle.plan_laws.proofs.meaning.Blocks.{Block, Both, Alone, Spread, block-moved, block-raised, block-so, block-then, block-unpulled, none-behind}
use Rattle.plan_laws.proofs.graph.Fitting.{FitsBlock, block-append}
use Rattle.plan_laws.proofs.meaning.PlanTypes.{OneType}
use Rattle.plan_laws.proofs.meaning.Plans.{PlanMade, SelectMade, plan-block, select-block}
use Rattle.plan_laws.proofs.meaning.Typing.{Typed, typed-moved, typed-then}
use Rattle.plan_laws.proofs.meaning.Fitting.{body-level, select-level}
use Rattle.plan_laws.proofs.meaning.Frames.{every-moved}
use Rattle.plan_laws.proofs.graph.Frames.{fits-moved}
use Rattle.plan_laws.proofs.ends.KnownKinds.{any-joined, any-parts, body-known, select-known}
use Rattle.plan_laws.proofs.ends.TypedPlans.{IsTypedPlan, body-typed, read_types, select-typed}

-- What stands at open ends: the ranks of their nodes, the types of the chunks that pass, and what
-- is true of their flows.
pub record OpenEnds : Type 1 where
  pub ranks : List ℕ
  pub types : List Types
  pub flows : List Flow → Type 0

abbrev pub no_ends : OpenEnds
no_ends = record { ranks = []; types = []; flows = λ l. l ≡ [] }

-- one end, of whose flow P is true
abbrev pub one_end : ℕ → Types → (Flow → Type 0) → OpenEnds
one_end rank types P = record { ranks = rank ∷ []; types = types ∷ []; flows = Alone P }

-- ends of nodes with higher ranks
abbrev pub raised_ends : ℕ → OpenEnds → OpenEnds
raised_ends rank ends =
    record { ranks = map (λ r. rank + r) ends.ranks; types = ends.types; flows = ends.flows }

-- ends behind others
abbrev pub ends_behind : OpenEnds → OpenEnds → OpenEnds
ends_behind others ends = record {
  ranks = others.ranks ++ ends.ranks;
  types = others.types ++ ends.types;
  flows = Both others.flows ends.flows;
}

-- so many ends
pub record HasEnds (n : ℕ) (ends : OpenEnds) : Type 0 where
  pub ranks : length ends.ranks ≡ n
  pub types : length ends.types ≡ n
  pub flows : (l : List Flow) → ends.flows l → length l ≡ n

-- The nodes take these open ends, and leave those.
pub record Laid (parts : RowsOfSources) (nodes : List DraftNode) (from to : OpenEnds) : Type 0 where
  pub fit : FitsBlock nodes from.ranks to.ranks
  pub typed : Typed nodes from.types to.types
  pub known : AllByRecursion IsKnown nodes
  pub makes : Block parts ⊥ nodes from.flows to.flows (λ k. 0)

module _ {parts : RowsOfSources} where
  pub laid-then : {xs ys : List DraftNode} {a b c : OpenEnds} → Laid parts xs a b
      → Laid parts ys b c → Laid parts (xs ++ ys) a c
  laid-then {xs} {ys} f g = record {
    fit = block-append f.fit g.fit;
    typed = typed-then f.typed g.typed;
    known = every-append IsKnown xs ys f.known g.known;
    makes = block-unpulled (block-then f.makes g.makes);
  }

  pub laid-raised : {nodes : List DraftNode} {a b : OpenEnds} (rank : ℕ) → Laid parts nodes a b
      → Laid parts (nodes_raised rank nodes) (raised_ends rank a) (raised_ends rank b)
  laid-raised {nodes} rank f = record {
    fit = fits-moved 0 rank [] refl f.fit;
    typed = typed-moved 0 rank [] refl f.typed;
    known = every-moved IsKnown 0 rank (λ node h. h) nodes f.known;
    makes = block-raised rank f.makes;
  }

  -- nodes that take no ends, behind others and with higher ranks
  pub laid-behind : {nodes : List DraftNode} {b : OpenEnds} (n rank : ℕ) (others : OpenEnds)
      → HasEnds n others → Laid parts nodes no_ends b
      → Laid parts (moved_nodes n rank nodes) others (ends_behind others (raised_ends rank b))
  laid-behind {nodes} n rank others has f = record {
    fit = rw (append-nil others.ranks) at (fits-moved n rank others.ranks has.ranks f.fit);
    typed = rw (append-nil others.types) at (typed-moved n rank others.types has.types f.typed);
    known = every-moved IsKnown n rank (λ node h. h) nodes f.known;
    makes = block-so (none-behind others.flows) (λ l h. h) (λ k. refl)
        (block-moved n rank others.flows has.flows f.makes);
  }

-- ---- SELECT

-- A plan whose sources all have the types of FROM, and whose nodes fit them.
pub record IsQueryPlan (p : SelectPlan) : Type 0 where
  pub is : IsPlan p
  pub shape : Shape
  pub types : Types
  pub rows : ℕ
  pub typed : IsTypedPlan p shape types rows
  pub sources : AllByRecursion (λ s. OneType s [] types) p.sources

-- the types of its rows
abbrev pub made_types : (p : SelectPlan) → IsQueryPlan p → Types
made_types p q = shape_types q.shape (read_types q.types p.join)

-- All nodes of a SELECT but the collector.
pub select-laid : (parts : RowsOfSources) (p : SelectPlan) (q : IsQueryPlan p) (small : IsSmall p)
    → Laid parts (body_nodes p) no_ends
    (one_end (body-level p small).rank (made_types p q) (PlanMade parts p))
select-laid parts p q small = record {
  fit = (body-level p small).block;
  typed = body-typed p q.shape q.types q.rows q.typed q.sources;
  known = body-known (λ part. ⊤) (λ list. ⊤) p q.is (any-parts p.sources, any-joined p.join);
  makes = block-unpulled (plan-block parts p q.is);
}

-- What a SELECT makes of a flow of which P is true, in the place of FROM's table.
pub record SelectOver (parts : RowsOfSources) (p : SelectPlan) (P : Flow → Type 0) (flow : Flow) :
    Type 0
  where
    pub inner : Flow
    pub has : P inner
    pub made : SelectMade p (joined_from parts p.join inner.rows)
        (valid_from parts p.join inner.certain) (join_valid parts p.join) flow

select-over : (parts : RowsOfSources) (p : SelectPlan) (P : Flow → Type 0) → 0 < p.lanes
    → JoinsSources p.join
    → Block parts ⊥ (select_steps 1 p) (Alone P) (Alone (SelectOver parts p P)) (λ k. 0)
select-over parts p P some js = record {
  run = λ before after a m.
      let f : Flow = a.value in
      let spread : Spread 1 f.rows f.certain true (f ∷ []) = grind (arith, append-nil, and_parts) in
      let out = (select-block parts p 1 f.rows f.certain some js).run before after
      (subst (Spread 1 f.rows f.certain true) (sym a.are) spread) m in
      grind (arith, out.0);
  all_open = λ u. absurd u;
}

-- A SELECT over a sub-plan enters its steps with the sub-plan's own rows and mark.
pub nested-laid : (parts : RowsOfSources) (p : SelectPlan) (q : IsQueryPlan p) (small : IsSmall p)
    (sub : List DraftNode) (rank : ℕ) (P : Flow → Type 0)
    → Laid parts sub no_ends (one_end rank q.types P)
    → Laid parts (sub ++ nodes_raised rank (select_steps 1 p)) no_ends
    (one_end (rank + (select-level p small 1 0 (omega arith) (omega arith)).rank) (made_types p q)
    (SelectOver parts p P))
nested-laid parts p q small sub rank P f =
    let level = select-level p small 1 0 (omega arith) (omega arith) in
    let steps : Laid parts (select_steps 1 p) (one_end 0 q.types P)
    (one_end level.rank (made_types p q) (SelectOver parts p P)) = record {
      fit = level.block;
      typed = select-typed p q.shape q.types q.rows 1 q.typed;
      known = select-known (λ part. ⊤) (λ list. ⊤) 1 p q.is.some_lanes q.is.join
          (any-joined p.join);
      makes = select-over parts p P q.is.some_lanes q.is.join;
    } in
    let here : rank + 0 ≡ rank = omega arith in
    laid-then f (rw here at (laid-raised rank steps))
