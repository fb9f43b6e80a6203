-- A run of nodes that were laid down, with a collector behind them, at one moment and at its end.
use Rattle.plan_laws.proofs.Imports.{All-cons, All-nil, BoxPicture, DraftNode, Files, Flow, HasEnded, IsDraftGraph, List, Types, [], arith, collector, every-append, forms, length, no_draft, refl, sources_of_files, stream_pulled_at, stream_pushed_at, subst, sym, with_nodes, ap, get_or, ℕ, ◌++◌, ◌+◌, ◌<◌, ◌∷◌, ◌≡◌, ◌≤◌, IsKnown, LawfulSnapshot, in_stream, length-map, box_at, true}
use Rattle.plan_laws.proofs.meaning.Answers.{Collected, collector_gathers}
use Rattle.plan_laws.proofs.graph.Fitting.{FitsBlock, block-append, fits, joint-fit}
use Rattle.plan_laws.proofs.meaning.Same.{after-same, fit-same}
use Rattle.plan_laws.proofs.graph.GraphLaws.{lists-are-graphs}
use Rattle.plan_laws.proofs.meaning.Typing.{typed-then}
use Rattle.plan_laws.proofs.ends.Answers.{ListRun, list-run}
use Rattle.plan_laws.proofs.ends.KnownKinds.{known-nodes}
use Rattle.plan_laws.proofs.ends.LaidPlans.{Laid, no_ends, one_end}
use Rattle.plan_laws.proofs.ends.TypedPlans.{collector-typed}

-- At one moment of a run of the nodes' graph by lawful boxes the collector has a front of a flow
-- that the nodes make.
pub record LaidRun (files : Files) (body : List DraftNode) (rank : ℕ) (P : Flow → Type 0)
    (nodes : List DraftNode) (boxes : List BoxPicture) (h : LawfulSnapshot files nodes boxes)
    (last : ℕ) : Type 0
  where
    pub run : ListRun files (body ++ collector rank ∷ []) nodes boxes h last
    pub collected : Collected (sources_of_files files) body (stream_pulled_at boxes h.lists.pulled)
        (stream_pulled_at boxes h.lists.pulled (record { node = last; port = 0 }))
    pub made : P collected.flow

-- At its end it has the whole of it.
pub record LaidEnded (files : Files) (body : List DraftNode) (rank : ℕ) (P : Flow → Type 0)
    (nodes : List DraftNode) (boxes : List BoxPicture) (h : HasEnded files nodes boxes) (last : ℕ) :
    Type 0
  where
    pub laid : LaidRun files body rank P nodes boxes h.at_end last
    pub done : (in_stream (box_at boxes last) (h.at_end.lists.pulled last) 0).done ≡ true

module _ (files : Files) (body : List DraftNode) (rank end : ℕ) (types : Types)
    (P : Flow → Type 0) (laid : Laid (sources_of_files files) body no_ends (one_end end types P))
    (lower : end < rank) (nodes : List DraftNode)
    (e : forms nodes ≡ forms (body ++ collector rank ∷ [])) where
  abbrev steps : List DraftNode
  steps = body ++ collector rank ∷ []

  steps-fit : FitsBlock steps [] []
  steps-fit = block-append laid.fit
      (joint-fit (collector rank).spec rank 1 0 (end ∷ []) refl
      (All-cons (λ r. r < rank) end [] lower (All-nil (λ r. r < rank))) (omega arith) (omega arith))

  -- copies of the nodes are a graph
  pub laid-graph : length nodes ≤ 256 → length (with_nodes nodes no_draft).wires ≤ 1024
      → IsDraftGraph nodes
  laid-graph few few_wires = grind (arith, lists-are-graphs, fit-same, steps-fit, after-same)

  pub laid-run : (boxes : List BoxPicture) (h : LawfulSnapshot files nodes boxes) (last : ℕ)
      → IsDraftGraph nodes → length (body ++ collector rank ∷ []) ≡ last + 1
      → LaidRun files body rank P nodes boxes h last
  laid-run boxes h last g count =
      let known = every-append IsKnown body (collector rank ∷ []) laid.known
      (((refl, refl), tt), tt) in
      let run = list-run files body rank nodes boxes h last g (fits steps steps-fit.fit).fit e
      (typed-then laid.typed (collector-typed rank types)) (known-nodes nodes steps e known) count
      in
      let c = collector_gathers (sources_of_files files) body rank
      (stream_pulled_at boxes h.lists.pulled) (stream_pushed_at boxes h.lists.pushed)
      (record { rank = end; block = laid.fit }) run.run last count in
      let out = (laid.makes.run [] (c.flow ∷ []) refl c.means).0 in
      record {
        run = run;
        collected = c;
        made = subst P (sym (ap (λ l. get_or l 0 c.flow) out.are)) out.has;
      }

  pub laid-ended : (boxes : List BoxPicture) (h : HasEnded files nodes boxes) (last : ℕ)
      → IsDraftGraph nodes → length (body ++ collector rank ∷ []) ≡ last + 1
      → LaidEnded files body rank P nodes boxes h last
  laid-ended boxes h last g count = grind (arith, length-map, laid-run boxes h.at_end last g count)
