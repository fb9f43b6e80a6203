-- What passed so far is the first of what passes where nobody closes an input.
use Rattle.plan_laws.proofs.Imports.{Bool, List, [], arith, length, subst, sym, true, ◌++◌, ◌<◌, ◌∙◌, ◌∷◌, ◌≡◌, AllByRecursion, AllZip, AllZip-long, DraftNode, KeyPair, Spec, and_from, and_parts, both_ways, given_by, length-map, list_all-append, or_cases, or_left, taken_by, AllInputsDone, IsNoLimit, IsOpenNode, Pulls, PlanRuns, RunsNode, Completes, IsFront, Flow, OneToOne, RowsOfSources, Stream, TwoToOne, all_done, any_done, flows_of, Gives, GivesJoined, MakesRows, is_certain, is_needed}
use Rattle.plan_laws.proofs.graph.Places.{run-split}
use Rattle.plan_laws.proofs.KindTable.{complete-kind}
use Rattle.plan_laws.proofs.meaning.KindLaws.{CompletesKind, done-rows}
use Rattle.plan_laws.proofs.meaning.Fronts.{pulled-front}
use Rattle.plan_laws.proofs.meaning.Zips.{zip-chain, zip-given, zip-taken}
use Rattle.query_model.specs.declared.processor_spec.Spec.TheVariants as spec

pub completes : (parts : RowsOfSources) (nodes : List DraftNode) (before after : List Stream)
    (flows : List Flow) (r : PlanRuns parts nodes before after) → AllZip IsFront before flows
    → Completes parts nodes flows before after r
completes parts [] before after flows r z = search (arith)
completes parts (node ∷ nodes) before after flows r z =
    let step : RunsNode parts node before r.0 = r.1 in
    let taken = zip-chain Pulls IsFront IsFront pulled-front step.ins (taken_by node before)
    (taken_by node flows) step.pulls (zip-taken IsFront node before flows z) in
    let made : List Flow = taken_by node flows in
    let certain : Bool = is_certain parts node.spec made in
    let needs : Bool = is_needed parts node.spec made in
    let k : CompletesKind (MakesRows parts node.spec) certain needs made step.outs =
    complete-kind parts node.spec step.ins step.outs (taken_by node flows) step.gives taken in
    let next : List Flow = flows_of certain needs k.lists in
    let fronts = zip-given IsFront node step.outs before next flows k.fronts z in
    let more = completes parts nodes r.0 after (given_by node next flows) r.2
    (subst (λ l. AllZip IsFront l (given_by node next flows)) (sym step.are) fronts) in
    record {
      flows = more.flows;
      means = grind (arith, length-map, AllZip-long);
      fronts = more.fronts;
      counted = grind (arith, done-rows);
    }

-- ---- where the ends are done and no node is a limit, all inputs are done

pub record BothDone (parts : RowsOfSources) (nodes : List DraftNode) (before after : List Stream)
    (r : PlanRuns parts nodes before after) : Type 0 where
  pub ends : all_done before ≡ true
  pub inputs : AllInputsDone parts nodes before after r

done-append : (xs ys : List Stream) → all_done xs ≡ true → all_done ys ≡ true
    → all_done (xs ++ ys) ≡ true
done-append xs ys h k = list_all-append (λ (s : Stream). s.done) xs ys ∙ and_from _ _ h k

done-parts : (xs ys : List Stream) → all_done (xs ++ ys) ≡ true
    → (all_done xs ≡ true) × (all_done ys ≡ true)
done-parts xs ys h = and_parts _ _ (sym (list_all-append (λ (s : Stream). s.done) xs ys) ∙ h)

any-of-all : (xs : List Stream) → 0 < length xs → all_done xs ≡ true → any_done xs ≡ true
any-of-all [] lt h = absurd (omega (arith, lt))
any-of-all (x ∷ xs) lt h = or_left x.done (any_done xs) (and_parts x.done (all_done xs) h).0

pulled-done : (ins ss : List Stream) → AllZip Pulls ins ss → all_done ins ≡ true
    → all_done ss ≡ true
pulled-done (i ∷ ins) (s ∷ ss) z h = grind (arith, and_parts, and_from, pulled-done ins ss z.1)
pulled-done ins ss z h = grind arith

one-done : (R : Stream → Stream → Type 0) → ((i o : Stream) → R i o → o.done ≡ true → i.done ≡ true)
    → (ins outs : List Stream) → OneToOne R ins outs → any_done outs ≡ true → all_done ins ≡ true
one-done R f ins outs r e = grind (arith, or_cases, and_from, both_ways)

join-done : (pairs : List KeyPair) (ins outs : List Stream) → TwoToOne (GivesJoined pairs) ins outs
    → any_done outs ≡ true → all_done ins ≡ true
join-done pairs ins outs q e = grind (arith, or_cases, and_from, both_ways)

inputs-done : (parts : RowsOfSources) (s : Spec) (ins outs : List Stream) → Gives parts s ins outs
    → IsNoLimit s → any_done outs ≡ true → all_done ins ≡ true
inputs-done parts spec.Resize ins outs g n e = g.inputs_done e
inputs-done parts s ins outs g n e = grind (arith, one-done, join-done, both_ways, or_cases)

pub all-inputs-done : (parts : RowsOfSources) (nodes : List DraftNode) (before after : List Stream)
    (r : PlanRuns parts nodes before after) → AllByRecursion IsOpenNode nodes → all_done after
    ≡ true → BothDone parts nodes before after r
all-inputs-done parts [] before after r open_nodes e = search (arith)
all-inputs-done parts (node ∷ nodes) before after r open_nodes e = grind (
  arith,
  done-parts,
  inputs-done,
  any-of-all,
  done-append,
  pulled-done,
  all-inputs-done parts nodes r.0 after r.2 open_nodes.1 e,
  run-split node.offset node.takes before,
)
