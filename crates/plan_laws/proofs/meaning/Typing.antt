-- Where the types at the open ends fit each node, each chunk that a run pulled fits, and so each
-- node gives what its kind promises.
use Rattle.plan_laws.proofs.Imports.{Any, List, [], ap, arith, length, map, replicate, subst, suc, sym, ℕ, ◌++◌, ◌∷◌, ◌≡◌, length-map, moved_nodes, AllByRecursion, AllFitDraft, AllZip, Draft, DraftNode, NodePort, Spec, every-append, every-front, every-weaker, given_by, ports_of, taken_by, with_node, with_nodes, EachGivesIf, FitFrom, HasTypes, MakesType, Types, TypesFit, TypesNode, TypesTo, pulled_types, RowsOfSources, Stream, AllPull, EachGives, Pulls}
use Rattle.plan_laws.proofs.graph.Frames.{given-moved, taken-moved}
use Rattle.plan_laws.proofs.graph.Places.{given-map, taken-map}
use Rattle.plan_laws.proofs.graph.Drafts.{ports-length}
use Rattle.plan_laws.proofs.meaning.Runs.{next-node, node-pulls}
use Rattle.plan_laws.proofs.meaning.Zips.{zip-chain, zip-given, zip-taken}

pulled-typed : (i s : Stream) (t : Types) → Pulls i s → HasTypes s t → HasTypes i t
pulled-typed i s t p h = search (arith, every-front)

all-fit : (s : Spec) (n : ℕ) (ins : List Stream) (types : List Types) → AllZip HasTypes ins types
    → TypesFit s n types → FitFrom s n ins
all-fit s n (i ∷ ins) (t ∷ types) z f =
    search (arith, every-weaker, all-fit s (suc n) ins types z.1 f.1)
all-fit s n ins types z f = grind arith

any-more : (v : Types) (vs : List Types) (u : Types) → Any (λ w. u ≡ w) vs
    → Any (λ w. u ≡ w) (v ∷ vs)
any-more v vs u a = (suc a.0, a.1, omega (arith, a.2), a.3, a.4)

are-taken : (ins : List Stream) (types : List Types) → AllZip HasTypes ins types
    → AllByRecursion (λ u. Any (λ v. u ≡ v) types) (pulled_types ins)
are-taken (i ∷ ins) (t ∷ types) z =
    search (arith, every-append, every-weaker, any-more, are-taken ins types z.1)
are-taken ins types z = grind arith

made-typed : (s : Spec) (ins : List Types) (made : Types) (outs : List Stream) (n : ℕ)
    → length outs ≡ n → ((t : Types) → MakesType s ins t → t ≡ made)
    → AllByRecursion (λ (o : Stream). AllByRecursion (MakesType s ins) o.types) outs
    → AllZip HasTypes outs (replicate n made)
made-typed s ins made (o ∷ outs) (suc n) e f h =
    search (arith, every-weaker, made-typed s ins made outs n (omega (arith, e)) f h.1)
made-typed s ins made outs n e f h = grind arith

-- Where the types at the open ends fit each node, each node gives what its kind promises.
pub each-typed : (parts : RowsOfSources) (pulled pushed : NodePort → Stream)
    (nodes : List DraftNode)
    (d : Draft) (types after : List Types) → AllFitDraft nodes d
    → AllZip HasTypes (map pushed d.ends) types → TypesTo nodes types after
    → EachGivesIf parts (length d.ranks) nodes pulled pushed
    → AllPull pulled pushed (with_nodes nodes d).wires
    → EachGives parts (length d.ranks) nodes pulled pushed
each-typed parts pulled pushed [] d types last f z t g w = tt
each-typed parts pulled pushed (node ∷ nodes) d types last f z t g w =
    let n : ℕ = length d.ranks in
    let ins : List Stream = map pulled (ports_of n 0 node.takes) in
    let ports : List NodePort = ports_of n 0 node.gives in
    let here : TypesNode node types = t.0 in
    let before : AllZip HasTypes (map pushed (taken_by node d.ends)) (taken_by node types) =
    rw (taken-map pushed node d.ends) at (zip-taken HasTypes node (map pushed d.ends) types z) in
    let taken = zip-chain Pulls HasTypes HasTypes pulled-typed ins (map pushed (taken_by node
    d.ends)) (taken_by node types) (node-pulls pulled pushed node nodes d f.0 w) before in
    let fit = all-fit node.spec 0 ins (taken_by node types) taken here.fit in
    let count : length (map pushed ports) ≡ node.gives = grind (arith, length-map, ports-length) in
    let outs = made-typed node.spec (pulled_types ins) here.made (map pushed ports) node.gives count
    (λ u m. here.makes u (pulled_types ins) (are-taken ins (taken_by node types) taken) m)
    (g.0.typed fit) in
    let after : AllZip HasTypes (map pushed (with_node node d).ends)
    (given_by node (replicate node.gives here.made) types) =
    rw (given-map pushed node ports d.ends) at (zip-given HasTypes node (map pushed ports)
    (map pushed d.ends) (replicate node.gives here.made) types outs z) in
    let next : length (d.ranks ++ node.rank ∷ []) ≡ suc n = next-node node d in (
      g.0.gives fit,
      rw next at (each-typed parts pulled pushed nodes (with_node node d)
          (given_by node (replicate node.gives here.made) types) last f.1 after t.1
          (subst (λ k. EachGivesIf parts k nodes pulled pushed) (sym next) g.1) w),
    )

-- ---- blocks

-- a block whose nodes the types of the open ends fit, and that leaves ends of those types
pub record Typed (nodes : List DraftNode) (before after : List Types) : Type 0 where
  pub types : TypesTo nodes before after

types-append : (xs ys : List DraftNode) (a b c : List Types) → TypesTo xs a b → TypesTo ys b c
    → TypesTo (xs ++ ys) a c
types-append [] ys a b c f g = subst (λ l. TypesTo ys l c) f g
types-append (x ∷ xs) ys a b c f g =
    (f.0, types-append xs ys (given_by x (replicate x.gives f.0.made) a) b c f.1 g)

pub typed-then : {xs ys : List DraftNode} {a b c : List Types} → Typed xs a b → Typed ys b c
    → Typed (xs ++ ys) a c
typed-then {xs} {ys} {a} {b} {c} f g = grind (arith, types-append)

types-moved : (ends rank : ℕ) (nodes : List DraftNode) (done a b : List Types)
    → length done ≡ ends → TypesTo nodes a b
    → TypesTo (moved_nodes ends rank nodes) (done ++ a) (done ++ b)
types-moved ends rank [] done a b e f = ap (λ l. done ++ l) f
types-moved ends rank (node ∷ nodes) done a b e f =
    let taken = sym (taken-moved ends rank node done a e) in
    let new : List Types = replicate node.gives f.0.made in (
      record {
        fit = subst (TypesFit node.spec 0) taken f.0.fit;
        made = f.0.made;
        makes = grind arith;
      },
      subst (λ l. TypesTo (moved_nodes ends rank nodes) l (done ++ b))
          (sym (given-moved ends rank node new done a e))
          (types-moved ends rank nodes done (given_by node new a) b e f.1),
    )

-- a block behind other ends
pub typed-moved : {nodes : List DraftNode} {a b : List Types} (ends rank : ℕ) (done : List Types)
    → length done ≡ ends → Typed nodes a b
    → Typed (moved_nodes ends rank nodes) (done ++ a) (done ++ b)
typed-moved {nodes} {a} {b} ends rank done e f = grind (arith, types-moved)
