-- The types that stand at the open ends of a plan, block by block.
use Rattle.plan_laws.proofs.Imports.{IfSome, List, None, Option, Some, SumsNoTexts, [], ap, append_assoc, ap₂, arith, length, length-append, map, refl, replicate, subst, suc, sym, zero, ℕ, ◌++◌, ◌∙◌, ◌∷◌, ◌≡◌, All-append, AllByRecursion, AreKeyPairs, Cond, DraftNode, Expr, FitsOrder, GroupSpec, Grouped, IsAmong, IsItem, IsTypedFilter, IsTypedShape, Plain, PlanJoin, SelectPlan, Shape, SortSpec, Span, Spec, Types, TypesFit, append-nil, body_nodes, call_arguments, collector, column_items, filter_nodes, gather_nodes, group_types, group_spec, spec_group_types, joint_node, lane_nodes, lane_steps, length-replicate, limit_nodes, map-append, map-map, partial_types, read_steps, select_steps, shape_nodes, shape_of, sort_nodes, source_nodes, taken_by, type_of, ⊤, join_step, sort_step, shape_types, type_at, FitsGroups}
use Rattle.plan_laws.proofs.meaning.PlanTypes.{OneType, makes-one, passes-type}
use Rattle.plan_laws.proofs.ends.KindLaws.{items-type}
use Rattle.plan_laws.proofs.ends.ResizeLaws.{resize-type}
use Rattle.plan_laws.proofs.graph.Places.{replaced-at, run-at}
use Rattle.plan_laws.proofs.meaning.Typing.{Typed, typed-then, typed-moved}
use Rattle.plan_laws.proofs.ends.ShapeTypes.{calls-fit, columns-are, columns-fit, sums-no-texts}

-- rows of these types can be put in the order
abbrev pub FitsOrdering : Types → Option SortSpec → Type 0
FitsOrdering v None = ⊤
FitsOrdering v (Some order) = FitsOrder order v

-- the types of the rows that are read, where those of FROM have the types u
abbrev pub read_types : Types → Option PlanJoin → Types
read_types u None = u
read_types u (Some j) = u ++ j.join.right

-- the join is of rows of the types u with those of its sources, on pairs of their columns
pub record IsTypedJoin (u : Types) (j : PlanJoin) : Type 0 where
  pub left : u ≡ j.join.left
  pub right : AllByRecursion (λ s. OneType s [] j.join.right) j.sources
  pub pairs : AreKeyPairs j.join

-- ---- blocks

-- one node, whose ends are those of a run of the list
node-typed : (node : DraftNode) (xs t ys : List Types) (made : Types) → length xs ≡ node.offset
    → length t ≡ node.takes → OneType node.spec t made
    → Typed (node ∷ []) (xs ++ (t ++ ys)) (xs ++ (replicate node.gives made ++ ys))
node-typed node xs t ys made a b o =
    let taken : taken_by node (xs ++ (t ++ ys)) ≡ t =
    run-at node.offset node.takes xs t ys a b in
    record {
      types = (
        record {
          fit = subst (TypesFit node.spec 0) (sym taken) o.fit;
          made = made;
          makes = λ u us h m. o.makes u us (subst (λ l. AllByRecursion (IsAmong l) us) taken h) m;
        },
        sym (replaced-at node.offset node.takes (replicate node.gives made) xs t ys a b),
      );
    }

lanes-typed : (s : Spec) (q i k : ℕ) (done : List Types) (u v : Types) → length done ≡ i
    → OneType s (u ∷ []) v
    → Typed (lane_nodes s q i k) (done ++ replicate k u) (done ++ replicate k v)
lanes-typed s q i zero done u v a o = record { types = refl }
lanes-typed s q i (suc k) done u v a o =
    typed-then
    (node-typed (record { spec = s; rank = q; offset = i; takes = 1; gives = 1 }) done (u ∷ [])
    (replicate k u) v a refl o)
    (rw (append_assoc done (v ∷ []) (replicate k u), append_assoc done (v ∷ []) (replicate k v)) at
    (lanes-typed s q (suc i) k (done ++ v ∷ []) u v (omega (arith, a, length-append done (v ∷ [])))
    o))

sources-typed : (specs : List Spec) (i : ℕ) (done : List Types) (u : Types) → length done ≡ i
    → AllByRecursion (λ s. OneType s [] u) specs
    → Typed (source_nodes i specs) done (done ++ replicate (length specs) u)
sources-typed [] i done u a h = record { types = append-nil done }
sources-typed (s ∷ specs) i done u a h =
    typed-then
    (rw (append-nil done) at
    (node-typed (record { spec = s; rank = 1; offset = i; takes = 0; gives = 1 }) done [] [] u a
    refl h.0))
    (rw (append_assoc done (u ∷ []) (replicate (length specs) u)) at
    (sources-typed specs (suc i) (done ++ u ∷ []) u
    (omega (arith, a, length-append done (u ∷ []))) h.1))

-- a node that takes all ends, which have one type
pub joint-typed : (s : Spec) (q m n : ℕ) (u v : Types) → OneType s (replicate m u) v
    → Typed (joint_node s q m n ∷ []) (replicate m u) (replicate n v)
joint-typed s q m n u v o =
    rw (append-nil (replicate m u), append-nil (replicate n v)) at
    (node-typed (joint_node s q m n) [] (replicate m u) [] v refl (length-replicate m u) o)

gather-typed : (order : Option SortSpec) (k : ℕ) (v : Types) → FitsOrdering v order
    → Typed (gather_nodes order k) (replicate k v) (v ∷ [])
gather-typed None k v h = joint-typed _ 12 k 1 v v (resize-type k v)
gather-typed (Some order) k v h =
    typed-then
    (lanes-typed (sort_step order) 11 0 k [] v v refl
    (record { fit = (h, tt); makes = λ t us all m. m ∙ sym h.types_are }))
    (joint-typed _ 12 k 1 v v (makes-one _ k v (λ i. h) (λ us t m. m ∙ sym h.types_are)))

-- ---- what the rows are filtered by, made into, and cut to

filter-typed : (u : Types) (f : Option Cond) (q k : ℕ) → IsTypedFilter u f
    → Typed (filter_nodes f q k) (replicate k u) (replicate k u)
filter-typed u None q k h = record { types = refl }
filter-typed u (Some c) q k h =
    lanes-typed _ q 0 k [] u u refl
    (passes-type _ 1 u (h, tt) (λ us t m. m))

sort-typed : (order : Option SortSpec) (v : Types) → FitsOrdering v order
    → Typed (sort_nodes order) (v ∷ []) (v ∷ [])
sort-typed None v h = record { types = refl }
sort-typed (Some order) v h =
    joint-typed (sort_step order) 11 1 1 v v
    (record { fit = (h, tt); makes = λ t us all m. m ∙ sym h.types_are })

shape-typed : (s : Shape) (u : Types) (rows : ℕ) (order : Option SortSpec) (k : ℕ)
    → IsTypedShape u s → FitsOrdering (shape_types s u) order
    → Typed (shape_nodes (shape_of s u rows) order k) (replicate k u) (shape_types s u ∷ [])
shape-typed (Plain items) u rows order k t o =
    let v : Types = map (λ e. type_of e u) items in
    typed-then (lanes-typed _ 6 0 k [] u v refl (items-type items u v t refl))
    (gather-typed order k v o)
shape-typed (Grouped g) u rows order k t o =
    let groups : GroupSpec = group_spec g u rows in
    let v : Types = map (type_at (group_types g u)) g.picks in
    let w : Types = group_types g u in
    let same : w ≡ spec_group_types groups = grind (arith, map-map) in
    let calls = calls-fit u g.calls t.calls in
    let summed : SumsNoTexts groups = sums-no-texts u g.calls t.calls in
    let fit : FitsGroups groups (spec_group_types groups) w =
    record { types_are = same; summed = summed } in
    let arguments : List Expr = column_items g.keys ++ call_arguments g.calls in
    typed-then
    (lanes-typed _ 6 0 k [] u (partial_types groups) refl
    (items-type arguments u (partial_types groups)
    (All-append (IsItem u) (column_items g.keys) (call_arguments g.calls)
    (columns-fit u g.keys t.keys) calls.1)
    (ap₂ (λ a b. a ++ b) (columns-are u g.keys) calls.2
    ∙ sym (map-append (λ e. type_of e u) (column_items g.keys) (call_arguments g.calls)))))
    (typed-then
    (lanes-typed _ 7 0 k [] (partial_types groups) w refl
    (record {
      fit = (record { types_are = refl; summed = summed }, tt);
      makes = λ t us all e. e ∙ sym same;
    }))
    (typed-then
    (joint-typed _ 8 k 1 w w (makes-one _ k w (λ i. fit) (λ us t e. e ∙ sym same)))
    (typed-then (filter-typed w g.having 9 1 t.having)
    (typed-then
    (lanes-typed _ 10 0 1 [] w v refl
    (items-type (column_items g.picks) w v (columns-fit w g.picks t.picks)
    (columns-are w g.picks))) (sort-typed order v o)))))

limit-typed : (v : Types) (l : Option Span) → Typed (limit_nodes l) (v ∷ []) (v ∷ [])
limit-typed v None = record { types = refl }
limit-typed v (Some span) =
    joint-typed _ 13 1 1 v v
    (passes-type _ 1 v (tt, tt) (λ us t m. m))

-- ---- what is read

-- so many open ends of one type
read-steps-typed : (ends : ℕ) (join : Option PlanJoin) (lanes : ℕ) (u : Types)
    → IfSome join (IsTypedJoin u)
    → Typed (read_steps ends join lanes) (replicate ends u) (replicate lanes (read_types u join))
read-steps-typed ends None lanes u t = search (arith, joint-typed, resize-type)
read-steps-typed ends (Some j) lanes u t =
    let m : ℕ = length j.sources in
    let w : Types = j.join.right in
    let one : OneType (join_step j) (u ∷ w ∷ []) (u ++ w) = record {
      fit = grind arith;
      makes = λ z us all e. e ∙ ap (λ l. l ++ w) (sym t.left);
    } in
    typed-then
    (rw (append-nil (replicate ends u)) at (typed-moved ends 0 (replicate ends u)
    (length-replicate ends u) (sources-typed j.sources 0 [] w refl t.right)))
    (typed-then
    (node-typed (joint_node _ 2 ends 1) [] (replicate ends u) (replicate m w) u refl
    (length-replicate ends u) (resize-type ends u))
    (typed-then
    (typed-moved 1 0 (u ∷ []) refl (joint-typed _ 2 m 1 w w (resize-type m w)))
    (typed-then
    (node-typed (joint_node (join_step j) 3 2 1) [] (u ∷ w ∷ []) [] (u ++ w) refl refl one)
    (joint-typed _ 4 1 lanes (u ++ w) (u ++ w) (resize-type 1 (u ++ w))))))

-- ---- the plan

-- The types of a plan, whose condition and shape are typed by those of the rows that are read, and
-- whose order is one of the rows that the shape makes. FROM's columns have the types u.
pub record IsTypedPlan (p : SelectPlan) (s : Shape) (u : Types) (rows : ℕ) : Type 0 where
  pub shape : p.shape ≡ shape_of s (read_types u p.join) rows
  pub join : IfSome p.join (IsTypedJoin u)
  pub filter : IsTypedFilter (read_types u p.join) p.filter
  pub typed : IsTypedShape (read_types u p.join) s
  pub order : FitsOrdering (shape_types s (read_types u p.join)) p.order

-- the steps in the lanes
lane-typed : (p : SelectPlan) (s : Shape) (u : Types) (rows : ℕ) → IsTypedPlan p s u rows
    → Typed (lane_steps p) (replicate p.lanes (read_types u p.join))
    (shape_types s (read_types u p.join) ∷ [])
lane-typed p s u rows t =
    let w : Types = read_types u p.join in
    rw t.shape (typed-then (filter-typed w p.filter 5 p.lanes t.filter)
    (typed-then (shape-typed s w rows p.order p.lanes t.typed t.order)
    (limit-typed (shape_types s w) p.limit)))

-- The steps of a SELECT behind open ends of FROM's types.
pub select-typed : (p : SelectPlan) (s : Shape) (u : Types) (rows ends : ℕ)
    → IsTypedPlan p s u rows
    → Typed (select_steps ends p) (replicate ends u) (shape_types s (read_types u p.join) ∷ [])
select-typed p s u rows ends t = search (arith, typed-then, read-steps-typed, lane-typed)

-- All nodes but the collector, where the sources of FROM all have the types u.
pub body-typed : (p : SelectPlan) (s : Shape) (u : Types) (rows : ℕ) → IsTypedPlan p s u rows
    → AllByRecursion (λ s. OneType s [] u) p.sources
    → Typed (body_nodes p) [] (shape_types s (read_types u p.join) ∷ [])
body-typed p s u rows t sources =
    typed-then (sources-typed p.sources 0 [] u refl sources)
    (select-typed p s u rows (length p.sources) t)

-- a collector of one open end
pub collector-typed : (rank : ℕ) (v : Types) → Typed (collector rank ∷ []) (v ∷ []) []
collector-typed rank v =
    joint-typed _ rank 1 0 v v (passes-type _ 1 v (tt, tt) (λ us t m. m))
