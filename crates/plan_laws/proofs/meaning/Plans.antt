-- The meaning of a plan is the answer of its query.
use Rattle.plan_laws.proofs.Imports.{Bool, IsPermutation, IsSorted, List, None, Option, Some, [], ap, ap₂, arith, cond, filter, flat_map, length, map, refl, suc, true, zero, ℕ, ◌&&◌, ◌++◌, ◌+◌, ◌<◌, ◌||◌, ◌∙◌, ◌∷◌, ◌≡◌, ◌⊎◌, AggCall, AllByRecursion, AllZip, Cond, GroupSpec, IsPermutation-append, IsPermutation-filter, IsPermutation-joined_rows, IsPermutation-map, IsPermutation-same, IsPermutation-trans, Row, SortKey, SortSpec, Span, Spec, StateCall, and_from, and_parts, append-nil, both_ways, combine_of, count_up, filter-append, groups_or_default, holds, item_row, joined_rows, joint_node, lane_nodes, leb-true, length-append, length-map, length_permutation, limited, list_all, map-append, merged_groups, merged_in_any_order, or_cases, or_left, or_right, row_cmp, rows_where, Flow, RowsOfSources, all_certain, rows_together, any_needs, flow_rows, IsNoLimit, IsPlan, JoinsSources, PlanJoin, PlanShape, SelectPlan, StopsEarly, all_valid, body_nodes, filter_nodes, filter_pulls, gather_nodes, gather_pulls, grouped, grouped_of, join_valid, joined_from, lane_steps, limit_nodes, made_pulls, made_rows, needed_valid, plain, plan_keys, plan_pulls, plan_valid, pulls, pulls_from, read_rows, read_steps, select_steps, shape_nodes, shape_pulls, shape_rows, sort_nodes, sort_pulls, sources_rows, valid_from, calls_from, merged_rows, partial_rows, MakesRows, is_certain, is_needed, join_step, sort_step, merge_step}
use Rattle.plan_laws.proofs.meaning.Blocks.{Alone, Block, Both, Form, LaneMade, Spread, block-moved, block-so, block-then, form-block, joint-block, lanes-block, no-block, none-behind, resize-block, resize-first, sources-block}
use Rattle.query_model.specs.declared.processor_spec.Spec.TheVariants as spec

-- ---- one flow

pub record One (rows : List Row) (c n : Bool) (f : Flow) : Type 0 where
  pub same : IsPermutation rows f.rows
  pub certain : f.certain ≡ true → c ≡ true
  pub needs : f.needs ≡ true → n ≡ true

one-rows : (rows : List Row) (c n : Bool) (f : Flow) → One rows c n f
    → length (f.rows ++ []) ≡ length rows
one-rows rows c n f h = ap length (append-nil f.rows) ∙ length_permutation _ _ h.same

-- one flow in the order of the keys
record Ordered (keys : List SortKey) (rows : List Row) (c n : Bool) (f : Flow) : Type 0 where
  pub one : One rows c n f
  pub in_order : IsSorted (row_cmp keys) f.rows

spread-one : (rows : List Row) (c n : Bool) (flows : List Flow) → Spread 1 rows c n flows
    → Alone (One rows c n) flows
spread-one rows c n (f ∷ []) h = search (arith, append-nil, and_from, or_left)
spread-one rows c n flows h = let e = h.count in absurd (omega (arith, e))

one-spread : (rows : List Row) (c n : Bool) (flows : List Flow) → Alone (One rows c n) flows
    → Spread 1 rows c n flows
one-spread rows c n flows a = search (arith, append-nil, and_parts, or_cases, both_ways)

sorted-no-keys : (xs : List Row) → IsSorted (row_cmp []) xs
unfolding row_cmp
sorted-no-keys xs k d p q = refl

unordered : (rows : List Row) (c n : Bool) (flows : List Flow) → Spread 1 rows c n flows
    → Alone (Ordered [] rows c n) flows
unordered rows c n flows h = grind (arith, sorted-no-keys, spread-one rows c n flows h)

-- what is needed before a row passes where there is an order: all
abbrev order_needs : Option SortSpec → (c n : Bool) → Bool
order_needs None c n = n
order_needs (Some order) c n = c

-- ---- groups

count_up-length : (n : ℕ) → length (count_up n) ≡ n
unfolding count_up
count_up-length zero = refl
count_up-length (suc n) = search (arith, length-append, count_up-length n)

calls-ops : (c : ℕ) (calls : List StateCall)
    → map (λ (a : AggCall ℕ). combine_of a.op) (calls_from c calls) ≡ map
    (λ (a : StateCall). combine_of a.op) calls
calls-ops c [] = refl
calls-ops c (call ∷ calls) = ap (λ l. combine_of call.op ∷ l) (calls-ops _ calls)

or-default : (lone : Bool) (default : Row) (xs ys : List Row) → IsPermutation xs ys
    → IsPermutation (groups_or_default lone default xs) (groups_or_default lone default ys)
or-default lone default xs ys h = grind (arith, length_permutation)

-- the groups of parts of the rows, merged
merged-groups : (g : GroupSpec) (lists : List (List Row)) (rows states : List Row)
    → IsPermutation rows (rows_together lists)
    → IsPermutation (flat_map (partial_rows g) lists) states
    → IsPermutation (grouped_of g rows) (merged_rows g states)
merged-groups g lists rows states all some =
    let keys : List ℕ = count_up (length g.keys) in
    let calls : List (AggCall ℕ) = calls_from (length g.keys) g.calls in
    or-default g.lone _ _ _ (rw (ap₂ (λ n ops. merged_groups n ops states)
    (count_up-length (length g.keys)) (calls-ops (length g.keys) g.calls)) at
    (merged_in_any_order keys calls lists rows states all some))

-- ---- lanes

-- the rows of lanes that were sorted, each in order, or grouped
record SortedLanes (keys : List SortKey) (lanes : ℕ) (rows : List Row) (c : Bool)
    (flows : List Flow) : Type 0 where
  pub count : length flows ≡ lanes
  pub same : IsPermutation rows (rows_together (flow_rows flows))
  pub in_order : AllByRecursion (λ rows. IsSorted (row_cmp keys) rows) (flow_rows flows)
  pub certain : all_certain flows ≡ true → c ≡ true
  pub needs : list_all (λ (f : Flow). f.certain || f.needs) flows ≡ true → c ≡ true

record GroupedLanes (g : GroupSpec) (lanes : ℕ) (rows : List Row) (c : Bool)
    (flows : List Flow) : Type 0 where
  pub count : length flows ≡ lanes
  pub lists : List (List Row)
  pub same : IsPermutation rows (rows_together lists)
  pub made : IsPermutation (flat_map (partial_rows g) lists) (rows_together (flow_rows flows))
  pub certain : all_certain flows ≡ true → c ≡ true

module _ (parts : RowsOfSources) where
  -- the rows of lanes of a kind that makes the same of all rows as of the lanes' rows together
  lanes-rows : (s : Spec) (make : List Row → List Row) → make [] ≡ []
      → ((xs ys : List Row) → make (xs ++ ys) ≡ make xs ++ make ys)
      → ((i o : List Row) → MakesRows parts s (i ∷ []) (o ∷ []) → o ≡ make i) → (ys zs : List Flow)
      → AllZip (LaneMade parts s) ys zs → make (rows_together (flow_rows ys))
      ≡ rows_together (flow_rows zs)
  lanes-rows s make none joins is (y ∷ ys) (z ∷ zs) h =
      search (arith, lanes-rows s make none joins is ys zs h.1)
  lanes-rows s make none joins is ys zs h = grind arith

  lanes-certain : (s : Spec) → ((l : List Flow) → is_certain parts s l ≡ all_certain l)
      → (ys zs : List Flow) → AllZip (LaneMade parts s) ys zs → all_certain zs ≡ true
      → all_certain ys ≡ true
  lanes-certain s passes (y ∷ ys) (z ∷ zs) h e =
      grind (arith, and_parts, and_from, passes (y ∷ []), lanes-certain s passes ys zs h.1)
  lanes-certain s passes ys zs h e = grind arith

  lanes-need : (s : Spec) → ((l : List Flow) → is_needed parts s l ≡ any_needs l)
      → (ys zs : List Flow) → AllZip (LaneMade parts s) ys zs → any_needs zs ≡ true
      → any_needs ys ≡ true
  lanes-need s passes (y ∷ ys) (z ∷ zs) h e =
      grind (arith, or_cases, or_left, or_right, passes (y ∷ []), lanes-need s passes ys zs h.1)
  lanes-need s passes ys zs h e = grind arith

  lanes-sorted : (order : SortSpec) (ys zs : List Flow)
      → AllZip (LaneMade parts (sort_step order)) ys zs
      → SortedLanes order.keys (length zs) (rows_together (flow_rows ys)) (all_certain ys) zs
  lanes-sorted order (y ∷ ys) (z ∷ zs) h =
      search (
        arith,
        and_parts,
        IsPermutation-append,
        and_from,
        or_cases,
        lanes-sorted order ys zs
            h.1,
      )
  lanes-sorted order ys zs h = grind arith

  lanes-grouped : (g : GroupSpec) (ys zs : List Flow)
      → AllZip (LaneMade parts (spec.PartialAggregate g)) ys zs
      → IsPermutation (flat_map (partial_rows g) (flow_rows ys)) (rows_together (flow_rows zs))
  lanes-grouped g (y ∷ ys) (z ∷ zs) h = IsPermutation-append _ _ _ _ h.0.0
      (lanes-grouped g ys zs h.1)
  lanes-grouped g ys zs h = grind arith

-- ---- steps of a plan

module _ {parts : RowsOfSources} {unlimited : Type 0} where
  mapped-block : (s : Spec) (rank lanes : ℕ) (make : List Row → List Row) → IsNoLimit s
      → make [] ≡ [] → ((xs ys : List Row) → make (xs ++ ys) ≡ make xs ++ make ys)
      → ((xs ys : List Row) → IsPermutation xs ys → IsPermutation (make xs) (make ys))
      → ((i o : List Row) → MakesRows parts s (i ∷ []) (o ∷ []) → o ≡ make i)
      → ((l : List Flow) → is_certain parts s l ≡ all_certain l)
      → ((l : List Flow) → is_needed parts s l ≡ any_needs l) → (rows : List Row) (c n : Bool)
      → Block parts unlimited (lane_nodes s rank 0 lanes) (Spread lanes rows c n)
      (Spread lanes (make rows) c n) (λ k. pulls k s (length rows))
  mapped-block s rank lanes make limit none joins keeps is certain needs rows c n =
      lanes-block s rank lanes rows c n (Spread lanes (make rows) c n) limit
      (λ ys zs h each count. grind (
        arith,
        keeps rows (rows_together (flow_rows ys)) h.same,
        IsPermutation-trans,
        IsPermutation-same,
        lanes-rows parts s make none joins is ys zs each,
        lanes-certain parts s certain ys zs each,
        lanes-need parts s needs ys zs each,
      ))

  filter-block : (f : Option Cond) (rank lanes : ℕ) (rows : List Row) (c n : Bool)
      → Block parts unlimited (filter_nodes f rank lanes) (Spread lanes rows c n)
      (Spread lanes (rows_where f rows) c n) (λ k. filter_pulls k f (length rows))
  filter-block None rank lanes rows c n = no-block (λ l h. h)
  filter-block (Some k) rank lanes rows c n =
      mapped-block _ rank lanes (filter (holds k)) tt refl (filter-append (holds k))
      (IsPermutation-filter (holds k)) (λ i o e. e) (λ l. refl) (λ l. refl) rows c n

  -- a kind that makes a row of each
  rows-block : (s : Spec) (rank lanes : ℕ) (make : Row → Row) → IsNoLimit s
      → ((i o : List Row) → MakesRows parts s (i ∷ []) (o ∷ []) → o ≡ map make i)
      → ((l : List Flow) → is_certain parts s l ≡ all_certain l)
      → ((l : List Flow) → is_needed parts s l ≡ any_needs l) → (rows : List Row) (c n : Bool)
      → Block parts unlimited (lane_nodes s rank 0 lanes) (Spread lanes rows c n)
      (Spread lanes (map make rows) c n) (λ k. pulls k s (length rows))
  rows-block s rank lanes make limit is =
      mapped-block s rank lanes (map make) limit refl (map-append make) (IsPermutation-map make) is

  -- open ends with the rows of FROM, joined with the second table where there is one
  read-steps-block : (ends : ℕ) (join : Option PlanJoin) (lanes : ℕ) → 0 < lanes
      → JoinsSources join → (left : List Row) (v : Bool)
      → Block parts unlimited (read_steps ends join lanes) (Spread ends left v true)
      (Spread lanes (joined_from parts join left) (valid_from parts join v)
      (join_valid parts join)) (λ k. pulls_from k parts join left)
  read-steps-block ends None lanes some js left v = resize-block 2 ends lanes left v true some
  read-steps-block ends (Some j) lanes some js left v =
      let right : List Row = sources_rows parts j.sources in
      let w : Bool = all_valid parts j.sources in
      let m : ℕ = length j.sources in
      let rows : List Row = joined_rows j.join.pairs left right in
      block-so (λ l e. e) (λ l h. h) (λ k. omega arith)
      (block-then
      (block-so (none-behind (Spread ends left v true)) (λ l h. h) (λ k. refl)
      (block-moved ends 0 (Spread ends left v true) (λ l h. h.count) (sources-block j.sources js)))
      (block-then (resize-first 2 ends 1 (Spread m right w true) left v true (omega arith))
      (block-then
      (block-moved 1 0 (Spread 1 left v true) (λ l h. h.count)
      (resize-block 2 m 1 right w true (omega arith)))
      (block-then
      (block-so (λ l b. two-flows b) (one-spread rows (v && w) w) (λ k. refl)
      (form-block _ 3 2 (λ (p : Flow × Flow). p.0 ∷ p.1 ∷ [])
      (λ p. One left v true p.0 × One right w true p.1) (One rows (v && w) w)
      (λ k. pulls k (join_step j) (length left + length right)) (λ u. tt) (λ p. refl)
      (λ p out h makes. grind (
        arith,
        IsPermutation-joined_rows j.join.pairs _ _ _ _ h.0.same h.1.same,
        IsPermutation-trans,
        and_parts,
        and_from,
      ))
      (λ k p u h. ap (pulls k (join_step j))
      (let a = length_permutation _ _ h.0.same in
      let b = one-rows right w true p.1 h.1 in
      omega (arith, a, b, length-append p.0.rows (p.1.rows ++ []))))))
      (resize-block 4 1 lanes rows (v && w) w some)))))
    where
      two-flows : {xs ys : List Row} {c d : Bool} {l : List Flow}
          → Both (Spread 1 xs c true) (Spread 1 ys d true) l
          → Form (λ (p : Flow × Flow). p.0 ∷ p.1 ∷ [])
          (λ p. One xs c true p.0 × One ys d true p.1) l
      two-flows {xs} {ys} {c} {d} b =
          let a = spread-one xs c true b.front b.first in
          let o = spread-one ys d true b.back b.second in
          record {
            value = (a.value, o.value);
            are = b.are ∙ ap₂ (λ x y. x ++ y) a.are o.are;
            has = (a.has, o.has);
          }

  gather-block : (order : Option SortSpec) (lanes : ℕ) (rows : List Row) (c n : Bool)
      → Block parts unlimited (gather_nodes order lanes) (Spread lanes rows c n)
      (Alone (Ordered (plan_keys order) rows c (order_needs order c n)))
      (λ k. gather_pulls k order (length rows))
  gather-block None lanes rows c n = block-so (λ l h. h) (unordered rows c n)
      (λ k. refl) (resize-block 12 lanes 1 rows c n (omega arith))
  gather-block (Some order) lanes rows c n =
      block-then (lanes-block (sort_step order) 11 lanes rows c n
      (SortedLanes order.keys lanes rows c) tt
      (λ ys zs h each count.
      grind (arith, lanes-sorted parts order ys zs each, IsPermutation-trans)))
      (joint-block (merge_step order) 12 lanes
      (SortedLanes order.keys lanes rows c) (Ordered order.keys rows c c)
      (λ k. pulls k (merge_step order) (length rows)) (λ u. tt) (λ l h. h.count)
      (λ t out h makes. grind (arith, IsPermutation-trans))
      (λ k t u told h. ap (pulls k (merge_step order)) (length_permutation _ _ h.same)))

  sort-block : (order : Option SortSpec) (rows : List Row) (c : Bool)
      → Block parts unlimited (sort_nodes order) (Spread 1 rows c c)
      (Alone (Ordered (plan_keys order) rows c c)) (λ k. sort_pulls k order (length rows))
  sort-block None rows c = no-block (unordered rows c c)
  sort-block (Some order) rows c = block-so (spread-one rows c c) (λ l a. a)
      (λ k. refl)
      (form-block (sort_step order) 11 1 (λ f. f ∷ []) (One rows c c) (Ordered order.keys rows c c)
      (λ k. pulls k (sort_step order) (length rows)) (λ u. tt) (λ f. refl)
      (λ f out h makes. grind (arith, IsPermutation-trans, and_parts))
      (λ k f u h. ap (pulls k (sort_step order)) (one-rows rows c c f h)))

  partial-block : (g : GroupSpec) (lanes : ℕ) (rows : List Row) (c n : Bool)
      → Block parts unlimited (lane_nodes (spec.PartialAggregate g) 7 0 lanes)
      (Spread lanes rows c n) (GroupedLanes g lanes rows c)
      (λ k. pulls k (spec.PartialAggregate g) (length rows))
  partial-block g lanes rows c n =
      lanes-block (spec.PartialAggregate g) 7 lanes rows c n
      (GroupedLanes g lanes rows c) tt
      (λ ys zs h each count. grind (arith, lanes-grouped parts g ys zs each, lanes-certain))

  merge-block : (g : GroupSpec) (lanes : ℕ) (rows : List Row) (c : Bool)
      → Block parts unlimited (joint_node (spec.MergeAggregate g) 8 lanes 1 ∷ [])
      (GroupedLanes g lanes rows c) (Spread 1 (grouped_of g rows) c c) (λ k. 0)
  merge-block g lanes rows c =
      block-so (λ l h. h) (one-spread (grouped_of g rows) c c) (λ k. refl)
      (joint-block _ 8 lanes (GroupedLanes g lanes rows c)
      (One (grouped_of g rows) c c) (λ k. 0) (λ u. tt) (λ l h. h.count)
      (λ t out h makes. grind (
        arith,
        IsPermutation-trans,
        merged-groups g h.lists rows (rows_together (flow_rows t)) h.same h.made,
      ))
      (λ k t u told h. ap (λ b. cond b (length (rows_together (flow_rows t))) 0) told.no_merge))

  -- what is made of the filtered rows
  shape-block : (shape : PlanShape) (order : Option SortSpec) (lanes : ℕ) (rows : List Row)
      (c n : Bool)
      → Block parts unlimited (shape_nodes shape order lanes) (Spread lanes rows c n)
      (Alone (Ordered (plan_keys order) (shape_rows shape rows) c
      (needed_valid shape order c n))) (λ k. shape_pulls k shape order rows)
  shape-block (plain items) order lanes rows c n =
      block-so (λ l h. h) (λ l h. h)
      (λ k. omega (arith, ap (gather_pulls k order) (length-map rows (item_row items))))
      (block-then
      (rows-block _ 6 lanes (item_row items) tt (λ i o e. e) (λ l. refl) (λ l. refl) rows c n)
      (gather-block order lanes (map (item_row items) rows) c n))
  shape-block (grouped arguments g having picks) order lanes rows c n =
      let input : List Row = map (item_row arguments) rows in
      let groups : List Row = grouped_of g input in
      let kept : List Row = rows_where having groups in
      block-so (λ l h. h) (λ l h. h)
      (λ k.
      let count = ap (pulls k (spec.PartialAggregate g)) (length-map rows (item_row arguments)) in
      omega (arith, count, ap (sort_pulls k order) (length-map kept (item_row picks))))
      (block-then
      (rows-block _ 6 lanes (item_row arguments) tt (λ i o e. e) (λ l. refl) (λ l. refl) rows c n)
      (block-then (partial-block g lanes input c n)
      (block-then (merge-block g lanes input c)
      (block-then (filter-block having 9 1 groups c c)
      (block-then
      (rows-block _ 10 1 (item_row picks) tt (λ i o e. e) (λ l. refl) (λ l. refl) kept c c)
      (sort-block order (map (item_row picks) kept) c))))))

-- ---- the whole

-- What a SELECT makes of the rows that it reads. `v` tells whether those are certain, and `n`
-- whether what is needed before one of them is read is there.
pub record SelectMade (p : SelectPlan) (rows : List Row) (v n : Bool) (flow : Flow) : Type 0 where
  pub ordered : List Row
  pub same : IsPermutation (made_rows p rows) ordered
  pub in_order : IsSorted (row_cmp (plan_keys p.order)) ordered
  pub is : flow.rows ≡ limited p.limit ordered
  pub valid : flow.certain ≡ true → (v ≡ true) ⊎ StopsEarly p rows v n

-- the flow before the limit
abbrev SelectOrdered : SelectPlan → List Row → (v n : Bool) → Flow → Type 0
SelectOrdered p rows v n = Ordered (plan_keys p.order) (made_rows p rows) v
    (needed_valid p.shape p.order v n)

limit-block : (parts : RowsOfSources) (p : SelectPlan) (rows : List Row) (v n : Bool)
    (limit : Option Span) → p.limit ≡ limit
    → Block parts (p.limit ≡ None) (limit_nodes limit) (Alone (SelectOrdered p rows v n))
    (Alone (SelectMade p rows v n)) (λ k. 0)
limit-block parts p rows v n limit e = grind (
  arith,
  no-block,
  form-block,
  or_cases,
  and_parts,
  both_ways,
  leb-true,
  append-nil,
  length_permutation,
)

-- What the steps in the lanes make of the rows that are read, whatever stood in FROM.
pub lane-block : (parts : RowsOfSources) (p : SelectPlan) (rows : List Row) (v n : Bool)
    → Block parts (p.limit ≡ None) (lane_steps p) (Spread p.lanes rows v n)
    (Alone (SelectMade p rows v n)) (λ k. made_pulls k p rows)
lane-block parts p rows v n =
    block-so (λ l e. e) (λ l h. h) (λ k. omega arith)
    (block-then (filter-block p.filter 5 p.lanes rows v n)
    (block-then
    (shape-block p.shape p.order p.lanes (rows_where p.filter rows) v n)
    (limit-block parts p rows v n p.limit refl)))

-- What the steps of a SELECT make of the rows that stand at the open ends in the place of its
-- FROM table's sources.
pub select-block : (parts : RowsOfSources) (p : SelectPlan) (ends : ℕ) (left : List Row) (v : Bool)
    → 0 < p.lanes → JoinsSources p.join
    → Block parts (p.limit ≡ None) (select_steps ends p) (Spread ends left v true)
    (Alone (SelectMade p (joined_from parts p.join left) (valid_from parts p.join v)
    (join_valid parts p.join)))
    (λ k. pulls_from k parts p.join left + made_pulls k p (joined_from parts p.join left))
select-block parts p ends left v some js =
    block-then (read-steps-block ends p.join p.lanes some js left v)
    (lane-block parts p (joined_from parts p.join left) (valid_from parts p.join v)
    (join_valid parts p.join))

-- the one end of the plan
abbrev pub PlanMade : RowsOfSources → SelectPlan → Flow → Type 0
PlanMade parts p = SelectMade p (read_rows parts p.sources p.join) (plan_valid parts p)
    (join_valid parts p.join)

-- What all nodes but the collector make. Where there is no limit, the nodes of a kind together pull
-- as many rows as the plan says.
pub plan-block : (parts : RowsOfSources) (p : SelectPlan) → IsPlan p
    → Block parts (p.limit ≡ None) (body_nodes p) (λ l. l ≡ []) (Alone (PlanMade parts p))
    (λ k. plan_pulls k parts p)
plan-block parts p is =
    block-so (λ l e. e) (λ l h. h) (λ k. omega arith)
    (block-then (sources-block p.sources is.sources)
    (select-block parts p (length p.sources) (sources_rows parts p.sources)
    (all_valid parts p.sources) is.some_lanes is.join))
