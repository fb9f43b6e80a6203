-- The meaning of blocks of nodes, one behind the other, and how many rows the nodes of a kind pull.
use Rattle.plan_laws.proofs.Imports.{Bool, IsPermutation, List, [], ap, arith, cond, length, refl, resize_node, subst, suc, sym, true, zero, ℕ, ◌++◌, ◌+◌, ◌<◌, ◌∙◌, ◌∷◌, ◌≡◌, AllByRecursion, AllZip, AllZip-long, DraftNode, IsPermutation-append, IsPermutation-refl, IsPermutation-same, IsPermutation-trans, Kind, Row, Spec, and_from, and_parts, append-nil, append_assoc, every-append, joint_node, lane_nodes, moved_nodes, nodes_raised, length-append, length-map, length_permutation, or_cases, source_nodes, taken_by, Flow, RowsOfSources, all_certain, rows_together, any_needs, flow_rows, flows_of, IsNoLimit, IsOpenNode, IsSourceSpec, IsTold, MakesRows, NodesMean, MeansNode, all_valid, if_kind, is_certain, is_needed, is_valid_source, meant_by, pulls, source_list, sources_rows}
use Rattle.plan_laws.proofs.graph.Places.{replaced-at, run-at}
use Rattle.plan_laws.proofs.meaning.Frames.{every-moved, means-moved}

-- ---- nodes

-- the flow of these rows, which a node made of such flows
abbrev pub flow_made : RowsOfSources → Spec → List Flow → List Row → Flow
flow_made parts s t rows = record {
  rows = rows;
  certain = is_certain parts s t;
  needs = is_needed parts s t;
}

-- what a node made of the flows t, between xs and ys
pub record NodeMade (parts : RowsOfSources) (node : DraftNode) (xs t ys before after : List Flow) :
    Type 0
  where
    pub outs : List (List Row)
    pub makes : MakesRows parts node.spec (flow_rows t) outs
    pub count : length outs ≡ node.gives
    pub are : after ≡ xs ++ (flows_of (is_certain parts node.spec t) (is_needed parts node.spec t)
        outs ++ ys)
    pub pulled : (k : Kind) → if_kind k node
        (length (rows_together (flow_rows (taken_by node before))))
        ≡ pulls k node.spec (length (rows_together (flow_rows t)))

-- a node between other open ends
pub node-at : (parts : RowsOfSources) (node : DraftNode) (xs t ys before after : List Flow)
    → before ≡ xs ++ (t ++ ys) → length xs ≡ node.offset → length t ≡ node.takes
    → MeansNode parts node before after → NodeMade parts node xs t ys before after
node-at parts node xs t ys before after is a b m = search (arith, run-at, replaced-at)

pub only-one : {X : Type 0} (P : List X → Type 0) (xs : List X) → length xs ≡ 1 → P xs → (x : X)
    × (xs ≡ x ∷ []) × P (x ∷ [])
only-one P (x ∷ []) e h = (x, refl, h)
only-one P xs e h = absurd (omega (arith, e))

-- two lists of nodes, one behind the other
pub record Split (parts : RowsOfSources) (front back : List DraftNode) (before after : List Flow)
    (m : NodesMean parts (front ++ back) before after) : Type 0 where
  pub middle : List Flow
  pub first : NodesMean parts front before middle
  pub then' : NodesMean parts back middle after
  pub pulled : (k : Kind) → meant_by parts k (front ++ back) before after m
      ≡ meant_by parts k front before middle first + meant_by parts k back middle after then'

pub means_of_append : (parts : RowsOfSources) (front back : List DraftNode)
    (before after : List Flow)
    (m : NodesMean parts (front ++ back) before after) → Split parts front back before after m
means_of_append parts [] back before after m = record {
  middle = before;
  first = refl;
  then' = m;
  pulled = λ k. omega arith;
}
means_of_append parts (node ∷ front) back before after m =
    let more : Split parts front back m.0 after m.2 =
    means_of_append parts front back m.0 after m.2 in
    record {
      middle = more.middle;
      first = (m.0, m.1, more.first);
      then' = more.then';
      pulled = λ k. let rest = more.pulled k in omega (arith, rest);
    }

-- where nothing counts, none does
pub none-of : (b : Bool) → (let n : ℕ = cond b 0 0 in n) ≡ 0
none-of b = grind arith

sum-of : (b : Bool) (m n : ℕ) → cond b m 0 + cond b n 0 ≡ cond b (m + n) 0
sum-of b m n = grind arith

-- ---- lanes

-- what each lane's node made
abbrev pub LaneMade : RowsOfSources → Spec → Flow → Flow → Type 0
LaneMade parts s y z = MakesRows parts s (y.rows ∷ []) (z.rows ∷ [])
    × (z.certain ≡ is_certain parts s (y ∷ [])) × (z.needs ≡ is_needed parts s (y ∷ []))

record LanesMade (parts : RowsOfSources) (s : Spec) (rank i n : ℕ) (xs ys before after : List Flow)
    (m : NodesMean parts (lane_nodes s rank i n) before after) : Type 0 where
  pub lanes : List Flow
  pub are : after ≡ xs ++ lanes
  pub each : AllZip (LaneMade parts s) ys lanes
  pub pulled : (k : Kind) → meant_by parts k (lane_nodes s rank i n) before after m
      ≡ pulls k s (length (rows_together (flow_rows ys)))

lanes-mean : (parts : RowsOfSources) (s : Spec) (rank i n : ℕ) (xs ys before after : List Flow)
    → before ≡ xs ++ ys → length xs ≡ i → length ys ≡ n
    → (m : NodesMean parts (lane_nodes s rank i n) before after)
    → LanesMade parts s rank i n xs ys before after m
lanes-mean parts s rank i zero xs [] before after is a b m = search (arith, none-of)
lanes-mean parts s rank i (suc n) xs (y ∷ ys) before after is a b m =
    let node : DraftNode = record { spec = s; rank = rank; offset = i; takes = 1; gives = 1 } in
    let made = node-at parts node xs (y ∷ []) ys before m.0 is a refl m.1 in
    let one = only-one (λ l. MakesRows parts s (y.rows ∷ []) l) made.outs made.count made.makes in
    let z : Flow = flow_made parts s (y ∷ []) one.0 in
    let here : m.0 ≡ (xs ++ z ∷ []) ++ ys = grind (arith, append_assoc) in
    let more = lanes-mean parts s rank (suc i) n (xs ++ z ∷ []) ys m.0 after here
    (omega (arith, a, length-append xs (z ∷ []))) (omega (arith, b)) m.2 in
    grind (
      arith,
      more,
      append_assoc xs (z ∷ []),
      one.2,
      made.pulled,
      append-nil,
      sum-of,
      length-append,
    )
lanes-mean parts s rank i n xs ys before after is a b m = absurd (omega (arith, b))

open-lanes : (s : Spec) (rank i n : ℕ) → IsNoLimit s
    → AllByRecursion IsOpenNode (lane_nodes s rank i n)
open-lanes s rank i zero h = tt
open-lanes s rank i (suc n) h = ((omega arith, h), open-lanes s rank (suc i) n h)

-- ---- sources

source-made : (parts : RowsOfSources) (s : Spec) (rows : List Row) → IsSourceSpec s
    → MakesRows parts s [] (rows ∷ []) → IsPermutation (source_list parts s) rows
    × (is_certain parts s [] ≡ true → is_valid_source parts s ≡ true)
source-made parts x1 rows i m = grind (arith, IsPermutation-same)

record SourcesMade (parts : RowsOfSources) (specs : List Spec) (i : ℕ) (xs before after : List Flow)
    (m : NodesMean parts (source_nodes i specs) before after) : Type 0 where
  pub flows : List Flow
  pub are : after ≡ xs ++ flows
  pub count : length flows ≡ length specs
  pub same : IsPermutation (sources_rows parts specs) (rows_together (flow_rows flows))
  pub certain : all_certain flows ≡ true → all_valid parts specs ≡ true
  pub pulled : (k : Kind) → meant_by parts k (source_nodes i specs) before after m ≡ 0

sources-mean : (parts : RowsOfSources) (specs : List Spec) (i : ℕ) (xs before after : List Flow)
    → before ≡ xs → length xs ≡ i → AllByRecursion IsSourceSpec specs
    → (m : NodesMean parts (source_nodes i specs) before after)
    → SourcesMade parts specs i xs before after m
sources-mean parts [] i xs before after is a sources m =
    search (arith, append-nil, IsPermutation-refl)
sources-mean parts (s ∷ specs) i xs before after is a sources m =
    let node : DraftNode = record { spec = s; rank = 1; offset = i; takes = 0; gives = 1 } in
    let made = node-at parts node xs [] [] before m.0 (is ∙ sym (append-nil xs)) a refl m.1 in
    let one = only-one (λ l. MakesRows parts s [] l) made.outs made.count made.makes in
    let z : Flow = flow_made parts s [] one.0 in
    let more = sources-mean parts specs (suc i) (xs ++ z ∷ []) m.0 after
    (made.are ∙ ap (λ l. xs ++ (flows_of z.certain z.needs l ++ [])) one.1)
    (omega (arith, a, length-append xs (z ∷ []))) sources.1 m.2 in
    grind (
      arith,
      more,
      append_assoc xs (z ∷ []),
      IsPermutation-append,
      source-made parts s one.0 sources.0 one.2,
      and_parts,
      and_from,
      none-of,
      made.pulled,
    )

open-sources : (specs : List Spec) (i : ℕ) → AllByRecursion IsSourceSpec specs
    → AllByRecursion IsOpenNode (source_nodes i specs)
open-sources [] i h = tt
open-sources (s ∷ specs) i h = grind (arith, open-sources specs (suc i) h.1)

-- ---- what is true of some flows

-- So many flows, whose rows together are these in any order. They are certain only where c is true,
-- and need n.
pub record Spread (lanes : ℕ) (rows : List Row) (c n : Bool) (flows : List Flow) : Type 0 where
  pub count : length flows ≡ lanes
  pub same : IsPermutation rows (rows_together (flow_rows flows))
  pub certain : all_certain flows ≡ true → c ≡ true
  pub needs : any_needs flows ≡ true → n ≡ true

-- flows of a form, of whose value P is true
pub record Form {A : Type 0} (form : A → List Flow) (P : A → Type 0) (flows : List Flow) : Type 0
  where
    pub value : A
    pub are : flows ≡ form value
    pub has : P value

abbrev pub Alone : (Flow → Type 0) → List Flow → Type 0
Alone P flows = Form (λ f. f ∷ []) P flows

-- P is true of the first flows, and Q of the others
pub record Both (P Q : List Flow → Type 0) (flows : List Flow) : Type 0 where
  pub front : List Flow
  pub back : List Flow
  pub are : flows ≡ front ++ back
  pub first : P front
  pub second : Q back

-- nothing is behind flows of which P is true
pub none-behind : (P : List Flow → Type 0) (l : List Flow) → P l → Both P (λ x. x ≡ []) l
none-behind P l p = grind (arith, append-nil)

pub all-before : (P : List Flow → Type 0) (l : List Flow) → Both P (λ x. x ≡ []) l → P l
all-before P l b = grind (arith, append-nil)

-- ---- marks

certain-marked : (c n : Bool) (lists : List (List Row)) → 0 < length lists
    → all_certain (flows_of c n lists) ≡ true → c ≡ true
certain-marked c n [] lt e = absurd (omega (arith, lt))
certain-marked c n (l ∷ lists) lt e = (and_parts _ _ e).0

needs-marked : (c n : Bool) (lists : List (List Row)) → any_needs (flows_of c n lists) ≡ true
    → n ≡ true
needs-marked c n [] e = absurd (cc)
needs-marked c n (l ∷ lists) e = grind (arith, or_cases, needs-marked c n lists)

rows-marked : (c n : Bool) (lists : List (List Row)) → lists ≡ flow_rows (flows_of c n lists)
rows-marked c n [] = refl
rows-marked c n (l ∷ lists) = ap (λ z. l ∷ z) (rows-marked c n lists)

-- ---- blocks

module _ (parts : RowsOfSources) (unlimited : Type 0) where
  -- Where P is true of the flows before the nodes, Q is true of those behind them. Where no node is
  -- a limit, each has an output, and the nodes of each kind that is told of pull so many rows.
  pub record Block (nodes : List DraftNode) (P Q : List Flow → Type 0) (n : Kind → ℕ) : Type 0
    where
      pub run : (before after : List Flow) → P before → (m : NodesMean parts nodes before after)
          → Q after × (unlimited → (k : Kind) → IsTold k
          → meant_by parts k nodes before after m ≡ n k)
      pub all_open : unlimited → AllByRecursion IsOpenNode nodes

module _ {parts : RowsOfSources} {unlimited : Type 0} where
  pub block-then : {xs ys : List DraftNode} {P Q R : List Flow → Type 0} {a b : Kind → ℕ}
      → Block parts unlimited xs P Q a → Block parts unlimited ys Q R b
      → Block parts unlimited (xs ++ ys) P R (λ k. a k + b k)
  block-then {xs} {ys} f g = record {
    run = λ before after p m.
        let s = means_of_append parts xs ys before after m in
        let one = f.run before s.middle p s.first in
        let two = g.run s.middle after one.0 s.then' in
        grind (arith, s.pulled, one, two);
    all_open = λ u. every-append IsOpenNode xs ys (f.all_open u) (g.all_open u);
  }

  pub block-so : {nodes : List DraftNode} {P Q R S : List Flow → Type 0} {a b : Kind → ℕ}
      → ((l : List Flow) → R l → P l) → ((l : List Flow) → Q l → S l)
      → ((k : Kind) → a k ≡ b k) → Block parts unlimited nodes P Q a
      → Block parts unlimited nodes R S b
  block-so from to same f = record {
    run = λ before after r m. grind (arith, f.run before after (from before r) m, to after, same);
    all_open = f.all_open;
  }

  -- where nothing is said of what is pulled
  pub block-unpulled : {nodes : List DraftNode} {P Q : List Flow → Type 0} {a : Kind → ℕ}
      → Block parts unlimited nodes P Q a → Block parts ⊥ nodes P Q (λ k. 0)
  block-unpulled f = record {
    run = λ before after p m. ((f.run before after p m).0, λ u. absurd u);
    all_open = λ u. absurd u;
  }

  pub no-block : {P Q : List Flow → Type 0} → ((l : List Flow) → P l → Q l)
      → Block parts unlimited [] P Q (λ k. 0)
  no-block {P} {Q} to = search (arith)

  -- lanes of a kind
  pub lanes-block : (s : Spec) (rank lanes : ℕ) (rows : List Row) (c n : Bool)
      (Q : List Flow → Type 0) → IsNoLimit s
      → ((ys zs : List Flow) → Spread lanes rows c n ys → AllZip (LaneMade parts s) ys zs
      → length zs ≡ lanes → Q zs)
      → Block parts unlimited (lane_nodes s rank 0 lanes) (Spread lanes rows c n) Q
      (λ k. pulls k s (length rows))
  lanes-block s rank lanes rows c n Q limit step = record {
    run = λ before after h m.
        let made = lanes-mean parts s rank 0 lanes [] before before after refl refl h.count m in
        let count = AllZip-long (LaneMade parts s) before made.lanes made.each ∙ h.count in
        grind (
          arith,
          made.are,
          step before made.lanes h made.each count,
          made.pulled,
          length_permutation _ _ h.same,
        );
    all_open = λ u. open-lanes s rank 0 lanes limit;
  }

  -- nodes behind so many flows, of which P is true
  pub block-moved : {nodes : List DraftNode} {Q R : List Flow → Type 0} {n : Kind → ℕ}
      (ends rank : ℕ) (P : List Flow → Type 0) → ((l : List Flow) → P l → length l ≡ ends)
      → Block parts unlimited nodes Q R n
      → Block parts unlimited (moved_nodes ends rank nodes) (Both P Q) (Both P R) n
  block-moved {nodes} ends rank P front f = record {
    run = λ before after p m.
        let made = means-moved parts ends rank nodes p.front p.back before after p.are
        (front p.front p.first) m in
        grind (arith, made, f.run p.back made.flows p.second made.means);
    all_open = λ u. every-moved IsOpenNode ends rank (λ node h. h) nodes (f.all_open u);
  }

  -- nodes with higher ranks
  pub block-raised : {nodes : List DraftNode} {Q R : List Flow → Type 0} {n : Kind → ℕ} (rank : ℕ)
      → Block parts unlimited nodes Q R n → Block parts unlimited (nodes_raised rank nodes) Q R n
  block-raised {nodes} {Q} {R} rank f =
      block-so (λ l q. record { front = []; back = l; are = refl; first = refl; second = q })
      (λ l b. subst R (sym (b.are ∙ ap (λ x. x ++ b.back) b.first)) b.second) (λ k. refl)
      (block-moved 0 rank (λ l. l ≡ []) (λ l e. ap length e) f)

  pub sources-block : (specs : List Spec) → AllByRecursion IsSourceSpec specs
      → Block parts unlimited (source_nodes 0 specs) (λ l. l ≡ [])
      (Spread (length specs) (sources_rows parts specs) (all_valid parts specs) true) (λ k. 0)
  sources-block specs sources = record {
    run = λ before after none m.
        grind (arith, sources-mean parts specs 0 [] before after none refl sources m);
    all_open = λ u. open-sources specs 0 sources;
  }

  -- a node that takes the first flows
  node-first : (node : DraftNode) (P Q R : List Flow → Type 0) (n : Kind → ℕ)
      → (unlimited → IsNoLimit node.spec) → 0 < node.gives → node.offset ≡ 0
      → ((l : List Flow) → P l → length l ≡ node.takes)
      → ((t : List Flow) (outs : List (List Row)) → P t
      → MakesRows parts node.spec (flow_rows t) outs
      → length outs ≡ node.gives
      → R (flows_of (is_certain parts node.spec t) (is_needed parts node.spec t) outs))
      → ((k : Kind) (t : List Flow) → unlimited → IsTold k → P t
      → pulls k node.spec (length (rows_together (flow_rows t))) ≡ n k)
      → Block parts unlimited (node ∷ []) (Both P Q) (Both R Q) n
  node-first node P Q R n limit some first takes step pulled = record {
    run = λ before after p m.
        let made = node-at parts node [] p.front p.back before m.0 p.are (sym first)
        (takes p.front p.first) m.1 in
        grind (arith, made, step p.front made.outs p.first made.makes made.count, pulled);
    all_open = λ u. ((some, limit u), tt);
  }

  -- a node that takes all flows
  all-block : (s : Spec) (rank m g : ℕ) (P R : List Flow → Type 0) (n : Kind → ℕ)
      → (unlimited → IsNoLimit s) → 0 < g → ((l : List Flow) → P l → length l ≡ m)
      → ((t : List Flow) (outs : List (List Row)) → P t → MakesRows parts s (flow_rows t) outs
      → length outs ≡ g → R (flows_of (is_certain parts s t) (is_needed parts s t) outs))
      → ((k : Kind) (t : List Flow) → unlimited → IsTold k → P t
      → pulls k s (length (rows_together (flow_rows t))) ≡ n k)
      → Block parts unlimited (joint_node s rank m g ∷ []) P R n
  all-block s rank m g P R n limit some takes step pulled =
      block-so (none-behind P) (all-before R) (λ k. refl)
      (node-first (joint_node s rank m g) P (λ l. l ≡ []) R n limit some refl takes step pulled)

  -- a node that takes all flows, and has one output
  pub joint-block : (s : Spec) (rank m : ℕ) (P : List Flow → Type 0) (Q : Flow → Type 0)
      (n : Kind → ℕ)
      → (unlimited → IsNoLimit s) → ((l : List Flow) → P l → length l ≡ m)
      → ((t : List Flow) (out : List Row) → P t → MakesRows parts s (flow_rows t) (out ∷ [])
      → Q (flow_made parts s t out))
      → ((k : Kind) (t : List Flow) → unlimited → IsTold k → P t
      → pulls k s (length (rows_together (flow_rows t))) ≡ n k)
      → Block parts unlimited (joint_node s rank m 1 ∷ []) P (Alone Q) n
  joint-block s rank m P Q n limit takes step pulled =
      all-block s rank m 1 P (Alone Q) n limit (omega arith) takes
      (λ t outs p makes count.
      let one = only-one (λ l. MakesRows parts s (flow_rows t) l) outs count makes in
      let f : Flow = flow_made parts s t one.0 in
      record {
        value = f;
        are = ap (flows_of f.certain f.needs) one.1;
        has = step t one.0 p one.2;
      }) pulled

  -- a node that takes all flows, which have a form, and has one output
  pub form-block : {A : Type 0} (s : Spec) (rank m : ℕ) (form : A → List Flow) (P : A → Type 0)
      (Q : Flow → Type 0) (n : Kind → ℕ) → (unlimited → IsNoLimit s)
      → ((a : A) → length (form a) ≡ m)
      → ((a : A) (out : List Row) → P a → MakesRows parts s (flow_rows (form a)) (out ∷ [])
      → Q (flow_made parts s (form a) out))
      → ((k : Kind) (a : A) → unlimited → P a
      → pulls k s (length (rows_together (flow_rows (form a)))) ≡ n k)
      → Block parts unlimited (joint_node s rank m 1 ∷ []) (Form form P) (Alone Q) n
  form-block s rank m form P Q n limit takes step pulled = search (arith, joint-block)

  -- a resize of the first flows
  pub resize-first : (rank m n : ℕ) (Q : List Flow → Type 0) (rows : List Row) (c d : Bool)
      → 0 < n
      → Block parts unlimited (resize_node rank m n ∷ [])
      (Both (Spread m rows c d) Q) (Both (Spread n rows c d) Q) (λ k. 0)
  resize-first rank m n Q rows c d some = grind (
    arith,
    node-first,
    length-map,
    IsPermutation-trans,
    IsPermutation-same,
    rows-marked,
    certain-marked,
    needs-marked,
  )

  pub resize-block : (rank m n : ℕ) (rows : List Row) (c d : Bool) → 0 < n
      → Block parts unlimited (resize_node rank m n ∷ []) (Spread m rows c d)
      (Spread n rows c d)
      (λ k. 0)
  resize-block rank m n rows c d some =
      block-so (none-behind (Spread m rows c d)) (all-before (Spread n rows c d)) (λ k. refl)
      (resize-first rank m n (λ l. l ≡ []) rows c d some)
