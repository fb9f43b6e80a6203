-- The boxes that are kept for lists: which part each of them serves, and which birth took it.
use Rattle.query_run.proofs.Imports.{AllByRecursion, Birth, BoxPicture, IsKeptFor, ColumnType, Contains, DraftNode, IsBirth, List, PartPlace, PartSpec, PlanReserve, Reserve, Some, Spec, TakeBlanks, [], all_places, ap, append-nil, append_assoc, ap₂, arith, births_of, blanks_of, cases_Bool, cases_lt, eq-eqb, false, flat_map, flat_map-append, form_kind, get_or, get_or-map-range_with_len, holds_node, inl, inr, is_place, kept_places, kind_of, length, length-append, length-map-range_with_len, list_any, list_any-append, list_source, map, numbered_parts, part_place, place-of, places_for, refl, reserve_of, reserved_nodes, reserves_from, row_of, slice_get, slice_get-get_or, spec_at, spec_read, specs_in, suc, sym, take, true, zero, ℕ, ◌++◌, ◌+◌, ◌-◌, ◌<◌, ◌==◌, ◌∙◌, ◌∷◌, ◌≡◌, ◌≢◌, ◌≤◌}
use Rattle.query_run.proofs.Reserves.{kept-nodes, list_kept}

-- ---- which list a box is kept for

list-of : (s : Spec) → (row_of (kind_of s)).reads_list ≡ true
    → (list : PartSpec) × (s ≡ list_source list)
list-of s e = grind arith

-- behind one node more, for which so many are kept
kept-later : (n nodes behind k : ℕ) (z : DraftNode) (zs : List DraftNode) (q : ℕ)
    → behind ≡ nodes + k → ((ys : List DraftNode)
    → reserved_nodes (reserves_from n (z ∷ ys)) ≡ k + reserved_nodes (reserves_from (suc n) ys))
    → IsKeptFor (suc n) behind zs q → IsKeptFor n nodes (z ∷ zs) q
unfolding spec_at
kept-later n nodes behind k z zs q same each h =
    let more = each (take h.lister zs) in
    record {
      lister = suc h.lister;
      in_range = grind (arith, h.in_range);
      list = h.list;
      reads = h.reads;
      place = h.place;
      place_in_range = h.place_in_range;
      is = grind (arith, h.is, same, more);
    }

pub kept-for : (n nodes : ℕ) (zs : List DraftNode) (q : ℕ) → nodes ≤ q
    → q < nodes + reserved_nodes (reserves_from n zs) → IsKeptFor n nodes zs q
unfolding spec_at
kept-for n nodes [] q le lt = absurd (omega (arith, le, lt))
kept-for n nodes (z ∷ zs) q le lt = elim (cases_Bool (row_of (kind_of z.spec)).reads_list) [
  | inl e ↦ elim (cases_lt q (nodes + 32)) [
    | inl less ↦
        let l = list-of z.spec e in
        record {
          lister = 0;
          in_range = omega arith;
          list = l.0;
          reads = l.1;
          place = q - nodes;
          place_in_range = omega (arith, less, le);
          is = omega (arith, le);
        }
    | inr past ↦
        let below = rw e at lt in
        let more = kept-nodes (list_kept n) (reserves_from (suc n) zs) in
        kept-later n nodes (nodes + 32) 32 z zs q refl
        (λ ys. rw e (kept-nodes (list_kept n) (reserves_from (suc n) ys)))
        (kept-for (suc n) (nodes + 32) zs q past (omega (arith, below, more)))
  ]
  | inr e ↦ kept-later n nodes nodes 0 z zs q (omega arith) (λ ys. rw e (omega arith))
      (kept-for (suc n) nodes zs q le (rw e at lt))
]

-- ---- the places that are noted of them

pub slice-left : {A : Type 0} (xs ys : List A) (k : ℕ) → k < length xs
    → slice_get (xs ++ ys) k ≡ slice_get xs k
slice-left [] ys k lt = absurd (omega (arith, lt))
slice-left (x ∷ xs) ys k lt = grind (arith, slice-left xs ys)

pub slice-right : {A : Type 0} (xs ys : List A) (k : ℕ)
    → slice_get (xs ++ ys) (length xs + k) ≡ slice_get ys k
slice-right [] ys k = grind arith
slice-right (x ∷ xs) ys k = grind (arith, slice-right xs ys k)

abbrev pub kept_of : List Spec → PlanReserve → List PartPlace
kept_of specs r = kept_places (part_place (spec_read specs r.node)).table 1 (length r.kinds)

kept-length : (specs : List Spec) (rs : List PlanReserve)
    → length (flat_map (kept_of specs) rs) ≡ reserved_nodes rs
kept-length specs [] = refl
kept-length specs (r ∷ rs) =
    grind (arith, length-append, length-map-range_with_len, kept-nodes r rs, kept-length specs rs)

-- what is kept for the list at place m of the nodes, among what is kept for the others
reserves-split : (n : ℕ) (zs : List DraftNode) (m k : ℕ) → m < length zs
    → (row_of (kind_of (spec_at (specs_in zs) m))).reads_list ≡ true → k ≡ n + m
    → (later : List PlanReserve)
    × (reserves_from n zs ≡ reserves_from n (take m zs) ++ list_kept k ∷ later)
unfolding spec_at
reserves-split n [] m k lt list at = absurd (omega (arith, lt))
reserves-split n (z ∷ zs) zero k lt list at = (reserves_from (suc n) zs, grind arith)
reserves-split n (z ∷ zs) (suc m) k lt list at =
    search (arith, append_assoc, reserves-split (suc n) zs m k)

pub kept-place : (specs : List Spec) (zs : List DraftNode) (m place : ℕ) → m < length zs
    → (row_of (kind_of (spec_at (specs_in zs) m))).reads_list ≡ true → place < 32
    → slice_get (flat_map (kept_of specs) (reserves_from 0 zs))
    (reserved_nodes (reserves_from 0 (take m zs)) + place)
    ≡ Some (record { table = (part_place (spec_read specs m)).table; part = place + 1 })
kept-place specs zs m place lt list within =
    let s = reserves-split 0 zs m m lt list (omega arith) in
    let before : List PlanReserve = reserves_from 0 (take m zs) in
    let t : ℕ = (part_place (spec_read specs m)).table in
    let f : ℕ → PartPlace = λ part. record { table = t; part = part } in
    let len = length-map-range_with_len f 1 32 in
    let next : 1 + place ≡ place + 1 = omega arith in
    ap₂ (λ l k. slice_get l (k + place))
    (ap (flat_map (kept_of specs)) s.1 ∙ flat_map-append (kept_of specs) before (list_kept m ∷ s.0))
    (sym (kept-length specs before))
    ∙ slice-right (flat_map (kept_of specs) before) _ place
    ∙ slice-left (kept_places t 1 32) _ place (omega (arith, within, len))
    ∙ slice_get-get_or (kept_places t 1 32) place (f 0) (omega (arith, within, len))
    ∙ ap (λ p. Some p) (get_or-map-range_with_len f 1 32 place (place + 1) (f 0) within next)

-- ---- the birth that took a node

pub numbered-contains : (t : ℕ) (types : List ColumnType) (k : ℕ) (paths : List (List ℕ)) (j : ℕ)
    (path : List ℕ) → j < length paths → get_or paths j path ≡ path
    → Contains (numbered_parts t types k paths)
    (record { table = t; part = j + k; types = types; path = path })
numbered-contains t types k (p ∷ paths) (suc j) path lt is =
    let rest = numbered-contains t types (k + 1) paths j path (omega (arith, lt)) is in
    (suc rest.0, omega (arith, rest.1), grind (arith, rest.2))
numbered-contains t types k paths j path lt is = grind arith

-- no new node of the birth is this one
abbrev pub Away : ℕ → Birth → Type 0
Away q b = (k : ℕ) → k < length b.places → get_or b.places k 0 ≢ q

pub none-placed : (q : ℕ) (births : List Birth) → AllByRecursion (Away q) births
    → is_place births q ≡ false
none-placed q [] h = refl
none-placed q (b ∷ births) h =
    list_any-append (λ (k : ℕ). k == q) b.places (all_places births)
    ∙ elim (cases_Bool (list_any (λ (k : ℕ). k == q) b.places)) [
      | inl new ↦ let p = place-of b.places q new in absurd (h.0 p.place p.in_range p.is)
      | inr old ↦ rw (old, none-placed q births h.1) refl
    ]

module _ (R : List Reserve) (before after : List BoxPicture) where
  -- a birth took node q, after these births and before those
  pub record IsTaken (q : ℕ) : Type 0 where
    pub earlier : List Birth
    pub birth : Birth
    pub later : List Birth
    pub each : AllByRecursion (IsBirth R before after) earlier
    pub is_birth : IsBirth R before after birth
    pub place : ℕ
    pub in_range : place < length birth.places
    pub is : get_or birth.places place 0 ≡ q

  pub taken-by : (births : List Birth) (q : ℕ) → AllByRecursion (IsBirth R before after) births
      → is_place births q ≡ true → (t : IsTaken q) × (births ≡ t.earlier ++ t.birth ∷ t.later)
  taken-by [] q h e = absurd (cc)
  taken-by (b ∷ births) q h e = elim (cases_Bool (list_any (λ (k : ℕ). k == q) b.places)) [
    | inl here ↦
        let p = place-of b.places q here in (
          record {
            earlier = [];
            birth = b;
            later = births;
            each = tt;
            is_birth = h.0;
            place = p.place;
            in_range = p.in_range;
            is = p.is;
          },
          refl,
        )
    | inr none ↦
        let t = taken-by births q h.1
        (rw none at (sym (list_any-append (λ (k : ℕ). k == q) b.places (all_places births)) ∙ e)) in
        let s : IsTaken q = t.0 in
        (record s { earlier = b ∷ s.earlier; each = (h.0, s.each) }, ap (λ l. b ∷ l) t.1)
  ]

  pub takes-at : (e earlier : List Birth) (b : Birth) (later : List Birth)
      → TakeBlanks R before e (earlier ++ b ∷ later)
      → (past : ℕ) × (b.places ≡ places_for (map form_kind b.growth.specs)
      (blanks_of before (e ++ earlier) (reserve_of R b.expander).first_node
      (reserve_of R b.expander).nodes) past)
  takes-at e [] b later t = rw append-nil t.0
  takes-at e (x ∷ earlier) b later t =
      rw (append_assoc e (x ∷ []) earlier) at (takes-at (e ++ x ∷ []) earlier b later t.1)

  -- what is true of each birth that isn't of node n is true of births of which none is
  pub others-all : (n : ℕ) (P : Birth → Type 0)
      → ((b : Birth) → IsBirth R before after b → b.expander ≢ n → P b) → (births : List Birth)
      → AllByRecursion (IsBirth R before after) births → births_of n births ≡ []
      → AllByRecursion P births
  others-all n P each [] h none = tt
  others-all n P each (b ∷ births) h none =
      grind (arith, eq-eqb, others-all n P each births)

  -- another birth takes no node that the reserve of node n holds
  pub away-held : ((q m n : ℕ) → holds_node q (reserve_of R m) ≡ true
      → holds_node q (reserve_of R n) ≡ true → m ≡ n) → (n q : ℕ)
      → holds_node q (reserve_of R n) ≡ true → (b : Birth) → IsBirth R before after b
      → b.expander ≢ n → Away q b
  away-held one n q held b i other k within e =
      grind (arith, i.reserved k within, one)
