-- Births without a flaw, in order: each of a node with a reserve, whose blanks its new nodes took.
use Rattle.node_births.proofs.Imports.{AllByRecursion, AreOnce, AreSoundBirths, Birth, Blank, Bool, BoxPicture, GraphBefore, GrowthFlaw, GrowthForm, IsGraphBefore, IsSoundBirth, Kind, Left, List, None, Option, Reserve, ReserveForm, Some, Wire, [], all_kinds, all_places, ap, append-nil, append_assoc, arith, births_of, blanks_of, both_ways, box_at, cases_Bool, cases_eq, cond, count_by-cons, eq-eqb, false, false_from_ne_true, filter, filter-append, find, first_flaw, flat_map-append, flaw_over, form_kind, has_gap, has_large_port, has_wrong_end, holds_node, inl, inr, is_out_of_order, is_place, is_port_taken, is_some, lacks_blank, left_without, length, length-map, list_any, list_any-append, ltb-false, map, nat_le, nat_lt, ne_eqb, new_wires, not, option_map, own_wires, places-length, places_for, refl, reserve_before, subst, suc, sym, true, zero, ℕ, ◌&&◌, ◌++◌, ◌+◌, ◌<◌, ◌==◌, ◌||◌, ◌∙◌, ◌∷◌, ◌≡◌, ◌≤◌}
use Rattle.exec_laws.specs.declared.growth.GrowthFlaw.TheVariants as flaw
use Rattle.node_births.proofs.BlankPlaces.{blank-places, blanks-count, counted-once, is-counted, node_count, place_count}
use Rattle.node_births.proofs.ReserveLaws.{held-once, r_at, reserve-of}

-- ---- what a growth without a flaw is

unless-some : {A : Type 0} (b : Bool) (x : A) (y : Option A) → cond b (Some x) y ≡ None
    → (b ≡ false) × (y ≡ None)
unless-some true x y h = absurd (cc)
unless-some false x y h = (refl, h)

none-first : (a b : Option GrowthFlaw) → first_flaw a b ≡ None → (a ≡ None) × (b ≡ None)
none-first (Some f) b h = absurd (cc)
none-first None b h = (refl, h)

-- a growth of a node with this rank, with so much left, whose new nodes are at these places
pub record NoFlaw (rank : ℕ) (wires : List Wire) (left : Left) (n : ℕ) (g : GrowthForm)
    (places : List ℕ) : Type 0 where
  pub few_edges : length g.edges ≤ left.edges
  pub ends : list_any (has_wrong_end (length g.specs)) g.edges ≡ false
  pub ranked : list_any (is_out_of_order rank g.ranks) g.edges ≡ false
  pub small : list_any has_large_port g.edges ≡ false
  pub free : is_port_taken wires (new_wires n places g.edges) ≡ false
  pub gapless : list_any (has_gap (wires ++ new_wires n places g.edges)) (n ∷ places) ≡ false
  pub blanks : find (lacks_blank (map form_kind g.specs) left.blanks) all_kinds ≡ None

-- where no flaw is found
pub no-flaw : (rank past : ℕ) (wires : List Wire) (left : Left) (n : ℕ) (g : GrowthForm)
    → flaw_over rank past wires left n g ≡ None
    → NoFlaw rank wires left n g (places_for (map form_kind g.specs) left.blanks past)
no-flaw rank past wires left n g h = let rest = none-first _ _ (none-first _ _ h).1 in
    let b = unless-some _ _ _ (unless-some _ _ _ (none-first _ _ h).0).1 in
    let d = unless-some _ _ _ (unless-some _ _ _ b.1).1 in record {
      few_edges = ltb-false left.edges (length g.edges) b.0;
      ends = (unless-some _ _ _ b.1).0;
      ranked = d.0;
      small = (unless-some _ _ _ d.1).0;
      free = (unless-some _ _ _ rest.0).0;
      gapless = (unless-some _ _ _ (unless-some _ _ _ rest.0).1).0;
      blanks = none-found (find (lacks_blank (map form_kind g.specs) left.blanks) all_kinds) rest.1;
    }
  where
    none-found : (o : Option Kind) → option_map flaw.NoBlank o ≡ None → o ≡ None
    none-found None h = refl
    none-found (Some x) h = absurd (cc)

-- ---- blanks that aren't places

-- the blanks that births left have the node m no more often than those before, and never where it
-- is a place
pub blanks-left : (births : List Birth) (blanks : List Blank) (m : ℕ) → (node_count (filter (λ (b :
    Blank). not (is_place births b.node)) blanks) m ≤ node_count blanks m) × (is_place births m ≡
    true → node_count (filter (λ (b : Blank). not (is_place births b.node)) blanks) m ≡ 0)
blanks-left births [] m = grind arith
blanks-left births (b ∷ blanks) m = let h = blanks-left births blanks m in
    let test : Blank → Bool = λ (c : Blank). c.node == m in let all = count_by-cons test b blanks in
    let more = count_by-cons test b (filter (λ (c : Blank). not (is_place births c.node)) blanks) in
    elim (cases_Bool (is_place births b.node)) [
      | inl on ↦ rw on (omega (arith, h.0, all), h.1)
      | inr off ↦ rw off (
        omega (arith, h.0, all, more),
        λ is. elim (cases_eq b.node m) [
          | inl e ↦ absurd (both_ways _ off (rw e is))
          | inr ne ↦ more ∙ rw (ne_eqb b.node m ne, h.1 is) refl
        ],
      )
    ]

-- those are the blanks after the births
pub left-blanks : (boxes : List BoxPicture) (births : List Birth) (first count : ℕ)
    → filter (λ (b : Blank). not (is_place births b.node)) (blanks_of boxes [] first count)
    ≡ blanks_of boxes births first count
left-blanks boxes births first zero = refl
left-blanks boxes births first (suc count) =
    grind (arith, filter-append, left-blanks boxes births first count)

-- blanks are the same where the same nodes are unborn, of the same kinds
pub same-blanks : (a b : List BoxPicture) (x y : List Birth) (first count : ℕ) → ((i : ℕ) → i <
    count → ((is_place x (first + i) || is_some (box_at a (first + i)).spec) ≡ (is_place y (first +
    i) || is_some (box_at b (first + i)).spec)) × ((box_at a (first + i)).kind ≡ (box_at b (first +
    i)).kind)) → blanks_of a x first count ≡ blanks_of b y first count
same-blanks a b x y first zero h = refl
same-blanks a b x y first (suc count) h = let one = h count (omega arith) in
    rw (same-blanks a b x y first count (λ i lt. h i (omega (arith, lt))), one.0, one.1) refl

-- ---- places

pub all-places : (xs ys : List Birth) → all_places (xs ++ ys) ≡ all_places xs ++ all_places ys
all-places xs ys = flat_map-append (λ (b : Birth). b.places) xs ys

pub place-append : (xs ys : List Birth) (n : ℕ)
    → is_place (xs ++ ys) n ≡ (is_place xs n || is_place ys n)
place-append xs ys n = grind (arith, all-places, list_any-append)

-- a place of the first birth or of a later one
pub place-cons : (b : Birth) (births : List Birth) (n : ℕ)
    → is_place (b ∷ births) n ≡ (list_any (λ (k : ℕ). k == n) b.places || is_place births n)
place-cons b births n = list_any-append (λ (k : ℕ). k == n) b.places (all_places births)

pub births-append : (n : ℕ) (xs ys : List Birth)
    → births_of n (xs ++ ys) ≡ births_of n xs ++ births_of n ys
births-append n xs ys = filter-append (λ (b : Birth). b.expander == n) xs ys

pub holds-within : (first count m : ℕ) → first ≤ m → m < first + count
    → (nat_le first m && nat_lt m (first + count)) ≡ true
holds-within first count m le lt = grind arith

-- ---- one birth

module _ {wires : List Wire} {n : ℕ} {r : ReserveForm} {earlier : List Birth} {b : Birth}
    (s : IsSoundBirth wires n r earlier b) where
  abbrev blanks_before : List Blank
  blanks_before = (left_without r.left earlier).blanks

  pub flawless : NoFlaw r.rank (own_wires n s.sources s.targets) (left_without r.left earlier) n
      b.growth b.places
  flawless = rw s.places (no-flaw _ _ _ _ _ _ s.none)

  pub as-many : length b.places ≡ length b.growth.specs
  as-many = ap length s.places ∙ places-length _ _ _ ∙ length-map b.growth.specs form_kind

  -- no edge has a wrong end
  pub ends-right : list_any (has_wrong_end (length b.places)) b.growth.edges ≡ false
  ends-right = rw as-many flawless.ends

  -- each place is the node of a blank, and no two are that of one
  pub places-left : (m : ℕ) → place_count b.places m ≤ node_count blanks_before m
  places-left m = rw s.places
      (blank-places (map form_kind b.growth.specs) blanks_before r.nodes flawless.blanks m)

  pub place-left : (m : ℕ) → list_any (λ (k : ℕ). k == m) b.places ≡ true
      → 1 ≤ node_count blanks_before m
  place-left m there = omega (arith, is-counted (λ (k : ℕ). k == m) b.places there, places-left m)

  -- no earlier birth took a place
  pub free-place : (m : ℕ) → list_any (λ (k : ℕ). k == m) b.places ≡ true
      → is_place earlier m ≡ false
  free-place m there = false_from_ne_true _ (λ is. let one = place-left m there in
      let none = (blanks-left earlier r.left.blanks m).1 is in absurd (omega (arith, one, none)))

-- ---- births in order

module _ {g : GraphBefore} (before : IsGraphBefore g) where
  -- a birth of the node of a reserve, after these
  pub record IsSoundAfter (earlier : List Birth) (b : Birth) : Type 0 where
    pub number : ℕ
    pub in_range : number < length g.reserves
    pub sound : let n : ℕ = (r_at before number).node in
        IsSoundBirth g.wires n (reserve_before g n) (births_of n earlier) b

  abbrev pub AreSoundAfter : (earlier births : List Birth) → Type 0
  AreSoundAfter earlier [] = Unit {0}
  AreSoundAfter earlier (b ∷ births) =
      IsSoundAfter earlier b × AreSoundAfter (earlier ++ b ∷ []) births

  -- births and then more
  pub sound-both : (e xs ys : List Birth) → AreSoundAfter e xs → AreSoundAfter (e ++ xs) ys
      → AreSoundAfter e (xs ++ ys)
  sound-both e [] ys h k = rw append-nil at k
  sound-both e (x ∷ xs) ys h k = (
    h.0,
    sound-both (e ++ x ∷ []) xs ys h.1 (rw ((append_assoc e (x ∷ []) xs)) k),
  )

  -- those of one reserve, among others
  pub sound-own : (k : ℕ) → k < length g.reserves → (own births e : List Birth) → births_of (r_at
      before k).node e ≡ own → AreSoundBirths g.wires (r_at before k).node (reserve_before g (r_at
      before k).node) own births → AreSoundAfter e births
  sound-own k lt own [] e same h = tt
  sound-own k lt own (b ∷ births) e same h = let n : ℕ = (r_at before k).node in
      let here : births_of n (b ∷ []) ≡ b ∷ [] = rw (eq-eqb b.expander n h.0.expander) refl in (
        record { number = k; in_range = lt; sound = rw same h.0 },
        sound-own k lt (own ++ b ∷ []) births (e ++ b ∷ [])
            (births-append n e (b ∷ []) ∙ rw (same, here) refl) h.1,
      )

  -- ---- each birth

  pub record IsOfReserve (b : Birth) : Type 0 where
    pub number : ℕ
    pub in_range : number < length g.reserves
    pub expander : b.expander ≡ (r_at before number).node
    pub as_many : length b.places ≡ length b.growth.specs
    pub ends : list_any (has_wrong_end (length b.growth.specs)) b.growth.edges ≡ false
    pub held : (m : ℕ) → list_any (λ (k : ℕ). k == m) b.places ≡ true
        → holds_node m (r_at before number) ≡ true

  module _ {e : List Birth} {b : Birth} (h : IsSoundAfter e b) where
    abbrev pub r : Reserve
    r = r_at before h.number

    abbrev pub left : Left
    left = left_without (reserve_before g r.node).left (births_of r.node e)

    counts-before : (m : ℕ) → node_count left.blanks m
        ≤ node_count (blanks_of g.boxes [] r.first_node r.nodes) m
    counts-before m = subst (λ q. node_count left.blanks m ≤ node_count (blanks_of g.boxes []
        q.first_node q.nodes) m) (reserve-of before h.number h.in_range) (blanks-left (births_of
        r.node e) (reserve_before g r.node).left.blanks m).0

    pub places-once : AreOnce b.places
    places-once = counted-once b.places (λ m. let x = places-left h.sound m in
        grind (arith, counts-before m, blanks-count g.boxes [] r.first_node r.nodes m, g.boxes))

    -- a place is held by the reserve, and no birth of this took it before
    pub places-held : (m : ℕ) → list_any (λ (k : ℕ). k == m) b.places ≡ true → holds_node m r ≡ true
    places-held m there = let x = place-left h.sound m there in let y = counts-before m in
        let count = blanks-count g.boxes [] r.first_node r.nodes m in
        grind (arith, holds-within, count.within, r.first_node, r.nodes)

    pub places-free : (m : ℕ) → list_any (λ (k : ℕ). k == m) b.places ≡ true
        → is_place (births_of r.node e) m ≡ false
    places-free = free-place h.sound

    pub of-reserve : IsOfReserve b
    of-reserve =
        grind (arith, as-many h.sound, places-held, h.number, h.in_range, h.sound.expander, h.sound)

  pub are-of-reserves : (e births : List Birth) → AreSoundAfter e births
      → AllByRecursion IsOfReserve births
  are-of-reserves e [] h = tt
  are-of-reserves e (b ∷ births) h = (of-reserve h.0, are-of-reserves (e ++ b ∷ []) births h.1)

  -- of births, those of its reserve alone can have taken a node
  pub place-own : (k : ℕ) → k < length g.reserves → (m : ℕ) → holds_node m (r_at before k) ≡ true
      → (e : List Birth) → AllByRecursion IsOfReserve e
      → is_place (births_of (r_at before k).node e) m ≡ is_place e m
  place-own k lt m here [] h = refl
  place-own k lt m here (b ∷ e) h = let rest = place-own k lt m here e h.1 in
      elim (cases_eq b.expander (r_at before k).node) [
        | inl same ↦ rw (eq-eqb b.expander (r_at before k).node same) (place-cons b (births_of (r_at
            before k).node e) m ∙ rw rest refl ∙ sym (place-cons b e m))
        | inr ne ↦ rw (ne_eqb b.expander (r_at before k).node ne) (rest ∙ sym (place-cons b e m ∙
            rw (false_from_ne_true (list_any (λ (j : ℕ). j == m) b.places) (λ there. ne
            (h.0.expander ∙ ap (λ j. (r_at before j).node) (held-once before m h.0.number k
            h.0.in_range lt (h.0.held m there) here)))) refl))
      ]

  -- a new place is no place before
  pub new-place : (e : List Birth) → AllByRecursion IsOfReserve e → (b : Birth) → (h : IsSoundAfter
      e b) → (m : ℕ) → list_any (λ (k : ℕ). k == m) b.places ≡ true → is_place e m ≡ false
  new-place e all b h m there =
      sym (place-own h.number h.in_range m (places-held h m there) e all) ∙ places-free h m there
