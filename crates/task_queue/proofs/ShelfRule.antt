-- Each step of a shelf keeps its rule, from its first state to its last.
use Rattle.task_queue.proofs.Imports.{Act, AllFit, Allows, Bool, Claims, Final, Holding, IsHome, IsKept, IsOut, Joins, List, Me, Option, Returns, Seen, SlotsFit, Some, Splits, State, Takes, Valid, [], all_shares, ap, arith, at_index, at_map, carried_after, cond, dite, either, eq-eqb, eqb, get_elem?, get_or, get_or-set_other, get_or-set_same, gives, held_at, inl, inr, keeps, leaving, length, length-map, length-replicate, length-set, less_one_share, map, ne_eqb, no_share, none, one_share, opening, refl, replicate, set, set_again, set_else, set_here, some, some-ne-none, step, stepped, subst, suc, sym, takes, taking, times, total_over, whole_holding, with_shares_of, zero, ℕ, ℕ_discrete, ⊎_elim, ◌++◌, ◌+◌, ◌<◌, ◌∙◌, ◌∷◌, ◌≡◌, ◌≢◌, ◌≤◌, ◌⊎◌}
use mathlib.Core.Option as maybe
use Rattle.task_queue.proofs.Counts.{hit_same, times-without-other, at_below, total-set, total-push, total-ge, total-single}

below_from_at : {A : Type 0} (l : List A) (i : ℕ) (a : A) → get_elem? l i ≡ some a → i < length l
below_from_at [] i a e = absurd (some-ne-none a (sym e))
below_from_at (x ∷ xs) zero a e = omega arith
below_from_at (x ∷ xs) (suc i) a e = let h = below_from_at xs i a e in omega arith

ones_at : (k i : ℕ) → i < k → get_or {A = ℕ} (replicate k 1) i 0 ≡ 1
ones_at zero i h = absurd (omega arith)
ones_at (suc k) zero h = refl
ones_at (suc k) (suc i) h = ones_at k i (omega arith)

-- ---- what a seat holds

held_at-none : (n : ℕ) (v : Holding) → v.parts ≡ 0 → held_at n v ≡ 0
held_at-none n v e = ap (λ (t : Bool). cond t 0 (times n v.held)) (eq-eqb v.parts 0 e)

held_at-some : (n : ℕ) (v : Holding) → 0 < v.parts → held_at n v ≡ times n v.held
held_at-some n v e = ap (λ (t : Bool). cond t 0 (times n v.held))
    (ne_eqb v.parts 0 (λ z. absurd (omega arith)))

held_at-le : (n : ℕ) (v w : Holding) → (0 < v.parts → 0 < w.parts) → times n v.held ≤ times n w.held
    → held_at n v ≤ held_at n w
held_at-le n v w some_part more = dite (ℕ_discrete v.parts 0)
    (λ z. let a = held_at-none n v z in omega arith)
    (λ z. let a = held_at-some n v (omega arith) in
    let b = held_at-some n w (some_part (omega arith)) in
    omega arith)

nothing-held : (n : ℕ) (v : Holding) → v.held ≡ [] → held_at n v ≡ 0
nothing-held n v bare =
    dite (ℕ_discrete v.parts 0)
    (λ z. held_at-none n v z)
    (λ z. held_at-some n v (omega arith) ∙ ap (times n) bare)

-- the place stays out where a seat comes to know more
known-set : (vs : List Holding) (id n : ℕ) (v w : Holding) → get_elem? vs id ≡ some v
    → held_at n v ≤ held_at n w → 1 ≤ total_over (held_at n) vs → 1
    ≤ total_over (held_at n) (set vs id w)
known-set vs id n v w mine more known = let t = total-set (held_at n) vs id v w mine in omega arith

-- ---- steps

module _ {V : Type 0} where
  -- the state in which the word and the home of the place n and the view of the seat id changed
  abbrev changed : State (Option V) Holding → ℕ → ℕ → maybe.Option (Option V) → ℕ → Holding
      → State (Option V) Holding
  changed s n x h id w =
      record { words = set s.words (n + 1) x; homes = set s.homes n h; views = set s.views id w }

module _ {V : Type 0} {fits : V → ℕ → Type 0} where
  -- such a state has the rule where the place n has
  kept-changed : (s : State (Option V) Holding) → IsKept fits s
      → (id n : ℕ) (v w : Holding) (x : ℕ) (h : maybe.Option (Option V))
      → get_elem? s.views id ≡ some v → w.parts ≡ v.parts
      → ((k : ℕ) → k ≢ n → times k v.held ≤ times k w.held)
      → IsHome fits (changed s n x h id w) n ⊎ IsOut (changed s n x h id w) n
      → IsKept fits (changed s n x h id w)
  kept-changed s kept id n v w x h mine same more here = record {
    wide = length-set s.words (n + 1) x ∙ kept.wide
        ∙ ap (λ z. z + 1) (sym (length-set s.homes n h));
    whole = let t = total-set (λ (u : Holding). u.parts) s.views id v w mine in
        let k = kept.whole in omega arith;
    places = λ k less. dite (ℕ_discrete k n)
        (λ e. subst (λ z. IsHome fits (changed s n x h id w) z ⊎ IsOut (changed s n x h id w) z)
        (sym e) here)
        (λ other. ⊎_elim
        (λ (t : IsHome fits s k). inl record {
          word = word k other ∙ t.word;
          value = t.value;
          here = set_else s.homes n k h other ∙ t.here;
          fitting = t.fitting;
        })
        (λ (t : IsOut s k). inr record {
          word = word k other ∙ t.word;
          known = known-set s.views id k v w mine (held_at-le k v w (λ p. omega arith)
              (more k other)) t.known;
        })
        (kept.places k (let l = length-set s.homes n h in omega arith)));
  }
    where
      word : (k : ℕ) → k ≢ n → get_or (set s.words (n + 1) x) (k + 1) 0 ≡ get_or s.words (k + 1) 0
      word k other = get_or-set_other s.words (n + 1) (k + 1) x 0 (λ q. other (omega arith))

  -- a place may be claimed
  pub claim-allowed : (slots id n : ℕ) (m : Me (Option V) Holding) → n < slots → 0 < m.0.parts
      → Allows (IsKept fits) slots id m (n + 1) (λ x. either (eqb x 1) 0 x)
      (Claims fits (step slots (n + 1) 1 0 none) m)
  claim-allowed slots id n m less some_part s kept many mine small = ⊎_elim
      (λ (t : IsHome fits s n). subst Gives (sym t.word) (
        taking n m.0,
        takes n (Some t.value),
        t.here,
        kept-changed s kept id n m.0 (taking n m.0) 0 none mine refl (λ k e. omega arith)
            (inr record {
              word = get_or-set_same s.words (n + 1) 0 0 (let w = kept.wide in omega arith);
              known = let h = hit_same n in let a = held_at-some n (taking n m.0) some_part in
                  let b = total-ge (held_at n) (set s.views id (taking n m.0)) id (taking n m.0)
                  (set_here s.views id (taking n m.0) (below_from_at s.views id m.0 mine)) in
                  omega arith;
            }),
        record {
          took = λ _ k e. subst (λ z. Takes fits m z (taking n m.0, (n, Some t.value) ∷ m.1))
              (let q : n ≡ k = omega arith in q)
              record { value = t.value; fitting = t.fitting; seat = refl };
          left = λ ne. absurd (ne refl);
        },
      ))
      (λ (t : IsOut s n). subst Gives (sym t.word) (
        m.0,
        keeps,
        tt,
        subst (IsKept fits) (λ i. record {
          words = sym (set_again s.words (n + 1) 0
              (at_index s.words (n + 1) 0 (let w = kept.wide in omega arith) (sym t.word))) i;
          homes = s.homes;
          views = sym (set_again s.views id m.0 mine) i;
        }) kept,
        record { took = λ e. absurd (omega arith); left = λ _. refl },
      ))
      (kept.places n (omega arith))
    where
      Gives : ℕ → Type 0
      Gives x = (w : Holding) × (a : Act (Option V)) × Valid s.homes m.1 a
          × IsKept fits (stepped s (n + 1) (either (eqb x 1) 0 x) id m.1 w a)
          × Claims fits (step slots (n + 1) 1 0 none) m x (w, carried_after m.1 a)

  -- a value that fits its place may go home
  pub return-allowed : (slots id n : ℕ) (v : Holding) (x : V) (c : List (ℕ × Option V)) → n < slots
      → fits x n
      → Allows (IsKept fits) slots id (v, (n, Some x) ∷ c) (n + 1) (λ _. 1)
      (Returns (step slots (n + 1) 1 0 none) (v, (n, Some x) ∷ c))
  return-allowed slots id n v x c less fit s kept many mine small = (
    leaving n v,
    gives,
    tt,
    kept-changed s kept id n v (leaving n v) 1 (some (Some x)) mine refl
        (λ k e. let t = times-without-other k n v.held e in omega arith) (inl record {
          word = get_or-set_same s.words (n + 1) 1 0 (let w = kept.wide in omega arith);
          value = x;
          here = set_here s.homes n (some (Some x)) (omega arith);
          fitting = fit;
        }),
    λ k e. ap (λ (z : ℕ). (leaving z v, c)) (let q : n ≡ k = omega arith in q),
  )

  -- the rule speaks of views only by the parts of all and by what is known to be out
  kept-views : (s : State (Option V) Holding) → IsKept fits s → (views : List Holding)
      → total_over (λ v. v.parts) views ≡ total_over (λ v. v.parts) s.views
      → ((n : ℕ) → total_over (held_at n) s.views ≤ total_over (held_at n) views)
      → IsKept fits record { words = s.words; homes = s.homes; views = views }
  kept-views s kept views same more = record {
    wide = kept.wide;
    whole = same ∙ kept.whole;
    places = λ n less. ⊎_elim
        (λ (t : IsHome fits s n).
        inl record { word = t.word; value = t.value; here = t.here; fitting = t.fitting })
        (λ (t : IsOut s n). inr record {
          word = t.word;
          known = let a = t.known in let b = more n in omega arith;
        })
        (kept.places n less);
  }

  -- one part of a seat may go to a new one
  pub share-allowed : (id : ℕ) (v : Holding) → 1 < v.parts
      → Splits (IsKept fits) id v (less_one_share v) one_share
  share-allowed id v some_parts s kept mine =
      let left = less_one_share v in let vs : List Holding = set s.views id left in
      kept-views s kept (vs ++ one_share ∷ [])
      (let t = total-set (λ (u : Holding). u.parts) s.views id v left mine in
      let q = total-push (λ (u : Holding). u.parts) vs one_share in omega arith)
      (λ n. let t = total-set (held_at n) s.views id v left mine in
      let q = total-push (held_at n) vs one_share in
      let l = held_at-le n v left (λ p. omega arith) (omega arith) in omega arith)

  -- a seat may take in the parts of another, which holds nothing
  pub gather-allowed : (id : ℕ) (v : Holding) (other : ℕ) (w : Holding) → w.held ≡ []
      → Joins (IsKept fits) id v other w (with_shares_of v w) no_share
  gather-allowed id v other w bare s kept mine apart theirs =
      let both = with_shares_of v w in let vs : List Holding = set s.views id both in
      kept-views s kept (set vs other no_share)
      (let t = total-set (λ (u : Holding). u.parts) s.views id v both mine in
      let q = total-set (λ (u : Holding). u.parts) vs other w no_share theirs in omega arith)
      (λ n. let t = total-set (held_at n) s.views id v both mine in
      let q = total-set (held_at n) vs other w no_share theirs in
      let l = held_at-le n v both (λ p. omega arith) (omega arith) in
      let b = nothing-held n w bare in omega arith)

  -- ---- the first state and the last

  -- the rule holds of values that fit their places
  pub kept-opening : (vs : List V) (ws : List ℕ) (xs : List (Option V)) → AllFit fits vs
      → ws ≡ replicate (length vs + 1) 1 → xs ≡ map (λ v. Some v) vs
      → IsKept fits (opening ws xs whole_holding)
  kept-opening vs ws xs fit is laid =
      subst (λ (z : List ℕ × List (Option V)). IsKept fits (opening z.0 z.1 whole_holding))
      (λ i. (sym is i, sym laid i))
      record {
        wide = length-replicate (length vs + 1) 1 ∙ ap (λ z. z + 1) (sym many);
        whole = refl;
        places = λ n less. let less' : n < length vs = (let m = many in omega arith) in
            let p = at_below vs n less' in inl record {
              word = ones_at (length vs + 1) (n + 1) (omega arith);
              value = p.0;
              here = at_map some (map (λ v. Some v) vs) n (Some p.0)
                  (at_map (λ v. Some v) vs n p.0 p.1);
              fitting = fit n p.0 p.1;
            };
      }
    where
      many : length (map some (map (λ (v : V). Some v) vs)) ≡ length vs
      many = length-map (map (λ (v : V). Some v) vs) some ∙ length-map vs (λ (v : V). Some v)

  -- where one seat has all parts and holds nothing, each place has a value that fits it
  pub fit-final : (ws : List ℕ) (xs : List (Option V)) (id : ℕ) (v : Holding)
      → Final (Seen (IsKept fits) id v) ws xs → v.parts ≡ all_shares → v.held ≡ []
      → SlotsFit fits (length xs) xs
  fit-final ws xs id v f all bare n less = let s = f.0 in let kept = f.1.0 in ⊎_elim
      (λ (t : IsHome fits s n). (t.value, f.4 n (Some t.value) t.here, t.fitting))
      (λ (t : IsOut s n). absurd (
      let single = total-single (λ (u : Holding). u.parts) (held_at n)
      (λ u. held_at-none n u) s.views id v
      f.1.1 (kept.whole ∙ sym all) in
      let b = nothing-held n v bare in let k = t.known in omega arith))
      (kept.places n (let m = f.3 in omega arith))
