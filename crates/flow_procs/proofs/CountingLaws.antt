-- Numbers in order: those that are made, and those that are left.
use Rattle.flow_procs.proofs.Imports.{AreLong, Begins, Column, List, Makes, Means, Some, Spec, Table, UInt, [], adds, ap, append-nil, append_assoc, arith, chunk_rows, count_on, count_up, counting_own, inl, length, length-map, map, map-append, max, min, no_lists, number_row, refl, replicate, rows_of, subst, suc, sym, unread, values, zero, ℕ, ◌++◌, ◌+◌, ◌-◌, ◌<◌, ◌∙◌, ◌∷◌, ◌≡◌}
use Rattle.chunk_data.specs.declared.typed_value.ColumnType.TheVariants as column
use Rattle.query_model.specs.declared.processor_spec.Spec.TheVariants as spec

count_on-split : (a j k : ℕ) → count_on a (j + k) ≡ count_on a j ++ count_on (a + j) k
count_on-split a zero k = let e : 0 + k ≡ k = omega arith in let f : a ≡ a + 0 = omega arith in
    ap (λ n. count_on a n) e ∙ ap (λ n. count_on n k) f
count_on-split a (suc j) k =
    let e : suc j + k ≡ suc (j + k) = omega arith in
    let f : suc a + j ≡ a + suc j = omega arith in
    ap (λ n. count_on a n) e ∙ ap (λ l. a ∷ l)
    (count_on-split (suc a) j k ∙ ap (λ n. count_on (suc a) j ++ count_on n k) f)

pub count_on_next : (a j : ℕ) → count_on a (j + 1) ≡ count_on a j ++ (a + j) ∷ []
count_on_next a j = count_on-split a j 1

length-count_on : (a k : ℕ) → length (count_on a k) ≡ k
length-count_on a zero = refl
length-count_on a (suc k) = ap suc (length-count_on (suc a) k)

length-rows : (a k : ℕ) → length (map number_row (count_on a k)) ≡ k
length-rows a k = rw length-map (length-count_on a k)

count_up-is : (n : ℕ) → count_up n ≡ count_on 0 n
unfolding count_up
count_up-is zero = refl
count_up-is (suc n) =
    let e : suc n ≡ n + 1 = omega arith in
    let f : 0 + n ≡ n = omega arith in
    ap (λ l. l ++ n ∷ []) (count_up-is n)
    ∙ sym (ap (count_on 0) e ∙ count_on_next 0 n ∙ ap (λ k. count_on 0 n ++ k ∷ []) f)

-- a column of numbers beside no other
rows-of-numbers : (xs : List ℕ) (n : ℕ) → length xs ≡ n
    → adds (map UInt xs) (replicate n []) ≡ map number_row xs
rows-of-numbers xs n e =
    subst (λ k. adds (map UInt xs) (replicate k []) ≡ map number_row xs) e (go xs)
  where
    go : (ys : List ℕ) → adds (map UInt ys) (replicate (length ys) []) ≡ map number_row ys
    go [] = refl
    go (y ∷ ys) = ap (λ l. number_row y ∷ l) (go ys)

-- the numbers as a column beside no other
pub column-long : (columns : List Column) (one : Column) (first count : ℕ) → columns ≡ one ∷ []
    → values one ≡ map UInt (count_on first count) → AreLong count (map values columns)
column-long columns one first count e v =
    let long : length (map UInt (count_on first count)) ≡ count =
    rw length-map (length-count_on first count) in rw e (ap length v ∙ long, tt)

pub column-rows : (columns : List Column) (one : Column) (first count : ℕ) → columns ≡ one ∷ []
    → values one ≡ map UInt (count_on first count)
    → rows_of count (map values columns) ≡ map number_row (count_on first count)
column-rows columns one first count e v =
    ap (λ l. rows_of count (map values l)) e ∙ ap (λ l. adds l (replicate count [])) v
    ∙ rows-of-numbers (count_on first count) count (length-count_on first count)

pub begins : (s : Spec) (end rows : ℕ) → s ≡ spec.Numbers end rows
    → Begins s (spec.Numbers end rows) (counting_own 0 end)
begins s end rows e = record {
  spec = sym e;
  nothing = λ files. subst (λ z. Means (unread files) z (counting_own 0 end) no_lists no_lists [])
      (sym e) (let z : end - 0 ≡ end = omega arith in ap (λ k. map number_row (count_on 0 k)) z
      ∙ ap (λ l. map number_row l) (sym (count_up-is end)));
  unended = λ i n. n;
}

pub makes-some : (next end rows count : ℕ) (c : Table) → count ≡ min (end - next) (max rows 1) → 0
    < count → c.types ≡ column.UInt64 ∷ [] → c.rows ≡ map number_row (count_on next count) → Makes
    (spec.Numbers end rows) (counting_own next end) (counting_own (next + count) end) (Some c)
makes-some next end rows count c e some types made = record {
  means = λ x worked outs h.
      ap (λ l. (chunk_rows (outs 0) ++ l) ++ map number_row (count_on (next + count)
      (end - (next + count)))) made ∙ append_assoc (chunk_rows (outs 0)) (map number_row
      (count_on next count)) (map number_row (count_on (next + count) (end - (next + count))))
      ∙ ap (λ l. chunk_rows (outs 0) ++ l) (sym split) ∙ ap (λ l. l
      ++ map number_row (count_on next (end - next))) (sym (append-nil (chunk_rows (outs 0)))) ∙ h;
  types = λ ins. types;
  sizes = let l = length-made in omega (arith, l, e);
  progress = inl (let l = length-made in omega (arith, l, some));
  nothing = λ n. absurd (let l = ap length n in let m = length-rows next (end - next) in
      omega (arith, l, m, e, some));
  ends = λ i n. n;
}
  where
    split : map number_row (count_on next (end - next)) ≡ map number_row (count_on next count)
        ++ map number_row (count_on (next + count) (end - (next + count)))
    split =
        let z : end - next ≡ count + (end - (next + count)) = omega (arith, e) in
        ap (λ k. map number_row (count_on next k)) z ∙ ap (λ l. map number_row l)
        (count_on-split next count (end - (next + count))) ∙ map-append number_row
        (count_on next count) (count_on (next + count) (end - (next + count)))

    length-made : length c.rows ≡ count
    length-made = ap length made ∙ length-rows next count
