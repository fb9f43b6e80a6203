-- Racks that are filled with new boxes, one after another.
use Rattle.std.proofs.Common.{◌≡◌, ℕ, ◌+◌, ◌<◌, ◌≤◌, cond, Bool, true, false, List, [], ◌∷◌, ◌++◌, map, take, length, get_or, Option, Some, refl, sym, ap, subst, ◌∙◌, arith}
use Rattle.std.specs.List.{All, count_by}
use Rattle.std.proofs.lemmas.List.{take_all, take_more}
use Rattle.std.proofs.lemmas.List.Elements.{All-append, All-cons, All-nil}
use Rattle.std.proofs.lemmas.List.Sums.{sum_by-append}
use Rattle.query_model.specs.Database.{Files}
use Rattle.query_model.specs.declared.processor_spec.Kind.{Kind}
use Rattle.query_model.specs.declared.processor_spec.Kind.TheVariants as kind
use Rattle.proc_api.specs.Names.{BoxPicture, IsBlank, IsSourceKind, IsUnloadedProcessor, is_of, same_kind}
use Rattle.proc_api.specs.KindRows.{stock_of}
use Rattle.query_run.specs.Racks.{AreLawfulOver, HasStandardStock, IsHonest}
use Rattle.qrun.specs.declared.racks.TheConstants.{LISTS, OTHERS, SOURCES}
use Rattle.qrun.specs.Stocking.{with_each, with_more, Adds, AddsEach, AddsTold, IsServing, IsStocked}

-- a new box of the kind was added
pub adds_one : (k : Kind) (files : Option Files) (before after : List BoxPicture) (p : BoxPicture)
    → IsUnloadedProcessor k p → (IsSourceKind k → p.files ≡ files) → after ≡ before ++ p ∷ []
    → AddsTold k 1 files before after
adds_one k files before after p new told last = λ stock s.
    subst (IsStocked files (with_more k 1 stock)) (sym last) (record {
      each = All-append (IsServing files) before (p ∷ []) s.each
          (All-cons (IsServing files) p [] (record {
            blank = new.blank;
            lawful = new.lawful;
            told = λ source. told (subst IsSourceKind new.kind source);
          }) (All-nil (IsServing files)));
      count = λ j.
          let both = sum_by-append (λ (q : BoxPicture). cond (is_of j q) 1 0) before (p ∷ []) in
          let was = s.count j in
          let same : is_of j p ≡ same_kind k j = ap (λ i. same_kind i j) new.kind in
          grind (arith, both, was, same);
    })

-- and one of a kind that reads no file
pub adds_other : (k : Kind) (before after : List BoxPicture) (p : BoxPicture)
    → IsUnloadedProcessor k p → (IsSourceKind k → ⊥) → after ≡ before ++ p ∷ []
    → Adds k 1 before after
adds_other k before after p new without last = λ files.
    adds_one k files before after p new (λ source. absurd (without source)) last

-- none was
pub adds_none : (k : Kind) (files : Option Files) (boxes : List BoxPicture)
    → AddsTold k 0 files boxes boxes
adds_none k files boxes = λ stock s.
    record { each = s.each; count = λ j. let was = s.count j in grind (arith, was) }

-- and so many more
pub adds_more : (k : Kind) (n m : ℕ) (files : Option Files) (a b c : List BoxPicture)
    → AddsTold k n files a b → AddsTold k m files b c → AddsTold k (n + m) files a c
adds_more k n m files a b c h g = λ stock s.
    let x = g (with_more k n stock) (h stock s) in
    record { each = x.each; count = λ j. let now = x.count j in grind (arith, now) }

-- until there are so many
pub adds_all : (k : Kind) (n m : ℕ) (files : Option Files) (a b : List BoxPicture)
    → n ≡ m → AddsTold k n files a b → AddsTold k m files a b
adds_all k n m files a b e h = subst (λ i. AddsTold k i files a b) e h

-- several kinds in turn

with_one : (xs : List (Kind × ℕ)) (x : Kind × ℕ) (stock : Kind → ℕ)
    → with_each (xs ++ x ∷ []) stock ≡ with_more x.0 x.1 (with_each xs stock)
with_one [] x stock = refl
with_one (y ∷ xs) x stock = with_one xs x (with_more y.0 y.1 stock)

-- and one kind more
pub adds_next : (more : List (Kind × ℕ)) (i : ℕ) (x : Kind × ℕ) (a b c : List BoxPicture)
    → i < length more → x ≡ get_or more i x
    → AddsEach (take i more) a b → Adds x.0 x.1 b c → AddsEach (take (i + 1) more) a c
adds_next more i x a b c lt at h g =
    let next : take (i + 1) more ≡ take i more ++ x ∷ [] =
    take_more more i x lt ∙ ap (λ y. take i more ++ y ∷ []) (sym at) in
    subst (λ l. AddsEach l a c) (sym next) (λ files stock s.
    subst (λ f. IsStocked files f c) (sym (with_one (take i more) x stock))
    (g files (with_each (take i more) stock) (h files stock s)))

-- and all of them
pub adds_every : (more : List (Kind × ℕ)) (i : ℕ) (a b : List BoxPicture)
    → length more ≤ i → AddsEach (take i more) a b → AddsEach more a b
adds_every more i a b le h = subst (λ l. AddsEach l a b) (take_all i more le) h

-- an empty rack
pub stocked_none : {A : Type 0} (files : Option Files) (f : A → BoxPicture) (items : List A)
    → items ≡ [] → IsStocked files (λ _. 0) (map f items)
stocked_none files f items e = subst (λ l. IsStocked files (λ _. 0) (map f l)) (sym e)
    (record { each = All-nil (IsServing files); count = λ _. refl })

-- all boxes of a rack that was filled so are blank
pub all_blank : (files : Option Files) (stock : Kind → ℕ) (boxes : List BoxPicture)
    → IsStocked files stock boxes → All IsBlank boxes
all_blank files stock boxes h = λ k d l. (h.each k d l).blank

-- ---- the standard stock

abbrev pub standard : Kind → ℕ
standard = with_each OTHERS (with_more kind.List LISTS (with_more kind.Csv SOURCES (λ _. 0)))

-- where so many sources, lists and other boxes are the standard ones
pub standard_when : (files : Option Files) (sources lists : ℕ) (others : List (Kind × ℕ))
    (boxes : List BoxPicture) → sources ≡ SOURCES → lists ≡ LISTS → others ≡ OTHERS
    → IsStocked files
    (with_each others (with_more kind.List lists (with_more kind.Csv sources (λ _. 0)))) boxes
    → IsStocked files standard boxes
standard_when files sources lists others boxes s m o h =
    subst (λ n. IsStocked files
    (with_each OTHERS (with_more kind.List LISTS (with_more kind.Csv n (λ _. 0)))) boxes) s
    (subst (λ n. IsStocked files
    (with_each OTHERS (with_more kind.List n (with_more kind.Csv sources (λ _. 0)))) boxes) m
    (subst (λ l. IsStocked files
    (with_each l (with_more kind.List lists (with_more kind.Csv sources (λ _. 0)))) boxes) o h))

has_stock : (k : Kind) → stock_of k ≤ standard k
has_stock kind.Csv = omega arith
has_stock kind.List = omega arith
has_stock kind.Numbers = omega arith
has_stock kind.Filter = omega arith
has_stock kind.Expression = omega arith
has_stock kind.Resize = omega arith
has_stock kind.PartialAggregate = omega arith
has_stock kind.MergeAggregate = omega arith
has_stock kind.HashJoin = omega arith
has_stock kind.Sort = omega arith
has_stock kind.MergeSorted = omega arith
has_stock kind.Limit = omega arith
has_stock kind.Collect = omega arith

standard_stock : (files : Option Files) (boxes : List BoxPicture)
    → IsStocked files standard boxes → HasStandardStock boxes
standard_stock files boxes h = λ k. subst (λ n. stock_of k ≤ n) (sym (h.count k)) (has_stock k)

-- over told files a rack with that stock is an honest one
pub is_honest : (files : Files) (boxes : List BoxPicture)
    → IsStocked (Some files) standard boxes → IsHonest files boxes
is_honest files boxes h = record {
  boxes_are = record {
    lawful = λ k d l. (h.each k d l).lawful;
    told = λ k d l. (h.each k d l).told;
  };
  stock = standard_stock (Some files) boxes h;
}
