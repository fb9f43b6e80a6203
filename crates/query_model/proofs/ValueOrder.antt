-- The order of values is total, and values that tie are one.
use Rattle.query_model.proofs.Imports.{Equal, Int, IsAntisymmetric, IsTotalOrder, Less, Null, Ordering, Text, UInt, Value, ap, int_cmp-IsAntisymmetric, int_cmp_total, is_eq, lists_total, nat_cmp-IsAntisymmetric, nat_cmp_total, nat_list_cmp_total, ordering_reverse, refl, same_row, slice_cmp-IsAntisymmetric, tied_itself, true, value_cmp, ◌≡◌}
use Rattle.query_model.proofs.Distinct.{IsSame}

pub value_cmp-IsAntisymmetric : IsAntisymmetric value_cmp
value_cmp-IsAntisymmetric (Int a) (Int b) e = ap Int (int_cmp-IsAntisymmetric a b e)
value_cmp-IsAntisymmetric (UInt a) (UInt b) e = ap UInt (nat_cmp-IsAntisymmetric a b e)
value_cmp-IsAntisymmetric (Text a) (Text b) e =
    ap Text (slice_cmp-IsAntisymmetric nat_cmp-IsAntisymmetric a b e)
value_cmp-IsAntisymmetric Null Null e = refl
value_cmp-IsAntisymmetric a b e = cc

flips : (a b : Value) → value_cmp a b ≡ ordering_reverse (value_cmp b a)
flips (Int a) (Int b) = int_cmp_total.antisymm a b
flips (UInt a) (UInt b) = nat_cmp_total.antisymm a b
flips (Text a) (Text b) = nat_list_cmp_total.antisymm a b
flips Null Null = refl
flips a b = refl

chains : (a b c : Value) → value_cmp a b ≡ Less → value_cmp b c ≡ Less → value_cmp a c ≡ Less
chains (Int a) (Int b) (Int c) h k = int_cmp_total.trans a b c h k
chains (UInt a) (UInt b) (UInt c) h k = nat_cmp_total.trans a b c h k
chains (Text a) (Text b) (Text c) h k = nat_list_cmp_total.trans a b c h k
chains (Int a) (UInt b) (Int c) h k = cc
chains (Int a) (Text b) (Int c) h k = cc
chains (UInt a) (Text b) (Text c) h k = refl
chains a Null Null h k = cc
chains a b c h k = cc

pub value_cmp_total : IsTotalOrder value_cmp
value_cmp_total = record {
  antisymm = flips;
  trans = chains;
  congr = λ a b c e. ap (λ v. value_cmp v c) (value_cmp-IsAntisymmetric a b e);
}

is_eq-Equal : (o : Ordering) → is_eq o ≡ true → o ≡ Equal
is_eq-Equal Equal h = refl
is_eq-Equal o h = cc

-- rows that are the same row are one
pub same_row_is : IsSame same_row
same_row_is = record {
  itself = λ r. ap is_eq (tied_itself (lists_total value_cmp_total) r);
  one = λ r s h. slice_cmp-IsAntisymmetric value_cmp-IsAntisymmetric r s (is_eq-Equal _ h);
}
