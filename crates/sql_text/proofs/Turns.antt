-- One turn of the reading of parts, and when it ends.
use Rattle.sql_text.proofs.Imports.{◌≡◌, ℕ, zero, suc, ◌-◌, ◌<◌, ◌≤◌, Bool, true, false, List, ◌∷◌, length, Option, Some, None, option_and_then, refl, ap, ◌∙◌, arith, Token, BinaryOperator, Operator, ParseError, ParseFails, Parsed, PartParser, SideRules, operator_of, level, operator_level, if_level, next_operator, binary_of, first_term, turn_of, joined, part_at}
use Rattle.sql_grammar.specs.declared.Token.TheVariants as token
use Rattle.sql_grammar.specs.declared.Sign.TheVariants as sign
use Rattle.sql_text.specs.declared.term.Operator.TheVariants as operator

-- what may stand behind a name: no dot, and no parenthesis
abbrev pub ends_name : List Token → Bool
ends_name (token.Sign sign.Dot ∷ ts) = false
ends_name (token.Sign sign.Open ∷ ts) = false
ends_name _ = true

pub level_below : (o : Operator) → operator_level o < 7
level_below o = grind arith

-- an operator at the front, where it binds tightly enough
pub if_level-found : (least : ℕ) (ts : List Token) (o : Operator) → least ≤ operator_level o
    → if_level least ts (Some o) ≡ Some (o, ts)
if_level-found least ts o h = grind arith

pub if_level-none : (least : ℕ) (ts : List Token) (o : Operator) → operator_level o < least
    → if_level least ts (Some o) ≡ None
if_level-none least ts o h = grind arith

-- no operator binds tighter than a product
pub none_above_products : (ts : List Token) → next_operator 7 ts ≡ None
none_above_products ts = grind (arith, level_below)

-- where no operator binds so tightly, none binds more tightly
pub tighter : (p q : ℕ) (ts : List Token) → p ≤ q → next_operator p ts ≡ None
    → next_operator q ts ≡ None
tighter p q ts h none = grind arith

pub some_turns : (turns : ℕ) → 0 < turns → (k : ℕ) × (turns ≡ suc k)
some_turns zero h = absurd (omega arith)
some_turns (suc k) h = (k, refl)

module _ {S : Type 0} (rules : SideRules S) where
  -- The reading of the part at ts goes on behind the part v, at rest.
  pub record Goes (n least : ℕ) (v : Parsed S) (ts rest : List Token) : Type 0 where
    pub turns : ℕ
    pub enough : length rest < turns
    pub goes : part_at rules (suc n) least ts ≡ joined rules (part_at rules n) least turns v rest

  pub from_first : {n least : ℕ} {v : Parsed S} {ts rest : List Token}
      → first_term rules n (part_at rules n) ts ≡ Some (v, rest) → Goes n least v ts rest
  unfolding part_at
  from_first {n = n} {least = least} {rest = rest} h = grind arith

  pub end_of_turns : (right : PartParser S) (least turns : ℕ) (v : Parsed S)
      (ts : List Token) → 0 < turns → next_operator least ts ≡ None
      → joined rules right least turns v ts ≡ Some (v, ts)
  unfolding joined
  end_of_turns right least turns v ts h none = grind arith

  pub turn : (right : PartParser S) (least n turns : ℕ) (j : Operator)
      (v u : Parsed S) (ts mid rest : List Token) → n ≡ suc turns
      → next_operator least ts ≡ Some (j, mid) → turn_of rules right j v mid ≡ Some (u, rest)
      → joined rules right least n v ts ≡ joined rules right least turns u rest
  unfolding joined
  turn right least n turns j v u ts mid rest is next turned = grind arith

  pub no_turn : (right : PartParser S) (least turns : ℕ) (j : Operator)
      (v : Parsed S) (ts mid : List Token) → 0 < turns → next_operator least ts ≡ Some (j, mid)
      → turn_of rules right j v mid ≡ None → joined rules right least turns v ts ≡ None
  unfolding joined
  no_turn right least turns j v ts mid h next none = grind arith

  pub no_turns : (right : PartParser S) (least n : ℕ) (v : Parsed S) (ts : List Token)
      → n ≡ 0 → joined rules right least n v ts ≡ None
  unfolding joined
  no_turns right least n v ts is = ap (λ n. joined rules right least n v ts) is

  -- the same at any depth that is enough, where no operator follows
  pub deeper : (n : ℕ) {least : ℕ} {v : Parsed S} {ts rest : List Token}
      → length ts ≤ n → length rest < length ts
      → ((m : ℕ) → length ts ≤ suc m → Goes m least v ts rest) → next_operator least rest ≡ None
      → part_at rules n least ts ≡ Some (v, rest)
  deeper zero h shorter goes none = absurd (omega arith)
  deeper (suc m) {least = least} {v = v} {rest = rest} h shorter goes none =
      let g = goes m h in
      g.goes ∙ end_of_turns (part_at rules m) least g.turns v rest (omega (arith, g.enough)) none

  -- What the operator behind the part at the left makes of it.
  pub turned : {n least : ℕ} (o : Operator) {t : Token} {v u : Parsed S}
      {ts mid rest : List Token} → Goes n least v ts (t ∷ mid) → operator_of t ≡ Some o
      → least ≤ operator_level o → length rest < length mid
      → turn_of rules (part_at rules n) o v mid ≡ Some (u, rest) → Goes n least u ts rest
  turned {n = n} {least = least} o {t = t} {v = v} {u = u} {mid = mid} {rest = rest}
      g is low shorter read =
      let s = some_turns g.turns (omega (arith, g.enough)) in
      let next = ap (if_level least mid) is ∙ if_level-found least mid o low in
      record {
        turns = s.0;
        enough = omega (arith, g.enough, s.1);
        goes = g.goes ∙ turn (part_at rules n) least g.turns s.0 o v u (t ∷ mid) mid rest s.1 next
            read;
      }

  -- The part at the left, and what the binary operator behind it joins to it.
  pub onward : {n least : ℕ} (j : BinaryOperator) {t : Token} {v w u : Parsed S}
      {ts mid rest : List Token} → Goes n least v ts (t ∷ mid)
      → operator_of t ≡ Some (operator.Binary j) → least ≤ level j
      → length (t ∷ mid) < length ts → length ts ≤ suc n → length rest < length mid
      → ((m : ℕ) → length mid ≤ suc m → Goes m (suc (level j)) w mid rest)
      → next_operator (suc (level j)) rest ≡ None → binary_of rules j v w ≡ Some u
      → Goes n least u ts rest
  onward {n = n} j {w = w} {mid = mid} {rest = rest} g is low within enough shorter right none
      join =
      let read : part_at rules n (suc (level j)) mid ≡ Some (w, rest) =
      deeper n (omega arith) shorter right none in
      turned (operator.Binary j) g is low shorter (rw (read, join) refl)

  pub no_depth : (least : ℕ) (ts : List Token) → part_at rules 0 least ts ≡ None
  unfolding part_at
  no_depth least ts = refl

  pub part_goes : (depth least : ℕ) (ts : List Token) → 0 < depth → part_at rules depth least ts
      ≡ option_and_then (λ p. joined rules (part_at rules (depth - 1)) least (suc (length p.1)) p.0
      p.1) (first_term rules (depth - 1) (part_at rules (depth - 1)) ts)
  unfolding part_at
  part_goes zero least ts h = absurd (omega arith)
  part_goes (suc d) least ts h = let is : d ≡ suc d - 1 = omega arith in ap (λ n. option_and_then
      (λ p. joined rules (part_at rules n) least (suc (length p.1)) p.0 p.1)
      (first_term rules n (part_at rules n) ts)) is

-- a fault inside is a fault of the whole
pub fault_goes : {Y W : Type 0} (e : ParseError) (read : Option Y) (outer : Option W)
    → ParseFails e read → (read ≡ None → outer ≡ None) → ParseFails e outer
fault_goes e read outer h k = grind arith
