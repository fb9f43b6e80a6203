-- Each step changes one word, as its atomic operation says, and leaves the others.
use Rattle.exec_table.proofs.Imports.{Act, [], Bool, Board, Close, CoreState, Finish, Flags, Holds, Laws, List, NodeState, Option, PortState, Pull, Push, Some, Step, Unwant, Want, Wire, acted, after, ap, arith, bit_and, bit_at_end, bit_or, bit_xor, changed, cond, either, eqb, first_word, flags_word, get_or, get_or-append_right, get_or-map, get_or-set_other, get_or_append_left, is_none, learning, left, length, length-map, looked, map-set, map-set_same, marks-of, may, may_act, mod-eq_of_lt, no_node, no_port, node_after, node_at, node_place, node_words, peer_in, pending-most, place, port_after, port_at, port_place, port_words, put_node, put_port, refl, set, set-append_left, set-get_or, some-pending, spent, telling, with_bit, true, wire_place, wire_word, wire_words, wiring, words_of, ℕ, ◌++◌, ◌+◌, ◌-◌, ◌%◌, ◌<◌, ◌^◌, ◌∙◌, ◌∷◌, ◌≡◌}
use Rattle.core_laws.specs.declared.types.Step.TheVariants as step

-- the operation of an act on its port's word
abbrev pub act_bits : Act → ℕ → ℕ
act_bits Want n = bit_or n 1
act_bits Unwant n = bit_and n 18446744073709551614
act_bits (Push x) n = bit_or n 2
act_bits Pull n = bit_and n 18446744073709551613
act_bits Finish n = bit_or n 4
act_bits Close n = bit_or n 8

act-word : (a : Act) (f : Flags) → act_bits a (flags_word f) ≡ flags_word (changed a f)
act-word a f = grind arith

-- what the atomic operation of a step makes of the word
abbrev pub op : CoreState → ℕ → Step → ℕ → ℕ
op c n (step.Want e) w = act_bits Want w
op c n (step.Unwant e) w = act_bits Unwant w
op c n (step.Push e x) w = act_bits (Push x) w
op c n (step.Pull e) w = act_bits Pull w
op c n (step.Finish e) w = act_bits Finish w
op c n (step.ClosePort e) w = act_bits Close w
op c n (step.Mark e) w = bit_or w (2 ^ bit_at_end (peer_in n (port_at c e).wire) (port_at c e).wire)
op c n step.Begin w = 2 ^ 62
op c n step.Again w = 2 ^ 62
op c n step.Rest w = either (eqb w (2 ^ 62)) 0 w
op c n step.Over w = 2 ^ 63
op c n step.TokenIn w = (w + 1) % 2 ^ 64
op c n step.TokenOut w = (w + (2 ^ 64 - 1)) % 2 ^ 64
op c n (step.Wire e v) w = either (eqb w 0) (wire_word (Some v)) w
op c n step.Birth w = bit_xor w (2 ^ 60 + 2 ^ 61)
op c n s w = w

-- the words of which the one at the place i became f of what it was
abbrev word_changed : CoreState → ℕ → (ℕ → ℕ) → List ℕ
word_changed c i f = set (words_of c) i (f (get_or (words_of c) i 0))

-- ---- places

set-behind : (p t : List ℕ) (i j v : ℕ) → i ≡ length p + j → set (p ++ t) i v ≡ p ++ set t j v
set-behind [] t i j v e = ap (λ k. set t k v) (let z : i ≡ j = omega (arith, e) in z)
set-behind (x ∷ p) t i j v e = grind (arith, set-behind p t (length p + j) j v refl)

module _ (c : CoreState) where
  pub read-node : (i : ℕ) → i < length c.nodes
      → get_or (words_of c) (node_place i) 0 ≡ (node_at c i).word
  read-node i h = let is = get_or-map (λ (y : NodeState). y.word) c.nodes i no_node 0 h in
      grind (arith, length-map, get_or_append_left, is)

  -- a change of a node changes its word
  node-word : (n : ℕ) (nd : NodeState) (f : ℕ → ℕ) → n < length c.nodes
      → f (node_at c n).word ≡ nd.word
      → words_of (put_node c n nd) ≡ word_changed c (node_place n) f
  node-word n nd f i e = grind (arith, read-node, map-set, length-map, set-append_left)

  -- a change that leaves the node's word leaves all
  same-node : (n : ℕ) (nd : NodeState) → nd.word ≡ (node_at c n).word
      → words_of (put_node c n nd) ≡ words_of c
  same-node n nd e = grind (arith, map-set_same)

  same-words : (i : ℕ) (f : ℕ → ℕ) → f (get_or (words_of c) i 0) ≡ get_or (words_of c) i 0
      → words_of c ≡ word_changed c i f
  same-words i f e = grind (arith, e, set-get_or)

  module _ (laws : Laws c) (e : ℕ) (h : e < length c.ports) where
    pub read-wire : get_or (words_of c) (wire_place c.sizes e) 0 ≡ wire_word (port_at c e).wire
    read-wire = let is = get_or-map (λ (p : PortState). wire_word p.wire) c.ports e no_port 0 h in
        let n = laws.nodes.number in
        grind (arith, n, length-map, get_or-append_right, get_or_append_left, is)

    pub read-port : get_or (words_of c) (port_place c.sizes e) 0 ≡ flags_word (port_at c e).flags
    read-port = let is = get_or-map (λ (p : PortState). flags_word p.flags) c.ports e no_port 0 h in
        let n = laws.nodes.number in let k = laws.edges.count in
        grind (arith, n, k, length-map, get_or-append_right, is)

    -- a change of an edge's wire, or of its port's flags, changes that word
    wire-word : (q : PortState) (f : ℕ → ℕ) → q.flags ≡ (port_at c e).flags
        → f (wire_word (port_at c e).wire) ≡ wire_word q.wire
        → words_of (put_port c e q) ≡ word_changed c (wire_place c.sizes e) f
    wire-word q f same is = let n = laws.nodes.number in
        let behind = set-behind (first_word c ∷ node_words c) (wire_words c ++ port_words c)
        (wire_place c.sizes e) e (wire_word q.wire) in
        let ahead = set-append_left (wire_words c) (port_words c) e (wire_word q.wire) in
        let now = map-set (λ (p : PortState). wire_word p.wire) c.ports e q in
        let flags = map-set_same (λ (p : PortState). flags_word p.flags) c.ports e q no_port
        (ap flags_word same) in
        grind (arith, read-wire, n, length-map, behind, ahead, now, flags)

    flag-word : (q : PortState) (f : ℕ → ℕ) → q.wire ≡ (port_at c e).wire
        → f (flags_word (port_at c e).flags) ≡ flags_word q.flags
        → words_of (put_port c e q) ≡ word_changed c (port_place c.sizes e) f
    flag-word q f same is = let n = laws.nodes.number in let k = laws.edges.count in
        let behind = set-behind (first_word c ∷ node_words c) (wire_words c ++ port_words c)
        (port_place c.sizes e) (length c.ports + e) (flags_word q.flags) in
        let last = set-behind (wire_words c) (port_words c) (length c.ports + e) e
        (flags_word q.flags) in
        let now = map-set (λ (p : PortState). flags_word p.flags) c.ports e q in
        let wire = map-set_same (λ (p : PortState). wire_word p.wire) c.ports e q no_port
        (ap wire_word same) in
        grind (arith, read-port, n, k, length-map, behind, last, now, wire)

-- ---- word 0

pub pending-small : (b : Board) → Holds b → b.core.pending < 2 ^ 62
pending-small b h = grind (arith, pending-most)

-- word 0 counts one more or one less; a stop bit stays
count-up : (p : ℕ) (t : Bool) → p < 2 ^ 62
    → ((p + cond t (2 ^ 63) 0) + 1) % 2 ^ 64 ≡ (p + 1) + cond t (2 ^ 63) 0
count-up p t h = grind (arith, mod-eq_of_lt)

count-down : (p : ℕ) (t : Bool) → p < 2 ^ 62 → 0 < p
    → ((p + cond t (2 ^ 63) 0) + (2 ^ 64 - 1)) % 2 ^ 64 ≡ (p - 1) + cond t (2 ^ 63) 0
count-down p t h some = grind (arith, mod-eq_of_lt)

-- ---- all kinds

act-after : (a : Act) (c : CoreState) (n e : ℕ) → Laws c → may_act a c n e ≡ true
    → words_of (acted a c n e) ≡ word_changed c (port_place c.sizes e) (act_bits a)
act-after a c n e l g = let i : e < length c.ports = grind arith in
    same-node (put_port c e (port_after a (port_at c e))) n
    (node_after a e (port_at c e).flags (node_at c n)) refl
    ∙ flag-word c l e i (port_after a (port_at c e)) (act_bits a) (grind arith)
    (act-word a (port_at c e).flags)

-- the wire word of an edge is 0 where it has no wire
wire-none : (x : Option Wire) → eqb (wire_word x) 0 ≡ is_none x
wire-none x = grind arith

wire-after : (c : CoreState) (n e : ℕ) (w : Wire) → Laws c → e < length c.ports
    → words_of (after c n (step.Wire e w))
    ≡ word_changed c (wire_place c.sizes e) (op c n (step.Wire e w))
wire-after c n e w l j = let f = λ (v : ℕ). either (eqb v 0) (wire_word (Some w)) v in
    let now = wire-word c l e j (record (port_at c e) { wire = Some w }) f refl in
    let node = same-node (wiring c e w) n (learning e (node_at c n)) refl in
    let was = read-wire c l e j in let same = same-words c (wire_place c.sizes e) f in
    let none = wire-none (port_at c e).wire in grind (arith, now, node, was, same, none)

-- the words after a step of a node
pub word-after : (b : Board) (n : ℕ) (s : Step) → Holds b → n < b.core.sizes.nodes
    → may b.core n s ≡ true → words_of (after b.core n s)
    ≡ word_changed b.core (place b.core n s) (op b.core n s)
word-after b n (step.Look e) h i g = same-node b.core n (looked b.core n e) refl
    ∙ same-words b.core _ (λ w. w) refl
word-after b n (step.Want e) h i g = act-after Want b.core n e h.laws g
word-after b n (step.Unwant e) h i g = act-after Unwant b.core n e h.laws g
word-after b n (step.Push e x) h i g = act-after (Push x) b.core n e h.laws g
word-after b n (step.Pull e) h i g = act-after Pull b.core n e h.laws g
word-after b n (step.Finish e) h i g = act-after Finish b.core n e h.laws g
word-after b n (step.ClosePort e) h i g = act-after Close b.core n e h.laws g
word-after b n (step.Mark e) h i g = let c = b.core in
    let x = marks-of c n e g h.laws.edges h.laws.nodes in
    let m = peer_in n (port_at c e).wire in let k = bit_at_end m (port_at c e).wire in
    same-node (put_node c m (with_bit k (node_at c m))) n
    (telling e (spent (node_at c m).word) (node_at c n))
    (grind (arith, x.apart, get_or-set_other c.nodes m n (with_bit k (node_at c m)) no_node))
    ∙ node-word c m (with_bit k (node_at c m)) (λ w. bit_or w (2 ^ k)) x.peer_in refl
word-after b n step.Begin h i g = node-word b.core n _ (λ _. 2 ^ 62) (grind arith) refl
word-after b n step.Again h i g = node-word b.core n _ (λ _. 2 ^ 62) (grind arith) refl
word-after b n step.Rest h i g = let c = b.core in let f = λ (w : ℕ). either (eqb w (2 ^ 62)) 0 w in
    let j : n < length c.nodes = grind arith in
    let now = node-word c n (left 0 (node_at c n)) f j in
    let was = read-node c n j in let same = same-words c (node_place n) f in
    grind (arith, now, was, same)
word-after b n step.Over h i g = node-word b.core n _ (λ _. 2 ^ 63) (grind arith) refl
word-after b n step.TokenIn h i g = grind (arith, count-up, pending-small, map-set_same)
word-after b n step.TokenOut h i g =
    grind (arith, count-down, pending-small, some-pending, map-set_same)
word-after b n (step.Wire e w) h i g = wire-after b.core n e w h.laws (grind arith)
word-after b n (step.Wired e) h i g = let c = b.core in
    let node = same-node c n (learning e (node_at c n)) refl in
    let same = same-words c (wire_place c.sizes e) (λ w. w) refl in grind (arith, node, same)
word-after b n step.Birth h i g =
    node-word b.core n _ (λ w. bit_xor w (2 ^ 60 + 2 ^ 61)) (grind arith) refl
word-after b n s h i g = absurd (let c = h.laws.nodes.number in grind (arith, c, i))
