-- A node looks at one of its ports.
use Rattle.node_ports.proofs.Imports.{StepAnswer, Bool, BoxPicture, Chunk, Flags, FollowsKept, Identity, Input, InputPort, IsEnd, IsSeatOf, IsSound, MakesStep, MaySee, NodePorts, NodeSeat, NodeView, None, Option, Output, Picture, Port, PortKnown, PortsHold, PortsPicture, SeatState, Sees, Some, Table, Wire, [], after_see, and_parts, ap, arith, cases_Bool, edge_of, edges_of, end_of, end_of_view, eq-eqb, false, flags, flags_at, has, has-filter, holds-in, holds_chunk, holds_data, in_count, inl, input_at, inr, is_chunk_due, is_end, is_own_port, is_some, knows, known-wire, lifted_of, ne_eqb, no_flags, node_at, not, out_count, port_at, port_chunk, port_flags, ports_picture, pushes_to, refl, seat_after, seeing-here, seen_chunk, shown, slot_of, slots, state-made, subst, sym, true, view, ℕ, ◌&&◌, ◌<◌, ◌==◌, ◌∙◌, ◌≡◌, ◌≢◌, ◌⊎◌, cases_eq, EdgeEnd}
use Rattle.node_ports.proofs.Shown.{Here, IsPortReady, MovesAt, SameEdge, Waits, differs-quiet, end-there, is_input, lifted_at, moved-holds, moved-lists, quiet-passed, quiet-seen, quiet-sight, seen_at, shown-at, sight, still-updated}
use Rattle.node_ports.specs.Sights.{Lifts, LookedAt, MayLook, has_chunk, is_lift_due}
use Rattle.exec_table.proofs.Ends.{edges-made, look-made, look-slot, number-made, same-made, stage-made}
use Rattle.exec_table.proofs.Hands.{has-slot}
use Rattle.exec_table.proofs.Known.{turn-fits}
use Rattle.exec_table.specs.Boards.{fits_end}
use Rattle.exec_table.specs.Known.{is_turn, slot_looked}
use Rattle.port_word.specs.Sights.{HasPort}
use Rattle.proc_api.proofs.Follows.{follows-seen-input, follows-seen-output}
use Rattle.port_word.proofs.Laws.{actions-with_input, actions-with_output, in_count-with_input, in_count-with_output, input_at-with_input, input_at-with_input-other, input_at-with_output, out_count-with_input, out_count-with_output, output_at-with_input, output_at-with_output, output_at-with_output-other}
use Rattle.core_laws.specs.declared.types.Step.TheVariants as step

-- ---- the slot of an edge that was looked at, by what lies there

abbrev Slot : Type 0
Slot = Option (Option Chunk)

-- a slot s with the turn t became r with the turn u
record Looks (s r t u : Slot) : Type 0 where
  pub out : is_some s ≡ is_some t
  pub slot : r ≡ slot_looked s u
  pub kept : (v : Option Chunk) → t ≡ Some v → u ≡ Some v
  pub lies : (v : Option Chunk) → s ≡ Some v → (v ≡ None) ⊎ (t ≡ Some v)

-- it is emptied exactly where it was
lifted-same : (s r t u : Slot) → Looks s r t u → lifted_of r u ≡ lifted_of s t
lifted-same None r None u h = grind (arith, h.slot)
lifted-same None r (Some w) u h = absurd (grind (arith, h.out))
lifted-same (Some v) r None u h = absurd (grind (arith, h.out))
lifted-same (Some v) r (Some w) u h = grind (arith, h.slot, h.kept w refl)

-- where a chunk lies there the slot has it, unless it was emptied
chunk-there : (s r t u : Slot) → Looks s r t u → is_some u ≡ true
    → ((v : Option Chunk) → u ≡ Some v → is_some v ≡ true) → lifted_of s t ≡ None
    → holds_chunk r ≡ true
chunk-there s r t None h q full none = absurd (grind (arith, q))
chunk-there None r t (Some w) h q full none = grind (arith, h.slot, full w refl)
chunk-there (Some v) r None u h q full none = absurd (grind (arith, h.out))
chunk-there (Some v) r (Some x) (Some w) h q full none =
    grind (arith, h.slot, h.kept x refl, h.lies v refl, full w refl, none)

-- and where none lies there it is empty
empty-there : (s r t u : Slot) → Looks s r t u → is_some u ≡ true
    → ((v : Option Chunk) → u ≡ Some v → is_some v ≡ false) → r ≡ Some None
empty-there s r t None h q bare = absurd (grind (arith, q))
empty-there None r t (Some w) h q bare = grind (arith, h.slot, bare w refl)
empty-there (Some v) r None u h q bare = absurd (grind (arith, h.out))
empty-there (Some v) r (Some x) (Some w) h q bare =
    grind (arith, h.slot, h.kept x refl, h.lies v refl, bare w refl)

abbrev flags_in : StepAnswer → Flags
flags_in (flags f) = f
flags_in a = no_flags

module _ {t : Identity} {old new : NodeSeat} {e : ℕ} {f : Flags} (o : IsSeatOf t old)
    (m : MakesStep t old new (step.Look e) None (flags f))
    (k : knows e (view old).state.seen ≡ true) where
  look-flags : flags_at e (view new).state.seen ≡ f
  look-flags = ap (λ z. flags_at e z.seen) (state-made o m) ∙ seeing-here e f (view old).state.seen
      k

  -- what the seat saw before agrees with what it sees
  look-sees : (side : Bool) → (w : _) → (end_of_view (view old) e).wire ≡ Some w
      → end_of side w ≡ (view old).number → Sees side f (flags_at e (view old).state.seen)
  look-sees side w is at = let n = (view old).number in let b = m.before in
      subst (λ p. Sees side p (flags_at e (view old).state.seen)) (ap flags_in m.says)
      (subst (λ g. Sees side (port_at b.core e).flags g)
      (ap (λ i. flags_at e (node_at b.core i).seen) at
      ∙ ap (λ (v : NodeView). flags_at e v.state.seen) m.was)
      ((m.holds.laws.edges.each e (holds-in b.core n e m.may).1).sees side w
      (sym (sym (ap (λ (v : NodeView). (end_of_view v e).wire) m.was)
      ∙ known-wire b n e m.holds (ap (λ (v : NodeView). knows e v.state.seen) m.was ∙ k)) ∙ is)))

  looks : Looks (slot_of old e) (slot_of new e) (end_of_view (view old) e).turn
      (end_of_view (view new) e).turn
  looks = record {
    out = sym (has-slot e (slots old)) ∙ o.hand.turns e;
    slot = look-slot o m;
    kept = (look-made o m).kept;
    lies = o.hand.lies e;
  }

-- ---- when a port may be shown

due-same : (f : Flags) (y : InputPort) → (is_some y.chunk ≡ true → y.flags.has_data ≡ true)
    → (holds_data y.flags ≡ true → is_some y.chunk ≡ true) → y.flags.fin_in ≡ f.fin_in
    → (f.has_data && (not f.fin_in && not (y.flags.has_data && not y.flags.fin_in)))
    ≡ (f.has_data && (not f.fin_in && not (is_some y.chunk)))
due-same f y there held fin = grind (arith, there, held, fin)

see-port : (v : Picture) (p : Port) (f : Flags) (x : Option Table) → HasPort v p
    → v.actions ≡ [] → IsSound v → Sees (is_input p) f (port_flags v p)
    → is_some x ≡ is_chunk_due v p f → MaySee v p f x
see-port v (Input i) f x lt q sound s due = record {
  ours = lt;
  taken = q;
  fin_out = s.fin_out;
  fin_in = λ z. sym s.fin_in ∙ z;
  own_bits = (sym s.needed, sym s.fin_in);
  stays_empty = s.ended;
  keeps_chunk = λ z. s.has_data (sound.shown i z);
  chunk_due = due;
}
see-port v (Output o) f x lt q sound s due = record {
  ours = lt;
  taken = q;
  fin_out = λ z. sym s.fin_out ∙ z;
  fin_in = s.fin_in;
  own_bits = sym s.fin_out;
  stays_empty = tt;
  keeps_chunk = λ z. absurd (let n : false ≡ true = z in cc);
  chunk_due = due;
}

-- what `see` leaves of the other ports
record SeesAt (p : Port) (v w : Picture) : Type 0 where
  pub ins : in_count w ≡ in_count v
  pub outs : out_count w ≡ out_count v
  pub others : (q : Port) → Some p ≢ Some q → sight w q ≡ sight v q
  pub actions : w.actions ≡ v.actions

sees-at : (p : Port) (v : Picture) (f : Flags) (x : Option Table) → SeesAt p v (after_see v p f x)
sees-at (Input i) v f x = record {
  ins = in_count-with_input v i _;
  outs = out_count-with_input v i _;
  others = other;
  actions = actions-with_input v i _;
}
  where
    other : (q : Port) → Some (Input i) ≢ Some q → sight (after_see v (Input i) f x) q ≡ sight v q
    other (Input j) ne = input_at-with_input-other v i j _ (λ e. ne
        (ap (λ k. Some (Input k)) (sym e)))
    other (Output o) ne = ap (λ g. record { flags = g; chunk = None }) (output_at-with_input v i o
        _)
sees-at (Output o) v f x = record {
  ins = in_count-with_output v o f;
  outs = out_count-with_output v o f;
  others = other;
  actions = actions-with_output v o f;
}
  where
    other : (q : Port) → Some (Output o) ≢ Some q → sight (after_see v (Output o) f x) q ≡ sight v q
    other (Input j) ne = input_at-with_output v o j f
    other (Output k) ne = ap (λ g. record { flags = g; chunk = None })
        (output_at-with_output-other v o k f (λ e. ne (ap (λ k. Some (Output k)) (sym e))))

quiet-waits : (v w : Picture) → w.actions ≡ v.actions → (q : Port) → sight w q ≡ sight v q
    → Waits q v w
quiet-waits v w q (Input i) is = ap (λ (x : InputPort). x.chunk) is
quiet-waits v w q (Output o) is = ap (pushes_to o) q

consumer-side : (w : Wire) (n : ℕ) (p : Port) → IsEnd w n p → w.from ≢ w.to
    → is_end true n (Some w) ≡ is_input p
consumer-side w n (Input i) h ne = eq-eqb w.to n h.0
consumer-side w n (Output o) h ne = ne_eqb w.to n (λ z. ne (h.0 ∙ sym z))

own-there : (c : PortsPicture) → PortsHold c → (p : Port) → is_own_port c p → HasPort c.view p
own-there c h (Input i) own = subst (λ n. i < n) (sym h.ins) own
own-there c h (Output o) own = subst (λ n. o < n) (sym h.outs) own

lifts-due : {t : Identity} {e : ℕ} {due : Bool} {mid new : NodeSeat} {x : Option Table}
    → Lifts t e due mid new x → is_some x ≡ due
lifts-due {t} {e} {due} l = elim (cases_Bool due) [
  | inl z ↦ ap is_some (l.lifted z).1 ∙ sym z
  | inr z ↦ ap is_some (l.left z).0 ∙ sym z
]

follows-on : (v : Picture) (f : Flags) (x : Option Table) → IsSound v → (p : Port)
    → MaySee v p f x → (b : BoxPicture) → FollowsKept b v → FollowsKept b (after_see v p f x)
follows-on v f x sound (Input i) s b g = follows-seen-input b v i f x sound s g
follows-on v f x sound (Output k) s b g = follows-seen-output b v k f (record {
  ours = s.ours;
  taken = s.taken;
  fin_out = s.fin_out;
  fin_in = s.fin_in;
  own_bits = s.own_bits;
  stays_empty = s.stays_empty;
  keeps_chunk = s.keeps_chunk;
  chunk_due = refl;
}) g

seen-flags : (v : Picture) (f : Flags) (x : Option Table) (p : Port) → HasPort v p
    → port_flags (after_see v p f x) p ≡ f
seen-flags v f x (Input i) lt = ap (λ (x : InputPort). x.flags) (input_at-with_input v i _ lt)
seen-flags v f x (Output k) lt = output_at-with_output v k f lt

abbrev now_seen : NodePorts → NodeSeat → Flags → Option Table → Port → PortsPicture
now_seen ports s f x p = record (ports_picture ports s) { view = after_see ports.view p f x }

-- ---- a look at a port

abbrev LooksHere : Identity → NodePorts → NodeSeat → NodeSeat → Flags → Port → Type 0
LooksHere t ports old mid f p =
    MakesStep t old mid (step.Look (edge_of (ports_picture ports old) p))
    None (flags f)

abbrev LiftsHere : Identity → NodePorts → NodeSeat → NodeSeat → NodeSeat → Flags → Option Table
    → Port → Type 0
LiftsHere t ports old mid new f x p = Lifts t (edge_of (ports_picture ports old) p)
    (is_lift_due p (has_chunk p ports.view) f) mid new x

module _ {t : Identity} {old mid : NodeSeat} {f : Flags} (ports : NodePorts) (o : IsSeatOf t old)
    (may : MayLook (ports_picture ports old)) (p : Port)
    (own : is_own_port (ports_picture ports old) p) (m : LooksHere t ports old mid f p) where
  abbrev c : PortsPicture
  c = ports_picture ports old

  abbrev e : ℕ
  e = edge_of c p

  abbrev n : ℕ
  n = (view old).number

  port : PortKnown c p
  port = may.holds.known p own

  view-here : sight c.view p ≡ seen_at c p
  view-here = quiet-seen c may.holds may.quiet p own

  sees : Sees (is_input p) f (port_flags c.view p)
  sees = subst (Sees (is_input p) f) (sym (ap (λ (x : InputPort). x.flags) view-here))
      (look-sees o m port.known (is_input p) port.wire port.is
      (end-there port.wire n p port.at_port))

  side : is_end true n (end_of_view (view old) e).wire ≡ is_input p
  side = ap (is_end true n) port.is ∙ consumer-side port.wire n p port.at_port port.apart

  -- the seat has the turn of the slot exactly where the flags give it to this side, and then what
  -- lies there fits it
  turn : is_some (end_of_view (view mid) e).turn ≡ is_turn (is_input p) f
  turn = (look-made o m).turn ∙ ap (λ b. is_turn b f) side

  fits : (v : Option Chunk) → (end_of_view (view mid) e).turn ≡ Some v
      → fits_end (is_input p) v ≡ true
  fits v q = ap (λ b. fits_end b v) (sym ((λ i. is_end true (number-made o m i)
      ((look-made o m).wire i)) ∙ side))
      ∙ turn-fits o m e (ap (has e) (edges-made o m refl) ∙ port.known) v q

  slot-looks : Looks (slot_of old e) (slot_of mid e) (end_of_view (view old) e).turn
      (end_of_view (view mid) e).turn
  slot-looks = looks o m port.known

-- ---- by its side

module _ {t : Identity} {old mid : NodeSeat} {f : Flags} (ports : NodePorts) (o : IsSeatOf t old)
    (may : MayLook (ports_picture ports old)) where
  -- where a chunk is to be lifted the slot has one
  slot-ready : (p : Port) → is_own_port (ports_picture ports old) p → LooksHere t ports old mid f p
      → is_lift_due p (has_chunk p ports.view) f ≡ true
      → holds_chunk (slot_of mid (edge_of (ports_picture ports old) p)) ≡ true
  slot-ready (Input i) own m d = let p = Input i in
      chunk-there _ _ _ _ (slot-looks ports o may p own m)
      (turn ports o may p own m ∙ full f d) (fits ports o may p own m)
      (sym (ap (λ (x : InputPort). x.chunk) (view-here ports o may p own m))
      ∙ bare (input_at ports.view i) f (may.holds.sound.shown i)
      (sees ports o may p own m).fin_in d)
    where
      full : (f : Flags) → is_lift_due (Input i) (has_chunk (Input i) ports.view) f ≡ true
          → f.has_data ≡ true
      full f d = grind (arith, d)

      bare : (x : InputPort) (f : Flags) → (is_some x.chunk ≡ true → x.flags.has_data ≡ true)
          → x.flags.fin_in ≡ f.fin_in
          → (f.has_data && (not f.fin_in && not (x.flags.has_data && not x.flags.fin_in))) ≡ true
          → x.chunk ≡ None
      bare x f s o d = grind (arith, s, o, d)
  slot-ready (Output k) own m d = absurd (let n : false ≡ true = d in cc)

  -- and where an output was seen empty its slot is
  slot-empty : (k : ℕ) → is_own_port (ports_picture ports old) (Output k)
      → LooksHere t ports old mid f (Output k)
      → f.has_data ≡ false → slot_of mid (edge_of (ports_picture ports old) (Output k)) ≡ Some None
  slot-empty k own m none = let p = Output k in
      empty-there _ _ _ _ (slot-looks ports o may p own m)
      (turn ports o may p own m ∙ ap not none) (λ v q. bare v (fits ports o may p own m v q))
    where
      bare : (v : Option Chunk) → fits_end false v ≡ true → is_some v ≡ false
      bare v h = grind (arith, h)

  chunk-due : (p : Port) → is_own_port (ports_picture ports old) p → LooksHere t ports old mid f p
      → is_lift_due p (has_chunk p ports.view) f ≡ is_chunk_due ports.view p f
  chunk-due (Input i) own m = due-same f (input_at ports.view i) (may.holds.sound.shown i)
      (may.holds.sound.held i) (sees ports o may (Input i) own m).fin_in
  chunk-due (Output k) own m = refl

  module _ {new : NodeSeat} {x : Option Table} where
    may-see : (p : Port) → is_own_port (ports_picture ports old) p → LooksHere t ports old mid f p
        → LiftsHere t ports old mid new f x p → MaySee ports.view p f x
    may-see p own m l = see-port ports.view p f x
        (own-there (ports_picture ports old) may.holds p own)
        may.quiet may.holds.sound (sees ports o may p own m) (lifts-due l ∙ chunk-due p own m)

    -- what was lifted out of the slot is what the view shows
    lies : (p : Port) → is_own_port (ports_picture ports old) p → LooksHere t ports old mid f p
        → LiftsHere t ports old mid new f x p
        → lifted_at (now_seen ports new f x p) p ≡ port_chunk (after_see ports.view p f x) p
    lies (Input i) own m l = let e = edge_of (ports_picture ports old) (Input i) in
        elim (cases_Bool (is_lift_due (Input i) (has_chunk (Input i) ports.view) f)) [
          | inl z ↦ let g = l.lifted z in
              (λ j. lifted_of (g.3 j) ((ap (λ v. (end_of_view v e).turn) l.same ∙ g.2) j))
              ∙ ap (λ y. seen_chunk y (input_at ports.view i).chunk) (sym g.1)
          | inr z ↦ let g = l.left z in
              (λ j. lifted_of (g.1 j) (end_of_view (l.same j) e).turn)
              ∙ (lifted-same _ _ _ _ (slot-looks ports o may (Input i) own m)
              ∙ (sym (ap (λ (x : InputPort). x.chunk) (view-here ports o may (Input i) own m))
              ∙ ap (λ y. seen_chunk y (input_at ports.view i).chunk) (sym g.0)))
        ] ∙ ap (λ (x : InputPort). x.chunk) (sym (input_at-with_input ports.view i _
        (own-there (ports_picture ports old) may.holds (Input i) own)))
    lies (Output k) own m l = refl

    now-ready : (p : Port) → is_own_port (ports_picture ports old) p → LooksHere t ports old mid f p
        → LiftsHere t ports old mid new f x p → IsSound (after_see ports.view p f x)
        → IsPortReady (now_seen ports new f x p) p (sight (after_see ports.view p f x) p)
    now-ready (Input i) own m l sound = let there = own-there (ports_picture ports old) may.holds
        (Input i) own in (
          may.holds.needed i own ∙ (ap (λ (x : InputPort). x.flags.needed)
              (sym (view-here ports o may (Input i) own m))
              ∙ ((sees ports o may (Input i) own m).needed
              ∙ ap (λ (f : Flags). f.needed) (sym (seen-flags ports.view f x (Input i) there)))),
          sound.held i,
        )
    now-ready (Output k) own m l sound = let there = own-there (ports_picture ports old) may.holds
        (Output k) own in λ n z. (l.left refl).1 ∙ slot-empty k own m
        (ap (λ (f : Flags). f.has_data) (sym (seen-flags ports.view f x (Output k) there)) ∙ z)

-- ---- what it leaves

module _ {t : Identity} {old mid new : NodeSeat} {f : Flags} {x : Option Table} (ports : NodePorts)
    (o : IsSeatOf t old) (may : MayLook (ports_picture ports old)) (p : Port)
    (own : is_own_port (ports_picture ports old) p) (m : LooksHere t ports old mid f p)
    (l : LiftsHere t ports old mid new f x p) (sound : IsSound (after_see ports.view p f x)) where
  abbrev was : PortsPicture
  was = ports_picture ports old

  abbrev now : PortsPicture
  now = now_seen ports new f x p

  abbrev at : ℕ
  at = edge_of was p

  left : SeesAt p ports.view now.view
  left = sees-at p ports.view f x

  quiet : now.view.actions ≡ []
  quiet = left.actions ∙ may.quiet

  state-looked : (view new).state ≡ seat_after (view old) (step.Look at) (flags f)
  state-looked = ap (λ (v : NodeView). v.state) l.same ∙ state-made o m

  is : sight now.view p ≡ seen_at now p
  is = λ j. record {
    flags = (seen-flags ports.view f x p (own-there was may.holds p own)
        ∙ sym (ap (λ (v : NodeView). flags_at at v.state.seen) l.same
        ∙ look-flags o m (may.holds.known p own).known)) j;
    chunk = sym (lies ports o may p own m l) j;
  }

  same-there : (e : ℕ) → e ≢ at → SameEdge was now e
  same-there e ne = let s = same-made o m e (ne_eqb e at ne) in record {
    flags = ap (λ (v : NodeView). flags_at e v.state.seen) l.same ∙ s.flags;
    end = ap (λ v. end_of_view v e) l.same ∙ s.end;
    slot = l.others e ne ∙ s.slot;
  }

  has-now : (d : ℕ) → has d (view new).state.unlooked
      ≡ (not (d == at) && has d (view old).state.unlooked)
  has-now d = ap (λ (z : SeatState). has d z.unlooked) state-looked
      ∙ has-filter (λ y. not (y == at)) (view old).state.unlooked d

  here : Here was now p
  here = record {
    own = own;
    wire = ap (λ v. (end_of_view v at).wire) l.same ∙ (look-made o m).wire;
    differs = differs-quiet p (sight (shown now) p) now.view quiet (is ∙ sym (shown-at now p own));
    ready = subst (IsPortReady now p) (is ∙ sym (shown-at now p own))
        (now-ready ports o may p own m l sound);
    passes = quiet-passed now p own quiet is
        ∙ (ap (λ v. (end_of_view v at).chunks) l.same ∙ ((look-made o m).chunks
        ∙ sym (quiet-passed was p own may.quiet (view-here ports o may p own m))));
  }

  look-moves : MovesAt was now (Some p)
  look-moves = record {
    ports = record {
      inputs = refl;
      outputs = refl;
      sources = refl;
      targets = refl;
      number = ap (λ (v : NodeView). v.number) l.same ∙ number-made o m;
      wires = λ e. elim (cases_eq e at) [
        | inl q ↦ rw q here.wire
        | inr ne ↦ ap (λ (z : EdgeEnd). z.wire) (same-there e ne).end
      ];
    };
    edges = ap (λ (v : NodeView). edges_of v.state.seen) l.same ∙ edges-made o m refl;
    unlooked = still-updated was may.holds (view new).state.unlooked
        (λ d q. (and_parts (not (d == at)) _ (sym (has-now d) ∙ q)).1);
    others = λ e ne. same-there e (ne p refl);
    ins = left.ins;
    outs = left.outs;
    sound = sound;
    needed_len = refl;
    needs = λ i ne. refl;
    differs = λ q ne. differs-quiet q (sight (shown was) q) now.view quiet
        (left.others q ne ∙ quiet-sight was may.holds may.quiet q);
    waits = λ q ne. quiet-waits ports.view now.view left.actions q (left.others q ne);
    here = λ q e. let same : p ≡ q = (let z : Some p ≡ Some q = e in cc) in
        subst (λ q. Here was now q) same here;
  }

  looked-at : LookedAt p was now
  looked-at = record {
    looked = record {
      may = record {
        holds = moved-holds was now (Some p) may.holds look-moves;
        turn = record {
          held = ap (λ (z : SeatState). z.held) state-looked ∙ may.turn.held;
          owes = ap (λ (z : SeatState). z.owes) state-looked ∙ may.turn.owes;
          tokens = ap (λ (z : SeatState). z.tokens) state-looked ∙ may.turn.tokens;
        };
        quiet = quiet;
      };
      lists = moved-lists was now (Some p) may.holds look-moves;
      ports = look-moves.ports;
      stage = ap (λ (v : NodeView). v.stage) l.same ∙ stage-made o m;
      fewer = λ d q. has-now d ∙ none-here d q;
      follows = follows-on ports.view f x may.holds.sound p
          (may-see ports o may p own m l);
    };
    here = has-now at ∙ ap (λ z. not z && has at (view old).state.unlooked) (eq-eqb at at refl);
  }
    where
      none-here : (d : ℕ) → has d (view old).state.unlooked ≡ false
          → (not (d == at) && has d (view old).state.unlooked) ≡ false
      none-here d q = grind (arith, q)

-- ---- by the number of the port's edge

module _ {t : Identity} {old mid : NodeSeat} {f : Flags} (ports : NodePorts) (o : IsSeatOf t old)
    (may : MayLook (ports_picture ports old)) (p : Port)
    (own : is_own_port (ports_picture ports old) p) {e : ℕ} {due : Bool}
    (at : e ≡ edge_of (ports_picture ports old) p)
    (is : due ≡ is_lift_due p (has_chunk p ports.view) f)
    (m : MakesStep t old mid (step.Look e) None (flags f)) where
  look : LooksHere t ports old mid f p
  look = subst (λ e. MakesStep t old mid (step.Look e) None (flags f)) at m

  pub lift-ready : due ≡ true → holds_chunk (slot_of mid e) ≡ true
  lift-ready d = subst (λ e. holds_chunk (slot_of mid e) ≡ true) (sym at)
      (slot-ready ports o may p own look (sym is ∙ d))

  module _ {new : NodeSeat} {x : Option Table} (l : Lifts t e due mid new x) where
    lifted : LiftsHere t ports old mid new f x p
    lifted = subst (λ (y : ℕ × Bool). Lifts t y.0 y.1 mid new x) (λ j. (at j, is j)) l

    pub see-ready : MaySee ports.view p f x
    see-ready = may-see ports o may p own look lifted

    pub looked-here : IsSound (after_see ports.view p f x)
        → LookedAt p (ports_picture ports old) (now_seen ports new f x p)
    looked-here sound = looked-at ports o may p own look lifted sound
