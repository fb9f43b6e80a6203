-- A shell keeps the contract of its kernel's kind over a prepare.
use Rattle.proc_shell.proofs.Imports.{All, All-append, All-behind, All-weaker, AllOutputsClosed, AnswerComes, AreOpen, ArePortsOf, Bool, BoxPicture, Continues, CountsRows, EndsNow, Flags, FollowsKept, GrowthForm, HadPorts, HasEnough, HasNotedEnd, HasReadEnough, HasSize, HasSpecPorts, Held, InputFollows, IsOver, IsPulled, IsReadUp, Keeps, KeepsMade, KeepsOver, KernelState, Kind, List, Lists, MakesTypes, MayBeInput, Means, Moves, None, Notes, NotesEnd, Nothing, Option, OwnState, Passes, Picture, PortFlags, Prepared, PullsNoMore, Pushes, ReaderView, RowCount, Some, Spec, Status, StaysFit, Table, [], all-fitting, all_port_flags, ap, append-nil, append_assoc, append_cancel_right, ap₂, arith, both_ways, cases_eq, cases_lt, chunk_rows, common_steps, cond, cond_both, counted-more, enough-more, eq-eqb, false, false_from_ne_true, front-all, gathered_with, get_or, growth_in, held_made, held_unworked, in_count, inl, input_at, inr, is_ended, is_in_finished, kept_input, kept_input-of, kept_input-past, kept_inputs, kept_inputs-of, kept_output, kept_output-of, kept_output-past, kept_outputs, kept_outputs-of, kept_ports, length, loaded_seen, makes-more, may-be-input, ne_eqb, never-enough, not-true, or_cases, out_count, output_at, own_of, pulled-last, pulled-more, pulled_at, pushed_at, raised, reading_of, refl, rows_pulled, shell_state, source_of, subst, sym, taken_out, true, unworked_at, wanting-not-enough, with_pulled, with_pushed, ℕ, ◌++◌, ◌<◌, ◌==◌, ◌||◌, ◌∙◌, ◌≡◌, ◌≢◌, ◌≤◌, ◌⊎◌, HasMade, Reading, Row}
use Rattle.proc_api.specs.declared.status.Status.TheVariants as status
use Rattle.proc_shell.proofs.PortMoves.{all-or, both-none, kept-count, never-true, outs-count}
use Rattle.proc_shell.proofs.TurnLaws.{holds-unended}

-- ---- lists

pub cond-none : (c : Bool) (l : List Table) → l ≡ [] → cond c l [] ≡ []
cond-none c l e = cond_both c l [] (λ x. x ≡ []) (λ t. e) (λ t. refl)

pub all-none : (P : Table → Type 0) (xs : List Table) → xs ≡ [] → All P xs
all-none P xs e = λ k d lt. absurd (let l = ap length e in omega (arith, l, lt))

-- ---- flags

either-true : (x y : Bool) → y ≡ true → (x || y) ≡ true
either-true x y e = grind (arith, common_steps)

pub never-ended : (f : Flags) → is_ended f ≡ true → is_in_finished f ≡ false → ⊥
never-ended f e n = both_ways (f.fin_in || is_ended f) n (either-true f.fin_in (is_ended f) e)

ended-stays : (a b : Flags) → InputFollows a b → is_ended a ≡ true → is_ended b ≡ true
ended-stays a b f e = grind (arith, common_steps, not-true)

-- ---- a prepare

-- a kind that notes an end has the same ports before and after a growth
noted-ports : (s : Spec) (own : OwnState) (i m n : ℕ) (growth : Option GrowthForm)
    → NotesEnd (Some s) own i → ArePortsOf (Some s) None m n → ArePortsOf (Some s) growth m n
noted-ports s own i m n growth noted h = grind arith

-- while it asks to grow, each port is open
opens-now : (x : KernelState) (k : Held) (w : Picture) (st : Status) → AnswerComes st x k w
    → Some (Prepared st) ≡ Some (Prepared status.ExpandPipeline) → AreOpen (all_port_flags w)
opens-now x k w st comes e = grind arith

-- the ports that were kept are those of any box with that spec and growth
pub had-same : (view : Option PortFlags) (p q : BoxPicture) → q.spec ≡ p.spec
    → q.growth ≡ p.growth → HadPorts view p → HadPorts view q
had-same view p q spec growth had = grind arith

-- what the kernel notes is no matter of what it gathered
pub noted-own : (s : Spec) (a : OwnState) (l m : List Table) (i : ℕ) → NotesEnd (Some s)
    (record a { gathered = l }) i → NotesEnd (Some s) (record a { gathered = m }) i
noted-own s a l m i n = grind arith

pub end-own : (s : Spec) (a : OwnState) (l m : List Table)
    → HasNotedEnd s (record a { gathered = l }) → HasNotedEnd s (record a { gathered = m })
end-own s a l m n = grind arith

-- what a kernel has made, as its box shows it with the chunk that isn't worked yet
pub made-shown : (s : Spec) (x : Reading) (a : OwnState) (worked outs : Lists) (wait : List Row)
    → Means x s a worked outs wait
    → HasMade x s (record a { gathered = gathered_with s a.gathered x.unworked }) worked outs wait
made-shown s x a worked outs wait h = grind (arith, append-nil)

pub made-hidden : (s : Spec) (x : Reading) (a : OwnState) (worked outs : Lists) (wait : List Row)
    → HasMade x s (record a { gathered = gathered_with s a.gathered x.unworked }) worked outs wait
    → Means x s a worked outs wait
made-hidden s x a worked outs wait h = grind (arith, append-nil, append_cancel_right)

-- the count of a prepare, which pulls nothing where it pushes
pub pulled-so : (h m : Held) (v u w : Picture) (old new : RowCount) → Pushes h m v u
    → CountsRows (rows_pulled u w) old new → new.total ≡ raised old.total (rows_pulled v w)
pulled-so h m v u w old new pushes counts = grind arith

-- A prepare of a kernel that holds h: what was made is pushed, which leaves the view u and m, and
-- then a turn is taken, which leaves b and k.
module _ (kind : Kind) (d : Option ReaderView) (kernel : KernelState) (b : OwnState) (h k : Held)
    (first last : Notes) (old new : RowCount) (v w : Picture) (st : Status)
    (so : Continues kind kernel (record kernel { own = b }) k)
    (g : Passes (shell_state kernel h first) v old (shell_state (record kernel { own = b }) k last)
    w new st)
    (few : out_count v ≤ 16) (ports : HasSpecPorts kernel v)
    (follows : FollowsKept (loaded_seen kind d old (shell_state kernel h first)) v)
    (fit : StaysFit (loaded_seen kind d old (shell_state kernel h first)) v) where
  abbrev u : Picture
  u = g.view

  abbrev m : Held
  m = g.held

  abbrev p : BoxPicture
  p = loaded_seen kind d old (shell_state kernel h first)

  abbrev q : BoxPicture
  q = loaded_seen kind d new (shell_state (record kernel { own = b }) k last)

  abbrev s : Spec
  s = kernel.spec

  abbrev a : OwnState
  a = kernel.own

  abbrev growth : Option GrowthForm
  growth = growth_in kernel.spec kernel.stage

  last-view : last.view ≡ Some (all_port_flags w)
  last-view = ap (λ z. z.view) g.notes

  mv : Moves (record kernel { own = b }) m k u w st
  mv = g.turns.moves

  ins-w : in_count w ≡ in_count v
  ins-w = mv.ins ∙ g.pushes.ins

  outs-w : out_count w ≡ out_count v
  outs-w = mv.outs ∙ g.pushes.outs

  pulled-is : (i : ℕ) → pulled_at v w i ≡ pulled_at u w i
  pulled-is i = ap (λ x. taken_out x.chunk (input_at w i).chunk) (sym (g.pushes.inputs i))

  pushed-is : (o : ℕ) → pushed_at v w o ≡ pushed_at v u o
  pushed-is o = ap (λ l. cond (output_at v o).has_data [] l) (mv.pushes o)

  -- what waited left, or waits
  made-are : held_made h ≡ g.pushes.left ++ held_made k
  made-are = g.pushes.made ∙ ap (λ l. g.pushes.left ++ l) (sym mv.made)

  pushed-others : (o : ℕ) → o ≢ g.pushes.out → pushed_at v w o ≡ []
  pushed-others o ne = pushed-is o ∙ g.pushes.others o ne

  had-counts : HadPorts first.view p → AreOpen (kept_ports first.view)
      ⊎ ((kept_inputs p ≡ in_count v) × (kept_outputs p ≡ out_count v))
  unfolding kept_inputs kept_outputs
  had-counts had = search (arith, common_steps)

  noted-counts : (i : ℕ) → NotesEnd (Some s) a i → HadPorts first.view p
      → (first.view ≡ None) ⊎ (kept_inputs p ≡ in_count v)
  unfolding kept_inputs
  noted-counts i noted had = search (arith, common_steps, noted-ports)

  never-out : {X : Type 0} (o : ℕ) → AreOpen (kept_ports first.view)
      → (kept_output p o).fin_out ≡ true → X
  unfolding kept_output
  never-out o open' fin = never-true _ (open'.outputs o) fin

  never-in : {X : Type 0} (i : ℕ) → AreOpen (kept_ports first.view)
      → (kept_input p i).fin_in ≡ true → X
  unfolding kept_input
  never-in i open' fin = never-true _ (open'.inputs i) fin

  kept-out : (o : ℕ) → o < out_count v → (output_at u o).fin_out ≡ true
      → (kept_output p o).fin_out ≡ true
  kept-out o lt e = sym (follows.outputs o lt).fin_out ∙ sym (g.pushes.finished o) ∙ e

  enough-still : (ins : Lists) → HasReadEnough (Some s) ins
      → HasReadEnough (Some s) (with_pulled v w ins)
  enough-still ins x = enough-more (Some s) v w ins x

  -- where it had finished an output by itself, its inputs are at their ends, or it has read enough
  was-finished : (ins outs : Lists) → Keeps p ins outs → (o : ℕ) → o < out_count v
      → (output_at u o).fin_out ≡ true → ((i : ℕ) → i < in_count v
      → is_ended (input_at u i).flags ≡ true) ⊎ HasReadEnough (Some s) ins
  was-finished ins outs kept o lt fin =
      let before = kept-out o lt fin in
      elim (had-counts kept.ports) [
        | inl none ↦ never-out o none before
        | inr n ↦ elim (kept.finishes o before) [
          | inl all ↦ grind (arith, ended-stays)
          | inr enough ↦ inr enough
        ]
      ]

  -- where it had closed an input, its consumers had closed all outputs, or it has read enough
  was-closed : (ins outs : Lists) → Keeps p ins outs → (i : ℕ) → i < in_count v
      → (input_at u i).flags.fin_in ≡ true → ((0 < out_count v)
      × ((o : ℕ) → o < out_count v → (output_at u o).fin_in ≡ true)) ⊎ HasReadEnough (Some s) ins
  was-closed ins outs kept i lt e =
      let before : (kept_input p i).fin_in ≡ true = sym (follows.inputs i lt).fin_in
      ∙ ap (λ x. x.flags.fin_in) (sym (g.pushes.inputs i)) ∙ e in
      elim (had-counts kept.ports) [
        | inl none ↦ never-in i none before
        | inr n ↦ elim (kept.closes i before) [
          | inl all ↦ grind (arith, common_steps)
          | inr enough ↦ inr enough
        ]
      ]

  -- the chunks that are unworked are those that were, and what was pulled
  unworked-is : (i : ℕ) → unworked_at q.work i ≡ unworked_at p.work i ++ pulled_at v w i
  unworked-is i = grind (arith, common_steps, pulled-is, cond-none, eq-eqb, ne_eqb, cases_eq)

  ends-after : HasNotedEnd s b → HasNotedEnd s (own_of q.work)
  ends-after n = end-own s b b.gathered (gathered_with s b.gathered (held_unworked k)) n

  -- what is over stays over
  over-before : (ins outs : Lists) → Keeps p ins outs → KeepsMade s p ins outs → (o : ℕ)
      → o < out_count v → (output_at u o).fin_out ≡ true → IsOver s q.work
  over-before ins outs kept t o lt fin =
      let was = t.over o (kept-out o lt fin) in
      let unworked : held_unworked m ≡ [] = g.pushes.unworked ∙ was.all_worked in
      let noted : HasNotedEnd s a = end-own s a (gathered_with s a.gathered (held_unworked h))
      a.gathered was.noted in
      let rest = g.turns.leaves.stays_over was.all_made noted in
      record {
        nothing_waits =
            (both-none g.pushes.left (held_made k) (sym made-are ∙ was.nothing_waits)).1;
        all_worked = elim mv.pulls [
          | inl x ↦ x.unworked ∙ unworked
          | inr x ↦ absurd (elim (was-finished ins outs kept o lt fin) [
            | inl all ↦ holds-unended (input_at u x.input).flags x.holds
                (all x.input (let n = x.in_range in omega (arith, n, g.pushes.ins)))
            | inr enough ↦ grind (arith, common_steps)
          ])
        ];
        all_made = rest.0;
        noted = ends-after rest.1;
      }

  kept-in-range : (o : ℕ) → (kept_output q o).fin_out ≡ true
      → (o < out_count w) × ((output_at w o).fin_out ≡ true)
  kept-in-range o fin =
      grind (arith, common_steps, kept_output-of, last-view, never-true, kept_output-past)

  -- an output that it has finished was so before, or is so now
  finishes-now : (o : ℕ) → (kept_output q o).fin_out ≡ true → ((o < out_count v)
      × ((output_at u o).fin_out ≡ true)) ⊎ EndsNow (record kernel { own = b }) m k u
  finishes-now o fin =
      let x = kept-in-range o fin in
      let lt : o < out_count u = let n = x.0 in omega (arith, n, mv.outs) in
      elim (mv.finishes o lt x.1)
      [ inl before ↦ inl (omega (arith, lt, g.pushes.outs), before) | inr now ↦ inr now ]

  made-rows : (outs fit : Lists) → Means (reading_of p) s a fit outs (chunk_rows (held_made h))
      → Means (reading_of p) s b fit (with_pushed v w outs) (chunk_rows (held_made k))
  made-rows outs fit t =
      g.turns.leaves.means (reading_of p) fit (with_pushed v w outs) (chunk_rows (held_made k))
      (so.shelled.lets_push (reading_of p) a fit outs (with_pushed v w outs) growth (in_count v)
      (out_count v) g.pushes.out g.pushes.left (held_made k) ports
      (elim g.pushes.by [
        | inl x ↦ grind (arith, common_steps, pushed-is)
        | inr none ↦ inr none
      ])
      (λ j ne. ap (λ l. outs j ++ l) (pushed-others j ne) ∙ append-nil (outs j))
      (subst (λ l. Means (reading_of p) s a fit outs (chunk_rows l)) made-are t))

  meant-before : (ins outs : Lists) (t : KeepsMade s p ins outs)
      → Means (reading_of p) s a t.fit outs (chunk_rows p.work.made)
  meant-before ins outs t = grind (arith, made-hidden)

  pub through : (ins outs : Lists) → Keeps p ins outs → KeepsMade s p ins outs
      → KeepsMade s q (with_pulled v w ins) (with_pushed v w outs)
  through ins outs kept t = record {
    worked = t.worked;
    fit = t.fit;
    ins_are = λ i. grind (arith, t.ins_are i, unworked-is i, append_assoc);
    fit_are = t.fit_are;
    rows = made-shown s (reading_of q) b t.fit (with_pushed v w outs) (chunk_rows (held_made k))
        (made-rows outs t.fit (meant-before ins outs t));
    over = λ o fin. elim (finishes-now o fin) [
      | inl before ↦ over-before ins outs kept t o before.0 before.1
      | inr now ↦ grind (arith, ends-after)
    ];
    read = λ o fin. grind (arith, finishes-now o fin, t.read o, kept-out o);
  }

  -- where nothing is held, all chunks that were pulled are worked, and the kernel has made of those
  -- that fit what it says
  all-worked : (ins outs : Lists) (t : KeepsMade s p ins outs) → m ≡ Nothing
      → ((i : ℕ) → ins i ≡ t.worked i)
      × Means (reading_of p) s b t.fit outs (chunk_rows (held_made h))
  all-worked ins outs t e = search (arith, append-nil, cond-none, meant-before)

  -- the kernel has read enough
  now-enough : (ins outs : Lists) → Keeps p ins outs → m ≡ Nothing → HasEnough s b
      → HasReadEnough (Some s) (with_pulled v w ins)
  now-enough ins outs kept e enough =
      let t : KeepsMade s p ins outs = kept.rows in
      let all = all-worked ins outs t e in
      let fits : (i : ℕ) → t.fit i ≡ t.worked i = λ i. all-fitting _ (t.worked i) (t.fit i)
      (λ j d lt. enough.any i (get_or (t.worked i) j d).types) (t.fit_are i) in
      enough-still ins (enough.enough (reading_of p) t.fit outs ins (chunk_rows (held_made h))
      (λ i. all.0 i ∙ sym (fits i)) all.1)

  -- a kernel that had read enough pulls nothing
  pub stops : PullsNoMore p v w
  stops ins outs kept enough i = pulled-is i ∙ elim mv.pulls [
    | inl x ↦ x.nothing i
    | inr x ↦
        let t : KeepsMade s p ins outs = kept.rows in
        let all = all-worked ins outs t x.before in
        absurd (wanting-not-enough s (record (reading_of p) { unworked = [] }) b t.worked t.fit outs
        (chunk_rows (held_made h)) t.fit_are all.1 x.wanting
        (subst (HasReadEnough (Some s)) (λ z j. all.0 j z) enough))
  ]

  ends-finished : (ins outs : Lists) → Keeps p ins outs → (o : ℕ) → o < out_count v
      → (output_at w o).fin_out ≡ true
      → ((i : ℕ) → i < in_count v → is_ended (input_at w i).flags ≡ true)
      ⊎ HasReadEnough (Some s) (with_pulled v w ins)
  ends-finished ins outs kept o lt fin =
      elim (mv.finishes o (omega (arith, lt, g.pushes.outs)) fin) [
        | inl before ↦ elim (was-finished ins outs kept o lt before) [
          | inl all ↦ inl (λ i less. mv.ended i (all i less))
          | inr enough ↦ inr (enough-still ins enough)
        ]
        | inr now ↦ elim now.why [
          | inl enough ↦ inr (now-enough ins outs kept now.before enough)
          | inr over ↦
              let unfinished = over.1 in
              all-or (in_count v) (λ i. is_ended (input_at w i).flags ≡ true)
              (HasReadEnough (Some s) (with_pulled v w ins))
              (λ i less. elim (or_cases (input_at u i).flags.fin_in (is_ended (input_at u i).flags)
              (over.0 i (omega (arith, less, g.pushes.ins)))) [
                | inl closed ↦ elim (was-closed ins outs kept i less closed) [
                  | inl all ↦
                      absurd (unfinished (let some = all.0 in omega (arith, some, g.pushes.outs))
                      (λ j n. either-true (output_at u j).fin_out (output_at u j).fin_in
                      (all.1 j (omega (arith, n, g.pushes.outs)))))
                  | inr enough ↦ inr (enough-still ins enough)
                ]
                | inr ended ↦ inl (mv.ended i ended)
              ])
        ]
      ]

  consumers-closed : 0 < out_count v → ((o : ℕ) → o < out_count v → (output_at u o).fin_in ≡ true)
      → AllOutputsClosed q
  consumers-closed some all = grind (
    arith,
    kept_outputs-of q w last-view,
    outs-w,
    kept_output-of q w last-view,
    mv.consumers,
  )

  closes-right : (ins outs : Lists) → Keeps p ins outs → (i : ℕ) → i < in_count v
      → (input_at w i).flags.fin_in ≡ true → AllOutputsClosed q
      ⊎ HasReadEnough (Some s) (with_pulled v w ins)
  closes-right ins outs kept i lt e = elim (mv.closes i (omega (arith, lt, g.pushes.ins)) e) [
    | inl before ↦ elim (was-closed ins outs kept i lt before) [
      | inl all ↦ inl (consumers-closed all.0 all.1)
      | inr enough ↦ inr (enough-still ins enough)
    ]
    | inr now ↦ elim now [
      | inl x ↦ elim (all-or (out_count v) (λ o. (output_at u o).fin_in ≡ true) (HasReadEnough
          (Some s) ins) (λ o less. elim (or_cases (output_at u o).fin_out (output_at u o).fin_in
          (x.all o (omega (arith, less, g.pushes.outs)))) [
            | inl fin ↦ elim (was-finished ins outs kept o less fin) [
              | inl all ↦ absurd (never-ended (input_at u i).flags (all i lt) x.unfinished)
              | inr enough ↦ inr enough
            ]
            | inr closed ↦ inl closed
          ])) [
            | inl all ↦ grind (arith, consumers-closed)
            | inr enough ↦ inr (enough-still ins enough)
          ]
      | inr x ↦ inr (now-enough ins outs kept x.0 x.1)
    ]
  ]

  -- an input that was at its end and worked stays so
  stays-read : (ins outs : Lists) → Keeps p ins outs → (i : ℕ) → i < in_count v
      → NotesEnd (Some s) b i → is_ended (input_at u i).flags ≡ true
      → (input_at u i).flags.fin_in ≡ false → unworked_at p.work i ≡ [] → IsReadUp q i
  stays-read ins outs kept i lt n ended unclosed none =
      let here = kept_input-of q w last-view i (omega (arith, lt, ins-w)) in
      record {
        at_end = ap is_ended here ∙ mv.ended i ended;
        not_closed = ap (λ f. f.fin_in) here ∙ false_from_ne_true (input_at w i).flags.fin_in (λ e.
            elim (mv.closes i (omega (arith, lt, g.pushes.ins)) e) [
              | inl before ↦ never-true (input_at u i).flags.fin_in unclosed before
              | inr now ↦ elim now [
                | inl x ↦ never-ended (input_at u i).flags ended x.unfinished
                | inr x ↦ never-enough s b i (with_pulled v w ins) n
                    (now-enough ins outs kept x.0 x.1)
              ]
            ]);
        all_worked = unworked-is i ∙ ap₂ (λ x y. x ++ y) none (pulled-is i ∙ (elim mv.pulls [
          | inl x ↦ x.nothing i
          | inr x ↦ elim (cases_eq i x.input) [
            | inl z ↦ grind (arith, holds-unended)
            | inr ne ↦ x.others i ne
          ]
        ]));
      }

  -- an input of which the end is noted
  noted-right : (ins outs : Lists) → Keeps p ins outs → (i : ℕ) → i < in_count v
      → NotesEnd (Some s) b i → IsReadUp q i
  noted-right ins outs kept i lt n =
      let same = g.pushes.inputs i in
      let stays = stays-read ins outs kept i lt n in
      elim (g.turns.ends i (omega (arith, lt, g.pushes.ins)) n) [
        | inl before ↦
            let there = may-be-input p (in_count v) i (noted-counts i before kept.ports) lt in
            let was = kept.noted i there
            (noted-own s a a.gathered (gathered_with s a.gathered (held_unworked h)) i before) in
            let f = follows.inputs i lt in
            stays (ap (λ x. is_ended x.flags) same ∙ ended-stays (kept_input p i)
            (input_at v i).flags f was.at_end)
            (ap (λ x. x.flags.fin_in) same ∙ f.fin_in ∙ was.not_closed) was.all_worked
        | inr now ↦
            let open' : (input_at u i).flags.fin_in ≡ false =
            false_from_ne_true (input_at u i).flags.fin_in (λ e.
            elim (was-closed ins outs kept i lt e) [
              | inl all ↦ grind (arith, either-true)
              | inr enough ↦ never-enough s b i ins n enough
            ]) in
            stays (ap (λ c. c || is_ended (input_at u i).flags) (sym open') ∙ now.over) open'
            (cond-none (i == source_of h) (held_unworked h)
            (sym g.pushes.unworked ∙ ap held_unworked now.before))
      ]

  -- what is true of the chunks that were made is true of those pushed now, and of those that wait
  made-split : (P : Table → Type 0) → All P p.work.made → All P (g.pushes.left ++ held_made k)
  made-split P made = subst (All P) made-are made

  pushed-all : (P : Table → Type 0) → All P p.work.made → (o : ℕ) → All P (pushed_at v w o)
  pushed-all P made o =
      grind (
        arith,
        common_steps,
        pushed-is,
        front-all,
        made-split,
        all-none,
        pushed-others,
        cases_eq,
      )

  made-all : (P : Table → Type 0) → All P p.work.made → All P q.work.made
  made-all P made = All-behind P g.pushes.left (held_made k) (made-split P made)

  unworked-pulled : (ins : Lists) → All (λ (t : Table). IsPulled ins t.types) p.work.unworked
      → All (λ (t : Table). IsPulled (with_pulled v w ins) t.types) q.work.unworked
  unworked-pulled ins f = grind (arith, All-weaker, pulled-more, pulled-last, pulled-is)

  -- it keeps its contract over the prepare, where its kind keeps its rows
  pub keeps-over : KeepsOver p v q w
  keeps-over ins outs kept =
      let more = with_pulled v w ins in
      let P : Table → Type 0 = λ t. MakesTypes (Some s) ins t.types in
      let Q : Table → Type 0 = λ t. MakesTypes (Some s) more t.types in
      let still : (t : Table) → P t → Q t = λ t. makes-more (Some s) v w ins t.types in
      let had : HadPorts last.view q = subst (λ x. HadPorts x q) (sym last-view)
      (inl (rw (kept-count w ∙ ins-w, outs-count w ∙ outs-w) ports)) in
      record {
        ports = had;
        opens = grind (arith, last-view, opens-now, mv);
        idle = so.uses;
        rows = through ins outs kept kept.rows;
        types = λ o. All-append Q (outs o) (pushed_at v w o)
            (All-weaker P Q still (outs o) (kept.types o))
            (All-weaker P Q still (pushed_at v w o) (pushed-all P kept.made_types o));
        made_types = All-weaker P Q still (held_made k) (made-all P kept.made_types);
        sizes = λ o. All-append (HasSize (Some s)) (outs o) (pushed_at v w o) (kept.sizes o)
            (pushed-all (HasSize (Some s)) kept.made_sizes o);
        made_sizes = made-all (HasSize (Some s)) kept.made_sizes;
        unworked = unworked-pulled ins kept.unworked;
        counted = counted-more p q v w ins
            (record { count = g.counts.grows; since = g.counts.since })
            (pulled-so h m v u w old new g.pushes g.counts) kept.counted;
        finishes = λ o fin.
            let x = kept-in-range o fin in
            let lt : o < out_count v = let n = x.0 in omega (arith, n, outs-w) in
            elim (ends-finished ins outs kept o lt x.1) [
              | inl all ↦ inl (λ i less.
                  let n = kept_inputs-of q w last-view in
                  let z : i < in_count w = omega (arith, n, less) in
                  ap is_ended (kept_input-of q w last-view i z) ∙ all i (omega (arith, z, ins-w)))
              | inr e ↦ inr e
            ];
        closes = λ i fin. elim (cases_lt i (in_count w)) [
          | inl lt ↦ closes-right ins outs kept i (omega (arith, lt, ins-w))
              (ap (λ f. f.fin_in) (sym (kept_input-of q w last-view i lt)) ∙ fin)
          | inr le ↦ never-true _ (ap (λ f. f.fin_in) (kept_input-past q w last-view i le)) fin
        ];
        noted = λ i there n.
            let lt : i < in_count w =
            subst (λ k. i < k) (kept-count w) (subst (λ x. MayBeInput x i) last-view there) in
            noted-right ins outs kept i (omega (arith, lt, ins-w))
            (noted-own s b (gathered_with s b.gathered (held_unworked k)) b.gathered i n);
      }
