-- A prepare that works at once what it pulled is two prepares and a work between them.
use Rattle.proc_shell.proofs.Imports.{AreAsKept, AreMoved, Bool, BoxPicture, FollowsKept, HasReadEnough, HasSpecPorts, Held, IsKernelOf, IsRunning, IsSound, IsWorkOf, Keeps, KernelState, Kind, List, LoadedShell, Option, PassesOn, Picture, PreparesLawfully, Pushes, ReaderView, Ready, RowCount, RunsTurn, ShellPrepares, ShellWorks, Some, Spec, Status, StaysFit, Table, Takes, Unworked, WorksHeld, [], all_port_flags, and_parts, ap, ap₂, arith, changed-by-both, common_steps, enough-more, follows-noted, goes-on, held_made, held_option, held_unworked, in_count, is_wanted, lists-pulled, lists-pushed, loaded_seen, ltb-true, out_count, position-still, pulled-both, refl, rows-both, shell_state, source_of, subst, sym, true, with_pulled, with_pushed, with_view, work_of, ℕ, ◌++◌, ◌<◌, ◌∙◌, ◌∷◌, ◌≡◌, ◌≤◌}
use Rattle.proc_shell.proofs.BoxLaws.{held-source, held-worked, limits-stay, passes-once, works-part}
use Rattle.proc_shell.proofs.PortMoves.{kept-count, outs-count, same-ports}

-- the view still has the ports of the spec
pub still-ports : (k : Kind) (p q : LoadedShell) (n m : RowCount) (v w : Picture) (s : Status)
    → ShellPrepares k p v n q w m s → HasSpecPorts p.kernel v → HasSpecPorts q.kernel w
still-ports k p q n m v w s x ports = grind (arith, same-ports, goes-on v w x.changed)

module _ (k : Kind) (p a b q : LoadedShell) (n m l : RowCount) (v u w : Picture) (s : Status)
    (sound : IsSound u) (first : ShellPrepares k p v n a u m Ready) (work : ShellWorks k a b)
    (last : ShellPrepares k b u m q w l s) where
  spec-stays : Some b.kernel.spec ≡ Some p.kernel.spec
  spec-stays = grind arith

  noted : b.notes.view ≡ Some (all_port_flags u)
  noted = ap (λ z. z.view) work.notes ∙ ap (λ z. z.view) first.notes

  kernel-both : IsKernelOf p.kernel q.kernel
  kernel-both = grind (arith, common_steps)

  notes-both : q.notes ≡ with_view w s (record p.notes { fits = last.fits })
  notes-both = grind (arith, common_steps)

  lawful-both : (d : Option ReaderView) → IsRunning (loaded_seen k d n p)
      → FollowsKept (loaded_seen k d n p) v
      → PreparesLawfully (loaded_seen k d n p) v (loaded_seen k d l q) w s
  lawful-both d run f = record {
    law = y.law;
    comes = y.comes;
    pulled = grind (arith, rows-both, x, y);
    limits = limits-stay _ _ _ _ _ _ w _ _ kernel-both notes-both run.faultless;
    fits = λ fit. y.fits (fits-on fit);
    keeps = λ fit ins outs kept.
        let same = (works-part k d m a b work after).keeps refl (with_pulled v u ins)
        (with_pushed v u outs) (x.keeps fit ins outs kept) in
        subst (λ i. Keeps Q i (with_pushed v w outs))
        (lists-pulled v u w sound first.changed last.changed ins)
        (subst (Keeps Q (with_pulled u w (with_pulled v u ins)))
        (lists-pushed v u w sound first.changed last.changed outs)
        (y.keeps (fits-on fit) (with_pulled v u ins) (with_pushed v u outs) same));
    stops = λ fit ins outs kept enough i.
        let same = (works-part k d m a b work after).keeps refl (with_pulled v u ins)
        (with_pushed v u outs) (x.keeps fit ins outs kept) in
        pulled-both v u w sound first.changed last.changed i
        ∙ ap₂ (λ a b. a ++ b) (x.stops fit ins outs kept enough i)
        (y.stops (fits-on fit) (with_pulled v u ins) (with_pushed v u outs) same
        (subst (λ z. HasReadEnough z (with_pulled v u ins)) (sym spec-stays)
        (enough-more (Some p.kernel.spec) v u ins enough)) i);
    ends = λ some each. absurd (let e = (x.ends some each).answer in cc);
    pushes = y.pushes;
    room = y.room;
    misfit = λ never. absurd (let e = (x.misfit never).answer in cc);
  }
    where
      B : BoxPicture
      B = loaded_seen k d m b

      Q : BoxPicture
      Q = loaded_seen k d l q

      x : PreparesLawfully (loaded_seen k d n p) v (loaded_seen k d m a) u Ready
      x = first.lawful d run f

      after : IsRunning (loaded_seen k d m a)
      after = grind arith

      between : IsRunning B
      between = grind (arith, after)

      y : PreparesLawfully B u Q w s
      y = last.lawful d between (follows-noted B u noted)

      fits-on : StaysFit (loaded_seen k d n p) v → StaysFit B u
      fits-on fit = record {
        fits = ap (λ z. z.fits) work.notes ∙ x.fits fit;
        ports = subst (λ z. HasSpecPorts z u) (sym work.continues.kernel)
            (still-ports k p a n m v u Ready first fit.ports);
        still =
            position-still (Some b.kernel.spec) b.notes.view (in_count u) (out_count u)
            (subst (λ z. AreAsKept z (in_count u) (out_count u)) (sym noted)
            (sym (kept-count u), sym (outs-count u)));
      }

  pub prepares-twice : ShellPrepares k p v n q w l s
  prepares-twice = record {
    continues = record {
      kernel = kernel-both;
      kind = first.continues.kind;
      shelled = first.continues.shelled;
      uses = grind (arith, spec-stays);
    };
    changed = changed-by-both v u w first.changed last.changed;
    grows = omega (arith, first.grows, last.grows);
    since = omega (arith, first.since, last.since);
    fits = last.fits;
    notes = notes-both;
    lawful = lawful-both;
  }

-- ---- turns

-- a kernel that passes chunks on as they are: one that was pulled may wait at once
pub record PassesChunks (x : KernelState) : Type 0 where
  pub takes : (i : ℕ) (t : Table) → i < 32 → Takes x.spec x.own i t x.own (Some t)
  pub waits : (i : ℕ) (c : Table) (made : List Table)
      → IsWorkOf (Some x.spec) (work_of x i (c ∷ []) [])
      → IsWorkOf (Some x.spec) (work_of x 0 [] made)

-- chunks are moved by one turn
pub turns-once : (k : Kind) (x y : KernelState) (h i j : Held) (n m : RowCount) (v u w : Picture)
    (s : Status) → HasSpecPorts x v → out_count v ≤ 16 → Pushes h i v u
    → RunsTurn k x y i j n m u w s → AreMoved k x h v n y j w m s
turns-once k x y h i j n m v u w s ports few pushes turn = search (arith, passes-once)

-- a turn behind one of which the chunk that it pulled was passed on
pub turns-again : (k : Kind) (wants : ℕ → Bool) (makes : Bool) (p a : LoadedShell) (y : KernelState)
    (i h : Held) (n m l : RowCount) (v u t w : Picture) (r s : Status) → PassesChunks a.kernel
    → r ≡ Ready → HasSpecPorts p.kernel v → out_count v ≤ 16
    → is_wanted wants makes a.held ≡ true → PassesOn a.held i u t
    → RunsTurn k a.kernel y i h m l t w s → ShellPrepares k p v n a u m r
    → ShellPrepares k p v n (shell_state y h (with_view w s a.notes)) w l s
turns-again k wants makes p a y i h n m l v u t w r s passes ready ports few wanted on turn so-far =
    prepares-twice k p a b (shell_state y h (with_view w s a.notes)) n m l v u w s on.sound first
    work
    (passes-once k b (shell_state y h (with_view w s a.notes)) m l u w s turn.continues
    (omega (arith, few, (goes-on v u first.changed).outs))
    (still-ports k p a n m v u Ready first ports)
    (record {
      held = i;
      view = t;
      pushes = subst (λ z. Pushes waits z u t) (sym on.after) on.pushes;
      turns = turn.turns;
      counts = turn.counts;
      notes = refl;
    }))
  where
    first : ShellPrepares k p v n a u m Ready
    first = subst (ShellPrepares k p v n a u m) ready so-far

    waits : Held
    waits = held_option (Some on.chunk)

    b : LoadedShell
    b = record { kernel = a.kernel; held = waits; notes = record a.notes { acted = true } }

    in-range : on.input < 32
    in-range = grind (arith, ltb-true, and_parts)

    UsesHeld : Option Spec → Held → Type 0
    UsesHeld z j =
        IsWorkOf z (work_of a.kernel (source_of j) (held_unworked j) (held_made j))

    uses : UsesHeld (Some a.kernel.spec) (Unworked on.input on.chunk)
    uses = grind (arith, UsesHeld, first)

    work : ShellWorks k a b
    work = record {
      continues = record {
        kernel = refl;
        kind = turn.continues.kind;
        shelled = turn.continues.shelled;
        uses = rw (held-source (Some on.chunk), held-worked (Some on.chunk))
            (passes.waits on.input on.chunk (held_made waits) uses);
      };
      works = subst (λ j. WorksHeld a.kernel j a.kernel.own waits) (sym on.before)
          (record {
            out = Some on.chunk;
            takes = passes.takes on.input on.chunk in-range;
            held = refl;
          });
      notes = refl;
    }
