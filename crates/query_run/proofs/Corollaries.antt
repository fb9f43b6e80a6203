-- The corollaries of the theorem on how a run ends, and completeness.
use Rattle.query_run.proofs.Imports.{All, All-contains, Answered, AreRefused, BadPlace, BoxPicture, Checked, Command, Declared, Ending, Ends, EndsFor, EndsUnlawful, Failed, FailsAtPart, Files, GivesBack, HasBoxes, IsAccepted, IsAnswerable, IsBlank, IsCheckedCommand, IsDueRefusal, IsEither, IsHonest, IsListDeclared, IsListUsed, IsLongFile, IsRefusedFor, IsRun, IsRunnable, IsShort, IsValidList, IsValidUsed, IsWithinLimits, Kind, LackBoxes, LacksBoxes, LeavesBoxes, List, MeanNothing, NameManyPaths, NamesFewPaths, None, OfChecked, OfCommand, OfQuery, Option, PartName, PlanFailsFor, PlanFailure, PulledRows, RanPlan, ReaderFails, Refusal, Refused, Shortage, Some, SucceedsUnless, Untouched, UsedPart, WriteFailed, WritesAnswer, arith, both_ways, boxes_for, command_means, inl, inr, limits_kept, one_tree, plan_kinds, plan_nodes, plan_of, plan_status, refl, refused_status, runs-give-back, same_refusal, schemas_of, status_of, subst, sym, used_parts, used_tables, ℕ, ◌∙◌, ◌≡◌, ◌≢◌, ◌⊎◌}
use Rattle.query_model.specs.declared.query.Refusal.TheVariants as refuse
use Rattle.sql_text.specs.declared.limits.ParseRefusal.TheVariants as parse
use Rattle.query_run.specs.declared.ending.Refused.TheVariants as refused
use Rattle.proc_api.specs.declared.status.WorkFault.TheVariants as fault
use Rattle.query_run.specs.declared.ending.PlanFailure.TheVariants as plan
use Rattle.query_run.specs.declared.ending.Failure.TheVariants as failure
use Rattle.query_run.proofs.Commands.{same_need, same_uses, stock_serves}
use Rattle.query_run.proofs.Plans.{ended-lawful, kinds-for-same, plan_stock}

-- words mean one command
same_command : {P Q : Command → Type 0} {words : List (List ℕ)}
    → (a : OfCommand words P) (b : OfCommand words Q) → a.command ≡ b.command
same_command a b = grind arith

-- what is true of a command is true of the one that the words mean
moved : {P Q : Command → Type 0} {words : List (List ℕ)} (a : OfCommand words P)
    (b : OfCommand words Q) → P b.command
moved {P} a b = subst P (same_command a b) a.holds

-- words that mean a command don't mean nothing
means_something : {P : Command → Type 0} {words : List (List ℕ)} → OfCommand words P
    → MeanNothing words → ⊥
means_something o none = grind arith

-- what else is true of the query that the words mean
of_query : {P Q : Command → Checked → Type 0} {words : List (List ℕ)} (h : OfQuery words P)
    → Q h.command h.holds.checked → OfQuery words Q
of_query h x = search (arith)

-- what is none isn't some
clash : {A : Type 0} {o : Option A} {x : A} → o ≡ None → o ≡ Some x → ⊥
clash a e = grind arith

-- a refusal is for want of memory, or has status 2 and is of a text that isn't accepted
refusal_is : (command : Command) (r : Refused) → IsRefusedFor r command
    → (refused_status r ≡ 7) ⊎ ((refused_status r ≡ 2) × (IsAccepted command → ⊥))
refusal_is command (refused.Text parse.Memory) h = inl refl
refusal_is command (refused.Text parse.Syntax) (inl h) = inr (refl, λ a. clash a.read.early h)
refusal_is command (refused.Text parse.Syntax) (inr h) =
    inr (refl, λ a. h.1 a.query a.read.spells)
refusal_is command (refused.Text r) h = inr (refl, λ a. clash a.read.early h)
refusal_is command (refused.Query refusal) h = go refusal h.due
  where
    go : (r : Refusal) → IsDueRefusal h.query (schemas_of command) r
        → (refused_status (refused.Query r) ≡ 7)
        ⊎ ((refused_status (refused.Query r) ≡ 2) × (IsAccepted command → ⊥))
    go refuse.Memory due = inl refl
    go r (inl e) = absurd cc
    go r (inr e) = inr (
      refl,
      λ a. clash (same_refusal h.query a.query
          (one_tree command.query h.query a.query h.read.spells a.read.spells) (schemas_of command)
          ∙ a.accepted) e,
    )

-- ---- paths and racks that have too few boxes

not_lacking : (c : Command) (before : List BoxPicture)
    → OfChecked c (λ q. HasBoxes (boxes_for c q) before)
    → OfChecked c (λ q. LacksBoxes (boxes_for c q) before) → ⊥
not_lacking c before a b = grind (arith, same_need c a.checked b.checked a.is b.is b.holds.kind)

not_crowded : (c : Command) → OfChecked c (NamesFewPaths c)
    → OfChecked c (λ q. NamesFewPaths c q → ⊥) → ⊥
not_crowded c a b = grind (arith, same_uses c a.checked b.checked a.is b.is)

-- ---- the run of a plan

module _ (before after : List BoxPicture) where
  -- the boxes of a plan that ran were taken and given back
  gives_back : (c : Command) (q : Checked) → IsRunnable c q before → RanPlan c q before after
      → GivesBack (plan_kinds c q) before after
  gives_back c q runnable r =
      subst (λ ks. GivesBack ks before after)
      (kinds-for-same r.nodes (plan_nodes (plan_of c q)) r.same)
      (runs-give-back r.runs (plan_stock c q r.nodes before r.same runnable.boxes))

  -- over an honest rack, for a command that can be answered
  module _ (files : Files) (c : Command) (q : Checked) (honest : IsHonest files before)
      (a : IsAnswerable files c) (is : IsCheckedCommand c q) where
    -- no part is bad
    not_bad : (name : PartName) (place : BadPlace)
        → FailsAtPart name (fault.Bad place) c q before after → ⊥
    not_bad name place h =
        let bad = h.fails files honest.boxes_are in
        clash (All-contains (IsValidUsed c.header files) (used_parts files c.tables q) bad.0
        (a.valid q is) bad.1.used).1 bad.2

    -- nor a list
    not_bad_list : (name : PartName) (line : ℕ)
        → FailsAtPart name (fault.BadList line) c q before after → ⊥
    not_bad_list name line h =
        let bad = h.fails files honest.boxes_are in
        let list = bad.1.list in
        let used = All-contains (IsListUsed files c.tables) (used_tables q) (Declared list.place)
        (a.lists q is) list.used in
        let declared = subst (λ o. IsListDeclared files o) list.declared used in
        clash (subst (λ d. IsValidList files d) list.names_list declared).1 bad.2

    -- nor is one too long
    not_long : (name : PartName) → FailsAtPart name fault.TooLong c q before after → ⊥
    not_long name h =
        let long = h.fails files honest.boxes_are in
        elim long.1 [
          | inl list ↦ a.lists_within q is long.0 list.list long.2
          | inr p ↦
              All-contains (λ (p : UsedPart). IsLongFile files p.path → ⊥)
              (used_parts files c.tables q) p.0 (a.within q is) p.1.used
              (subst (λ path. IsLongFile files path) (sym p.2) long.2)
        ]

    -- no run ends by an unlawful box
    not_unlawful : IsWithinLimits c → (k : Kind) → EndsUnlawful k c q before after → ⊥
    not_unlawful within k h =
        both_ways _ h.unlawful (ended-lawful (record {
          copies = record { within = within; checked = is; same = h.ran.same };
          runnable = h.runnable;
          run = h.ran.runs;
        }) files honest.boxes_are h.node h.in_range)

    -- and the rack has enough boxes
    not_short : IsWithinLimits c → (s : Shortage) → IsShort (boxes_for c q) before s → ⊥
    not_short within s h = search (arith, stock_serves)

    -- So a plan fails for want of memory alone, where no reader fails.
    plan_memory : IsWithinLimits c → ((name : PartName)
        → FailsAtPart name fault.Read c q before after
        ⊎ FailsAtPart name fault.Stalled c q before after → ⊥)
        → (f : PlanFailure) → PlanFailsFor f c q before after → plan_status f ≡ 7
    plan_memory within well (plan.Paths name count) h = absurd (clash (a.paths q is) h.0)
    plan_memory within well (plan.Stock s) h = absurd (not_short within s h.1)
    plan_memory within well (plan.Part name (fault.Bad place)) h = absurd (not_bad name place h)
    plan_memory within well (plan.Part name (fault.BadList line)) h =
        absurd (not_bad_list name line h)
    plan_memory within well (plan.Part name fault.Read) h = absurd (well name (inl h))
    plan_memory within well (plan.Part name fault.Stalled) h = absurd (well name (inr h))
    plan_memory within well (plan.Part name fault.TooLong) h = absurd (not_long name h)
    plan_memory within well (plan.Part name fault.Memory) h = refl
    plan_memory within well (plan.Unlawful k) h = absurd (not_unlawful within k h)
    plan_memory within well plan.Memory h = refl

-- ---- how a run ended

-- The boxes of the query's plan were taken and given back, where it was within its limits or memory
-- ran out. Or the rack is as it was, for the one cause that the status tells.
data Course (words : List (List ℕ)) (before after : List BoxPicture) (status : ℕ) : Type 0 where
  takes_boxes : OfQuery words (λ c q. GivesBack (plan_kinds c q) before after
      × (IsRunnable c q before ⊎ (status ≡ 7))) → Course words before after status
  lacks_memory : after ≡ before → status ≡ 7 → Course words before after status
  lacks_command : after ≡ before → status ≡ 1 → MeanNothing words
      → Course words before after status
  is_refused : after ≡ before → status ≡ 2 → AreRefused words → Course words before after status
  meets_limit : after ≡ before → status ≡ 6 → NameManyPaths words ⊎ LackBoxes words before
      → Course words before after status

module _ (words : List (List ℕ)) (before after : List BoxPicture) (out₀ out : Option (List ℕ))
    (write : Type 0) (status : ℕ) where
  abbrev Why : Ending → Type 0
  Why e = EndsFor e words before after out₀ out write

  abbrev HasCourse : Type 0
  HasCourse = Course words before after status

  -- a plan that ran
  ran : {P : Command → Checked → Type 0} (h : OfQuery words P)
      → IsRunnable h.command h.holds.checked before
      → RanPlan h.command h.holds.checked before after → HasCourse
  ran h within r = takes_boxes (of_query h
      (gives_back before after h.command h.holds.checked within r, inl within))

  plan_course : (f : PlanFailure) → status ≡ plan_status f
      → OfQuery words (λ c q. PlanFailsFor f c q before after) → HasCourse
  plan_course (plan.Paths name count) s h = search (arith, meets_limit, of_query)
  plan_course (plan.Stock short) s h = search (arith, meets_limit, of_query)
  plan_course (plan.Part name f) s h = ran h h.holds.holds.runnable h.holds.holds.ran
  plan_course (plan.Unlawful k) s h = ran h h.holds.holds.runnable h.holds.holds.ran
  plan_course plan.Memory s h = search (arith, takes_boxes, of_query, lacks_memory)

  course : (e : Ending) → status ≡ status_of e → Why e → HasCourse
  course Answered s h = ran h.1 h.1.holds.holds.runnable h.1.holds.holds.ran
  course (Failed failure.Usage) s h = lacks_command h.0.1 s h.0.0
  course (Failed (failure.Refused r)) s h = search (arith, refusal_is, lacks_memory, is_refused)
  course (Failed (failure.Plan f)) s h = plan_course f s h.0
  course (Failed failure.Memory) s h = lacks_memory h.0 s
  course WriteFailed s h = ran h.1 h.1.holds.holds.runnable h.1.holds.holds.ran

  -- ---- the corollaries

  -- an answered run wrote the text of an answer, and its boxes pulled the flow of that answer
  pulled_of : (e : Ending) → status ≡ status_of e → Why e → status ≡ 0
      → PulledRows words before after out₀ out
  pulled_of e s h z = search arith

  answered_of : PulledRows words before after out₀ out → WritesAnswer words before out₀ out
  answered_of p = λ files told.
      let w = p files told in
      (w.0, record { command = w.1.command; means = w.1.means; holds = w.1.holds.answer }, w.2)

  -- words that mean no command are told so, or memory ran out
  usage_of : HasCourse → MeanNothing words → IsEither 1 7 status
  usage_of c none = grind (arith, means_something)

  -- a command whose text is not accepted is refused, or memory ran out
  refused_of : HasCourse → AreRefused words → IsEither 2 7 status
  refused_of c o = grind (arith, means_something, moved)

  -- Where a run within the limits of its plan is against P, the end is told as a limit, or memory
  -- ran out.
  limit_of : (P : Command → Checked → Type 0)
      → ((c : Command) (q : Checked) → IsCheckedCommand c q → IsRunnable c q before
      → OfChecked c (P c) → ⊥) → HasCourse → OfQuery words P → IsEither 6 7 status
  limit_of P against h o = grind (arith, means_something, moved)

  -- whatever the status, the rack has its boxes again
  left_of : HasCourse → LeavesBoxes words before after status
  left_of c = grind arith

  -- ---- completeness

  succeeds_of : (e : Ending) → status ≡ status_of e → Why e
      → SucceedsUnless words before (ReaderFails words before after ⊎ write) status
  succeeds_of Answered s h = λ files honest o well. inl s
  succeeds_of (Failed failure.Usage) s h = λ files honest o well. absurd (means_something o h.0.0)
  succeeds_of (Failed (failure.Refused r)) s h = search (arith, refusal_is)
  succeeds_of (Failed (failure.Plan f)) s h = λ files honest o well.
      inr (s ∙ plan_memory before after files h.0.command h.0.holds.checked honest (moved o h.0)
      h.0.holds.is (limits_kept words h.0.command (command_means words h.0.command h.0.means))
      (λ name why. well (inl (of_query h.0 (name, why)))) f h.0.holds.holds)
  succeeds_of (Failed failure.Memory) s h = λ files honest o well. inr s
  succeeds_of WriteFailed s h = λ files honest o well. absurd (well (inr h.3))

  untouched_of : (e : Ending) → status ≡ status_of e → Why e → status ≢ 0 → status ≢ 5
      → Untouched out₀ out
  untouched_of e s h some other = grind arith

  -- all that is proved of a run, from how it ended
  pub is_run : (err₀ err : Option (List ℕ)) (tell : Type 0)
      → Ends words before after status out₀ out write err₀ err tell
      → All IsBlank after → IsRun words before after status out₀ out write err₀ err tell
  is_run err₀ err tell h blank =
      let went = course h.ending h.status_is h.why in
      record {
        ends = h;
        blank = blank;
        answered = λ z. answered_of (pulled_of h.ending h.status_is h.why z);
        pulled = pulled_of h.ending h.status_is h.why;
        untouched = untouched_of h.ending h.status_is h.why;
        usage = usage_of went;
        refused = refused_of went;
        -- where a table names too many paths, or the rack has too few boxes
        paths = limit_of (λ c q. NamesFewPaths c q → ⊥) (λ c q is within o.
            not_crowded c (record { checked = q; is = is; holds = within.paths }) o) went;
        stock = limit_of (λ c q. LacksBoxes (boxes_for c q) before) (λ c q is within o.
            not_lacking c before (record { checked = q; is = is; holds = within.boxes }) o) went;
        rack = left_of went;
        succeeds = succeeds_of h.ending h.status_is h.why;
      }
