-- What a step of the fetch does, by what the reader gave.
use Rattle.csv_procs.proofs.Imports.{Bool, Fetching, FileState, HoldsFront, HoldsMore, HoldsPart, IsAfter, IsFile, IsKnownOf, IsWholeFile, List, MatchesReader, Notes, Ok, PartSpec, Paths, ReaderState, Rows, StandsAtEnd, Steps, StepsTo, Wake, ap, arith, bad_place, false, inl, length, length-append, raised, refl, stage_in, subst, sym, true, ℕ, ◌+◌, ◌-◌, ◌∙◌, ◌≡◌, ◌≤◌}
use Rattle.csv_procs.proofs.HeldFiles.{HoldsFront-block, HoldsFront-whole}
use Rattle.proc_api.specs.declared.status.Wake.TheVariants as wake

module _ (x y : ReaderState) (after : IsAfter x y) (lists : Bool) (part : PartSpec) (held : List ℕ)
    (n : Notes) (tied : MatchesReader x.files x.position lists part (stage_in part (Fetching held))
    n.given n.pendings) where
  -- nothing but bytes is noted
  noting : (given : ℕ) (s : FileState) (a : Wake) (n' : Notes) → n.given ≤ given
      → n' ≡ record n { given = given }
      → StepsTo x.files lists part (Fetching held) n s (record n { given = given }) a
      × MatchesReader x.files y.position lists part (stage_in part s) given n.pendings
      → Steps x y lists part (Fetching held) s n n' (Ok a)
  noting given s a n' le noted comes = rw noted (record {
    after = after;
    given_kept = le;
    faults_since = λ base le. omega (arith, le, after.faults_kept);
    pendings_since = λ base le. omega (arith, le, after.pendings_kept);
    only = refl;
    comes = comes;
  })

  -- more of the file is held
  pub more-step : (grown : List ℕ) (n' : Notes) → HoldsMore x y held grown 1073741824
      → n' ≡ record n { given = raised n.given (length grown - length held) }
      → Steps x y lists part (Fetching held) (Fetching grown) n n' (Ok wake.Later)
  more-step grown n' more noted =
      let front = tied.front refl refl in
      let long = ap length more.added in
      let sum = length-append held more.block in
      let given : raised n.given (length grown - length held) ≡ length grown =
      omega (arith, front.given_is, long, sum, more.within) in
      noting _ (Fetching grown) wake.Later n'
      (omega (arith, given, front.given_is, long, sum)) noted (
        record {
          within = omega (arith, given, front.given_is, long, sum, more.reads.bound);
          some = inl (omega (arith, given, front.given_is, long, sum, more.reads.some));
        },
        record {
          shut = λ e. absurd (cc);
          front = λ e e'. record {
            front = subst (HoldsFront x.files y.position part.path) (sym more.added)
                (HoldsFront-block more.block front.front more.reads.next more.reads.moved);
            found = front.found;
            given_is = given;
          };
          read = λ e. absurd (cc);
          few_pendings = tied.few_pendings;
          few_bytes = omega (arith, given, more.within);
        },
      )

  -- the file is fetched whole
  pub whole-step : (s : FileState) (n' : Notes) → StandsAtEnd x.files x.position
      → y.position ≡ x.position → n' ≡ n → IsWholeFile lists part.header held s
      → Steps x y lists part (Fetching held) s n n' (Ok wake.Ready)
  whole-step s n' end still same whole =
      noting n.given s wake.Ready n' (omega arith) same (comes lists s whole)
    where
      front : HoldsPart x.files x.position part held n.given
      front = tied.front refl refl

      is-file : IsFile x.files part.path held
      is-file = HoldsFront-whole front.front end front.found

      tie : (b : Bool) (s : FileState) → (stage_in part s).opened ≡ true
          → (stage_in part s).fetched ≡ true → IsKnownOf b part held (stage_in part s)
          → MatchesReader x.files y.position b part (stage_in part s) n.given n.pendings
      tie b s opened fetched known = record {
        shut = λ e. absurd (let wrong = sym opened ∙ e in cc);
        front = λ e e'. absurd (let wrong = sym fetched ∙ e' in cc);
        read = λ e. record {
          bytes = held;
          are = is-file;
          known = known;
          given_is = front.given_is;
          at = still ∙ front.front.at;
        };
        few_pendings = tied.few_pendings;
        few_bytes = tied.few_bytes;
      }

      comes : (b : Bool) (s : FileState) → IsWholeFile b part.header held s
          → StepsTo x.files b part (Fetching held) n s n wake.Ready
          × MatchesReader x.files y.position b part (stage_in part s) n.given n.pendings
      comes false (Rows r) w = (
        (record { bytes = held; are = is-file; whole = w }, refl),
        tie false (Rows r) refl refl (ap (λ c. bad_place (c + 1) part.types r.rest) w.1
            ∙ ap (bad_place 1 part.types) w.0),
      )
      comes true (Paths l) w = (
        (record { bytes = held; are = is-file; whole = w }, refl),
        tie true (Paths l) refl refl (w.0, w.1),
      )
      comes b s w = absurd w
