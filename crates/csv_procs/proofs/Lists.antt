-- A list of parts grows by its paths.
use Rattle.csv_procs.proofs.Imports.{AreOpen, ArePortsOf, BoxPicture, HadPorts, KeepsMade, KeepsRows, KeepsSame, List, Lists, None, NotesEnd, Option, PartSpec, PortFlags, Prepared, Some, Status, inl, inr, kept_input, kept_inputs, kept_output, kept_outputs, kept_ports, length, list_growth, never-true, own_of, refl, subst, sym, true, ◌≡◌}
use Rattle.query_model.specs.declared.processor_spec.Spec.TheVariants as spec

-- A list that asked to grow keeps what it kept once it has grown by its paths.
module _ (list : PartSpec) (p : BoxPicture) (spec' : p.spec ≡ Some (spec.List list))
    (asks : p.notes.answer ≡ Some (Prepared Status.ExpandPipeline)) (ungrown : p.growth ≡ None)
    (fetched : p.work.fetched ≡ true) where
  abbrev grown : BoxPicture
  grown = record p {
    growth = Some (list_growth list p.work.paths);
    notes = record p.notes { acted = true };
  }

  ports-grown : (x : Option PortFlags) → HadPorts x p → AreOpen (kept_ports x) → HadPorts x grown
  ports-grown None had open' = tt
  ports-grown (Some ports) (inl had) open' = inr (
    subst (λ g. ArePortsOf p.spec g (length ports.inputs) (length ports.outputs)) ungrown had,
    open',
  )
  ports-grown (Some ports) (inr had) open' = inr had

  rows-grown : (ins outs : Lists) → AreOpen (kept_ports p.notes.view)
      → KeepsMade (spec.List list) p ins outs → KeepsMade (spec.List list) grown ins outs
  unfolding kept_output
  rows-grown ins outs open' t = record {
    worked = t.worked;
    fit = t.fit;
    ins_are = t.ins_are;
    fit_are = t.fit_are;
    rows = record {
      knows = record {
        before = λ e. never-true _ e fetched;
        read = λ e.
            let r = t.rows.knows.read fetched in
            record {
              text = r.text;
              are = r.are;
              paths_are = r.paths_are;
              bad_line_is =
                  r.bad_line_is;
            };
        grown = refl;
      };
      resized = t.rows.resized;
    };
    over = t.over;
    read = λ o fin. never-true _ (open'.outputs o) fin;
  }

  pub grown-keeps : KeepsSame p grown
  unfolding kept_input kept_output kept_inputs kept_outputs
  grown-keeps ins outs kept = record {
    ports = ports-grown p.notes.view kept.ports (kept.opens asks);
    opens = kept.opens;
    idle = kept.idle;
    rows = subst (λ s. KeepsRows s grown ins outs) (sym spec')
        (rows-grown ins outs (kept.opens asks)
        (subst (λ s. KeepsRows s p ins outs) spec' kept.rows));
    types = kept.types;
    made_types = kept.made_types;
    sizes = kept.sizes;
    made_sizes = kept.made_sizes;
    unworked = kept.unworked;
    counted = kept.counted;
    finishes = kept.finishes;
    closes = λ i fin. elim (kept.closes i fin) [
      | inl all ↦ inl (record { some = all.some; closed = all.closed })
      | inr enough ↦ inr enough
    ];
    noted = λ i there y. absurd (subst (λ s. NotesEnd s (own_of p.work) i) spec' y);
  }
