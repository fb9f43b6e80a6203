use Rattle.node_workers.proofs.Imports.{All, IsWorkerOver, Worker, ap, as_ended, drop, length, length-map, parts_of, refl, subst, sym, take, take-append_seam, total_over, ℕ, ◌++◌, ◌∙◌}
use Rattle.node_workers.proofs.EndLaws.{cleared-each}
use Rattle.node_workers.proofs.SentNotes.{named_sent}
use Rattle.node_workers.proofs.run.run_shared.Goals as goal

pub clear-requires-after_bounds : goal.clear-requires-after_bounds
clear-requires-after_bounds g c κs within =
    let sum = total_over {V = Worker g.row.P.Denot g.row.J.Denot} parts_of in
    let now = c.run_workers.new.workers in let left = drop (length now) c.args.workers.items in (
      c.part_workers.ensures.parts ∙ (ap sum (ap (λ (n : ℕ). take n (now ++ left)) (sym
          (c.run_workers.auto.workers ∙ c.as_mut_slice.ensures.len)) ∙ take-append_seam now left) ∙
          (c.run_workers.ensures.parts ∙ (ap sum c.as_mut_slice.ensures.value ∙
          c.requires.workers.whole))),
      c.part_workers.ensures.idle,
    )

pub part_workers-requires-clause-workers : goal.part_workers-requires-clause-workers
part_workers-requires-clause-workers g c κs within =
    let now = c.run_workers.new.workers in let left = drop (length now) c.args.workers.items in
    subst (All (IsWorkerOver c.args.shared)) (sym (ap (λ (n : ℕ). take n (now ++ left))
    (sym (c.run_workers.auto.workers ∙ c.as_mut_slice.ensures.len)) ∙ take-append_seam now left))
    c.run_workers.ensures.workers

pub returns : goal.returns
returns g c =
    let now = c.run_workers.new.workers in let left = drop (length now) c.args.workers.items in
    let many = c.run_workers.auto.workers ∙ c.as_mut_slice.ensures.len in record {
      same_table = refl;
      noted = c.requires.shared.notes_are;
      root_of = c.requires.root;
      seats = c.part_workers.ensures.seats;
      one_each = c.part_workers.ensures.count ∙ (ap length (ap (λ (n : ℕ). take n (now ++ left))
          (sym many) ∙ take-append_seam now left) ∙ (many ∙ c.args.workers.ok.0));
      ended = record {
        notes = g.J.Naming.names.notes;
        many = ap length c.end_cells.ensures ∙ (length-map c.clear.result.items as_ended
            ∙ c.clear.ensures.count);
        each = cleared-each g.P.Processor.seen _ _ _ c.end_cells.ensures c.clear.ensures.fit;
      };
    }

pub clear-requires-send-V : goal.clear-requires-send-V
clear-requires-send-V g c κs lives = named_sent _ _ c.type_bounds.send-P c.type_bounds.send-J _
