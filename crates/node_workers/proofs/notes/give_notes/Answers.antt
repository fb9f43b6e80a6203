use denote.Exit as exit
use Rattle.node_workers.proofs.Imports.{arg_send, param_send}
use Rattle.node_workers.proofs.NoteLaws.{first-none}
use Rattle.node_workers.proofs.SentNotes.{noted_sent}
use Rattle.node_workers.proofs.notes.give_notes.Goals as goal

pub loop-k-init : goal.loop-k-init
loop-k-init g c = record {
  root_of = c.requires.notes.root_of;
  made = c.requires.notes.none_made;
  one_each = c.requires.notes.one_each;
  first = λ cells is. rw is (first-none c.args.notes.now.table.shared.table_id c.args.reserves.now
      cells);
}

pub note-note-requires-send-G : goal.note-note-requires-send-G
note-note-requires-send-G g c κs = param_send 0 _ (arg_send _ exit.no _ noted_sent)
